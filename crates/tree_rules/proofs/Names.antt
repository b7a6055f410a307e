-- Definitions without a problem: names that differ, can be spelled, and count.
use Rattle.std.proofs.Common.{◌≡◌, ◌<◌, ◌≤◌, ◌+◌, ◌++◌, min, ℕ, Bool, true, false, List, [], ◌∷◌, Option, None, Some, map, if◌then◌else◌, append_assoc, append-nil, refl, sym, ap, ◌∙◌, rules, arith}
use Rattle.std.specs.Prelude.{All}
use Rattle.std.proofs.lemmas.List.{map_push}
use Rattle.std.proofs.lemmas.List.Elements.{All-nil, All-push}
use Rattle.ir_types.specs.declared.span.At.{At}
use Rattle.ir_types.specs.declared.span.Span.{Span}
use Rattle.ir_types.specs.declared.name.Name.{Name}
use Rattle.ir_types.specs.declared.name.Name.TheVariants.{Text, Number, Made}
use Rattle.ir_types.specs.declared.rules.Meaning.{Meaning}
use Rattle.ir_types.specs.Names.{IsNameText, spelled, IsSpellable}
use Rattle.ir_types.specs.WellFormed.{CountFrom}
use Rattle.ir_types.specs.Written.{IsDefinable}
use Rattle.ir_types.specs.Definitions.{Defined, nothing, name_of, define, is_counted, name_problem}
use Rattle.tree_rules.proofs.Distinct.{both_none, kept, equal, IsSound, defines, sound_after}

abbrev pub key : Name × Meaning → Name
key e = e.0

-- a name that stands in a text
abbrev pub IsPlain : Name → Type 0
IsPlain (Text bytes) = IsNameText bytes
IsPlain (Number n) = n < 4294967295
IsPlain (Made _ _) = ⊥

pub plain_spellable : (n : Name) → IsPlain n → IsSpellable n
plain_spellable (Text bytes) h = h
plain_spellable (Number n) h = h
plain_spellable (Made j made) h = tt

pub plain_spelled : (n : Name) → IsPlain n → spelled n ≡ n
plain_spelled (Text bytes) h = refl
plain_spelled (Number n) h = refl
plain_spelled (Made j made) h = absurd h

-- the numbers among the names go up by one, from one number to another
unfoldable pub CountsTo : ℕ → List Name → ℕ → Type 0
CountsTo next [] end = next ≡ end
CountsTo next (Number n ∷ ns) end = (n ≡ next) × CountsTo (next + 1) ns end
CountsTo next (Text _ ∷ ns) end = CountsTo next ns end
CountsTo next (Made _ _ ∷ ns) end = CountsTo next ns end

pub counts_from : (next end : ℕ) (ns : List Name) → CountsTo next ns end → CountFrom next ns
unfolding CountsTo
counts_from next end [] h = tt
counts_from next end (Number n ∷ ns) h = (h.0, counts_from (next + 1) end ns h.1)
counts_from next end (Text t ∷ ns) h = counts_from next end ns h
counts_from next end (Made j made ∷ ns) h = counts_from next end ns h

-- one name more
abbrev CountsOne : ℕ → Name → ℕ → Type 0
CountsOne next (Number n) end = (n ≡ next) × (next + 1 ≡ end)
CountsOne next (Text _) end = next ≡ end
CountsOne next (Made _ _) end = next ≡ end

counts_push : (next mid end : ℕ) (ns : List Name) (n : Name) → CountsTo next ns mid → CountsOne mid n end → CountsTo next (ns ++ n ∷ []) end
unfolding CountsTo
counts_push next mid end [] (Number n) h one = (one.0 ∙ sym h, omega (arith, one.1, h))
counts_push next mid end [] (Text t) h one = h ∙ one
counts_push next mid end [] (Made j made) h one = h ∙ one
counts_push next mid end (Number k ∷ ns) n h one = (h.0, counts_push (next + 1) mid end ns n h.1 one)
counts_push next mid end (Text t ∷ ns) n h one = counts_push next mid end ns n h one
counts_push next mid end (Made j made ∷ ns) n h one = counts_push next mid end ns n h one

-- names that differ, are spelled in a text, and count
pub record Names (d : Defined) : Type 0 where
  pub sound : IsSound d
  pub plain : All IsPlain (map key d.meanings)
  pub counts : CountsTo 0 (map key d.meanings) d.next

pub nothing_named : Names nothing
unfolding CountsTo
nothing_named = record { sound = record { differ = search rules; free = λ k l u. refl }; plain = All-nil IsPlain; counts = refl }

-- definitions of these names, which take at most so many numbers
pub record Grown (d : Defined) (new : Defined) (ns : List Name) (n : ℕ) : Type 0 where
  pub names : Names new
  pub keys : map key new.meanings ≡ map key d.meanings ++ ns
  pub next : new.next ≤ d.next + n

pub none_grown : (d : Defined) (n : ℕ) → Names d → Grown d d [] n
none_grown d n ns = record { names = ns; keys = sym (append-nil (map key d.meanings)); next = omega arith }

pub then_grown : (d e f : Defined) (ns ms : List Name) (a b : ℕ) → Grown d e ns a → Grown e f ms b → Grown d f (ns ++ ms) (a + b)
then_grown d e f ns ms a b g h = record {
  names = h.names;
  keys = h.keys ∙ (ap (λ (l : List Name). l ++ ms) g.keys ∙ append_assoc (map key d.meanings) ns ms);
  next = omega (arith, g.next, h.next);
}

pub same_grown : (d new : Defined) (ns ms : List Name) (a b : ℕ) → ns ≡ ms → a ≤ b → Grown d new ns a → Grown d new ms b
same_grown d new ns ms a b e l g = record { names = g.names; keys = rw (← e) g.keys; next = omega (arith, g.next) }

counted_next : (b : Bool) (n : ℕ) → (if b then min (n + 1) 4294967295 else n) ≤ n + 1
counted_next true n = omega arith
counted_next false n = omega arith

module _ (d : Defined) (m : Meaning) (room : d.next < 4294967295) where
  counts_some : (x : Name) (s : Span) → name_problem d (Some (record { item = x; span = s })) ≡ None → CountsOne d.next x (define d (Some (record { item = x; span = s })) m).next
  counts_some (Text t) s h = refl
  counts_some (Made j made) s h = refl
  counts_some (Number j) s h = (equal j d.next (kept _ _ _ (both_none _ _ h).1), omega arith)

  counts_one : (written : Option (At Name)) → name_problem d written ≡ None → CountsOne d.next (name_of d written) (define d written m).next
  counts_one None h = (refl, omega arith)
  counts_one (Some n) h = counts_some n.item n.span h

  plain_some : (x : Name) (s : Span) → name_problem d (Some (record { item = x; span = s })) ≡ None → IsDefinable (Some (record { item = x; span = s })) → IsPlain x
  plain_some (Text t) s h w = w
  plain_some (Made j made) s h w = w
  plain_some (Number j) s h w = let next : j ≡ d.next = equal j d.next (kept _ _ _ (both_none _ _ h).1) in omega arith

  plain_one : (written : Option (At Name)) → name_problem d written ≡ None → IsDefinable written → IsPlain (name_of d written)
  plain_one None h w = room
  plain_one (Some n) h w = plain_some n.item n.span h w

  keys_more : (written : Option (At Name)) → IsSound d → name_problem d written ≡ None → map key (define d written m).meanings ≡ map key d.meanings ++ name_of d written ∷ []
  keys_more written sound h = ap (λ (es : List (Name × Meaning)). map key es) (defines d m room sound written h) ∙ map_push key d.meanings (name_of d written, m)

  names_more : (written : Option (At Name)) → Names d → name_problem d written ≡ None → IsDefinable written → Names (define d written m)
  names_more written ns h w = record {
    sound = sound_after d m room ns.sound written h;
    plain = rw (keys_more written ns.sound h) (All-push IsPlain (map key d.meanings) (name_of d written) ns.plain (plain_one written h w));
    counts = rw (keys_more written ns.sound h) (counts_push 0 d.next (define d written m).next (map key d.meanings) (name_of d written) ns.counts (counts_one written h));
  }

  -- one definition without a problem
  pub one_grown : (written : Option (At Name)) → Names d → name_problem d written ≡ None → IsDefinable written → Grown d (define d written m) (name_of d written ∷ []) 1
  one_grown written ns h w = record { names = names_more written ns h w; keys = keys_more written ns.sound h; next = counted_next (is_counted written) d.next }
