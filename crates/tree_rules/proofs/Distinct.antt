-- Where no definition has a problem, each adds a new name: a thing without a written name never meets a name that is there.
use Rattle.std.proofs.Common.{◌≡◌, ◌<◌, ◌≤◌, ◌+◌, ◌++◌, min, ℕ, Bool, true, false, not, List, [], ◌∷◌, Option, None, Some, is_some, if◌then◌else◌, cond, map, refl, sym, ap, ◌∙◌, true≢false, rules, arith}
use Rattle.std.specs.Prelude.{◌≢◌, ◌==◌, All, AllPairs}
use Rattle.std.specs.Map.{lookup}
use Rattle.std.proofs.lemmas.List.Elements.{All-cons}
use Rattle.std.proofs.lemmas.List.Quantifiers.{all_pairs_push}
use Rattle.std.proofs.lemmas.List.{map_push}
use Rattle.std.proofs.lemmas.Bool.Decides.{nat_tests}
use Rattle.ir_types.specs.declared.span.At.{At}
use Rattle.ir_types.specs.declared.span.Span.{Span}
use Rattle.ir_types.specs.declared.name.Name.{Name}
use Rattle.ir_types.specs.declared.name.Name.TheVariants.{Text, Number, Made}
use Rattle.ir_types.specs.declared.rules.Meaning.{Meaning}
use Rattle.ir_types.specs.declared.rules.Rule.{Rule}
use Rattle.ir_types.specs.declared.rules.Problem.{Problem}
use Rattle.ir_types.specs.Problems.{◌>>◌, broken}
use Rattle.ir_types.specs.Definitions.{Defined, same_name, name_of, define, name_problem}

-- two parts have no problem only where neither has
pub both_none : (p q : Option Problem) → (p >> q) ≡ None → (p ≡ None) × (q ≡ None)
both_none None q h = (refl, h)
both_none (Some p) q h = cc

pub kept : (r : Rule) (s : Span) (b : Bool) → broken r s b ≡ None → b ≡ false
kept r s true h = cc
kept r s false h = refl

pub same : (a b : Name) → same_name a b ≡ true → a ≡ b
same a b h = search rules

pub itself : (a : Name) → same_name a a ≡ true
itself a = search rules

other : (a b : Name) → a ≢ b → same_name a b ≡ false
other a b d = by (same_name a b) refl
  where
    by : (t : Bool) → same_name a b ≡ t → t ≡ false
    by true e = absurd (d (same a b e))
    by false e = refl

pub is_none : {X : Type 0} (r : Option X) → is_some r ≡ false → r ≡ None
is_none None h = refl
is_none (Some x) h = cc

-- a name that a look-up doesn't find differs from each that is there
absent_more : (e : Name × Meaning) (es : List (Name × Meaning)) (n : Name) (b : Bool) → same_name n e.0 ≡ b → lookup (same_name n) (e ∷ es) ≡ None
    → (lookup (same_name n) es ≡ None → All (λ x. x ≢ n) (map (λ (e : Name × Meaning). e.0) es)) → All (λ x. x ≢ n) (map (λ (e : Name × Meaning). e.0) (e ∷ es))
absent_more e es n true p h rest = let found : Some e.1 ≡ None = ap (λ (b : Bool). cond b (Some e.1) (lookup (same_name n) es)) (sym p) ∙ h in cc
absent_more e es n false p h rest =
    let later : lookup (same_name n) es ≡ None = ap (λ (b : Bool). cond b (Some e.1) (lookup (same_name n) es)) (sym p) ∙ h in
    All-cons (λ (x : Name). x ≢ n) e.0 (map (λ (e : Name × Meaning). e.0) es) (λ q. let itself_so : same_name n e.0 ≡ true = rw q (itself n) in true≢false (sym itself_so ∙ p)) (rest later)

absent : (ms : List (Name × Meaning)) (n : Name) → lookup (same_name n) ms ≡ None → All (λ x. x ≢ n) (map (λ (e : Name × Meaning). e.0) ms)
absent [] n h = λ k d l. absurd (omega arith)
absent (e ∷ es) n h = absent_more e es n (same_name n e.0) refl h (absent es n)

still_more : (t : Name → Bool) (e : Name × Meaning) (es : List (Name × Meaning)) (n : Name) (m : Meaning) (b : Bool) → t e.0 ≡ b → lookup t (e ∷ es) ≡ None
    → (lookup t es ≡ None → lookup t (es ++ (n, m) ∷ []) ≡ None) → lookup t (e ∷ (es ++ (n, m) ∷ [])) ≡ None
still_more t e es n m true p h rest = let found : Some e.1 ≡ None = ap (λ (b : Bool). cond b (Some e.1) (lookup t es)) (sym p) ∙ h in cc
still_more t e es n m false p h rest =
    let later : lookup t es ≡ None = ap (λ (b : Bool). cond b (Some e.1) (lookup t es)) (sym p) ∙ h in
    ap (λ (b : Bool). cond b (Some e.1) (lookup t (es ++ (n, m) ∷ []))) p ∙ rest later

still_absent : (t : Name → Bool) (ms : List (Name × Meaning)) (n : Name) (m : Meaning) → lookup t ms ≡ None → t n ≡ false → lookup t (ms ++ (n, m) ∷ []) ≡ None
still_absent t [] n m h f = ap (λ (b : Bool). cond b (Some m) None) f
still_absent t (e ∷ es) n m h f = still_more t e es n m (t e.0) refl h (λ later. still_absent t es n m later f)

pub equal : (a b : ℕ) → not (a == b) ≡ false → a ≡ b
equal a b h = grind (arith, nat_tests)

-- names differ, and the numbers from the next on are free
pub record IsSound (d : Defined) : Type 0 where
  pub differ : AllPairs (λ a b. a ≢ b) (map (λ (e : Name × Meaning). e.0) d.meanings)
  pub free : (k : ℕ) → d.next ≤ k → k < 4294967295 → lookup (same_name (Number k)) d.meanings ≡ None

module _ (d : Defined) (m : Meaning) (room : d.next < 4294967295) (sound : IsSound d) where
  pub is_new : (written : Option (At Name)) → name_problem d written ≡ None → lookup (same_name (name_of d written)) d.meanings ≡ None
  is_new None h = sound.free d.next (omega arith) room
  is_new (Some n) h = is_none (lookup (same_name n.item) d.meanings) (kept _ _ _ (both_none _ _ h).0)

  -- the definition comes last
  pub defines : (written : Option (At Name)) → name_problem d written ≡ None → (define d written m).meanings ≡ d.meanings ++ (name_of d written, m) ∷ []
  defines written h = ap (λ (r : Option Meaning). if is_some r then d.meanings else (d.meanings ++ (name_of d written, m) ∷ [])) (is_new written h)

  differ_still : (written : Option (At Name)) → name_problem d written ≡ None → AllPairs (λ a b. a ≢ b) (map (λ (e : Name × Meaning). e.0) (define d written m).meanings)
  differ_still written h =
      rw (defines written h, map_push (λ (e : Name × Meaning). e.0) d.meanings (name_of d written, m))
      (all_pairs_push (λ (a : Name) (b : Name). a ≢ b) (map (λ (e : Name × Meaning). e.0) d.meanings) (name_of d written) sound.differ (absent d.meanings (name_of d written) (is_new written h)))

  free_after : (written : Option (At Name)) (h : name_problem d written ≡ None) (k : ℕ) → d.next ≤ k → k < 4294967295 → Number k ≢ name_of d written → lookup (same_name (Number k)) (define d written m).meanings ≡ None
  free_after written h k l u ne = rw (defines written h) (still_absent (same_name (Number k)) d.meanings (name_of d written) m (sound.free k l u) (other (Number k) (name_of d written) ne))

  free_number : (k : ℕ) → min (d.next + 1) 4294967295 ≤ k → k < 4294967295 → Number k ≢ Number d.next
  free_number k l u e = let same_number : k ≡ d.next = cc in absurd (omega arith)

  -- a definition without a problem keeps the table sound
  sound_some : (x : Name) (s : Span) → name_problem d (Some (record { item = x; span = s })) ≡ None → IsSound (define d (Some (record { item = x; span = s })) m)
  sound_some (Text t) s h = record { differ = differ_still (Some (record { item = Text t; span = s })) h; free = λ k l u. free_after (Some (record { item = Text t; span = s })) h k l u (λ e. cc) }
  sound_some (Made j made) s h = record { differ = differ_still (Some (record { item = Made j made; span = s })) h; free = λ k l u. free_after (Some (record { item = Made j made; span = s })) h k l u (λ e. cc) }
  sound_some (Number j) s h = record {
    differ = differ_still (Some (record { item = Number j; span = s })) h;
    free = λ k l u.
        let next : j ≡ d.next = equal j d.next (kept _ _ _ (both_none _ _ h).1) in
        free_after (Some (record { item = Number j; span = s })) h k (omega (arith, l)) u (λ e. free_number k l u (e ∙ ap Number next));
  }

  pub sound_after : (written : Option (At Name)) → name_problem d written ≡ None → IsSound (define d written m)
  sound_after None h = record { differ = differ_still None h; free = λ k l u. free_after None h k (omega arith) u (free_number k l u) }
  sound_after (Some n) h = sound_some n.item n.span h
