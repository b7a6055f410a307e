-- A definition of the next name adds it, and breaks no rule.
use Rattle.std.proofs.Common.{◌≡◌, ◌+◌, ◌-◌, ◌^◌, ◌++◌, min, false, List, [], ◌∷◌, Option, None, Some, is_some, if◌then◌else◌, map, refl, sym, ap, subst, ◌∙◌, append_assoc, arith}
use Rattle.std.specs.List.{IsDistinct, AllByRecursion}
use Rattle.std.specs.Map.{lookup, keys_of}
use Rattle.std.proofs.lemmas.List.{map_push}
use Rattle.std.proofs.lemmas.Map.Entries.{lookup_tail}
use Rattle.std.proofs.lemmas.Bool.Decides.{nat_tests}
use Rattle.ir_types.specs.Names.{spelled, IsSpellable}
use Rattle.ir_types.specs.Definitions.{Defined, same_name, define, name_problem, is_other_number, with_meaning}
use Rattle.ir_types.specs.WellFormed.{CountFrom}
use Rattle.ir_types.specs.declared.name.Name.{Name}
use Rattle.ir_types.specs.declared.name.Name.TheVariants.{Text, Number, Made}
use Rattle.ir_types.specs.declared.rules.Meaning.{Meaning}
use Rattle.ir_types.specs.declared.rules.Rule.TheVariants as rule
use Rattle.ir_types.specs.declared.span.At.{At}
use Rattle.ir_types.specs.declared.span.Span.{Span}
use Rattle.module_trees.proofs.Names.{name_equivalence}
use Rattle.module_trees.proofs.Problems.{then_none, unbroken}

-- the names that are still to come differ from those that are there, and count on
pub record IsReady (d : Defined) (ns : List Name) : Type 0 where
  pub differ : IsDistinct same_name (keys_of d.meanings ++ map spelled ns)
  pub counts : CountFrom d.next ns
  pub spellable : AllByRecursion IsSpellable ns

-- the definition of a name with this meaning
pub record IsDefined (d : Defined) (n : Name) (ns : List Name) (m : Meaning) (written : At Name) : Type 0 where
  pub problem : name_problem d (Some written) ≡ None
  pub meanings : (define d (Some written) m).meanings ≡ d.meanings ++ (spelled n, m) ∷ []
  pub ready : IsReady (define d (Some written) m) ns

at_middle : (P : Name → Type 0) (ks : List Name) (x : Name) (xs : List Name) → AllByRecursion P (ks ++ x ∷ xs) → P x
at_middle P [] x xs h = h.0
at_middle P (k ∷ ks) x xs h = at_middle P ks x xs h.1

-- a name that is still to come isn't found
absent : (es : List (Name × Meaning)) (x : Name) (xs : List Name) → IsDistinct same_name (keys_of es ++ x ∷ xs) → lookup (same_name x) es ≡ None
unfolding IsDistinct
absent [] x xs h = refl
absent (e ∷ es) x xs h =
    let off : same_name e.0 x ≡ false = at_middle (λ y. same_name e.0 y ≡ false) (keys_of es) x xs h.0 in
    lookup_tail (same_name x) e es (name_equivalence.symm x e.0 ∙ off) ∙ absent es x xs h.1

moved : (es : List (Name × Meaning)) (x : Name) (m : Meaning) (xs : List Name) → keys_of es ++ x ∷ xs ≡ keys_of (es ++ (x, m) ∷ []) ++ xs
moved es x m xs = sym (ap (λ ks. ks ++ xs) (map_push (λ (e : Name × Meaning). e.0) es (x, m)) ∙ append_assoc (keys_of es) (x ∷ []) xs)

new_meaning : (es : List (Name × Meaning)) (x : Name) (m : Meaning) → lookup (same_name x) es ≡ None → with_meaning es x m ≡ es ++ (x, m) ∷ []
new_meaning es x m h = ap (λ (r : Option Meaning). if is_some r then es else (es ++ (x, m) ∷ [])) h

is_next : (d : Defined) (n : Name) (ns : List Name) → CountFrom d.next (n ∷ ns) → is_other_number d (spelled n) ≡ false
is_next d (Text bytes) ns h = refl
is_next d (Made j x) ns h = refl
is_next d (Number n) ns h = let same : n ≡ d.next = h.0 in rw same (grind (arith, nat_tests))

counts_on : (d : Defined) (n : Name) (ns : List Name) (s : Span) (m : Meaning) → IsSpellable n → CountFrom d.next (n ∷ ns) → CountFrom (define d (Some (record { item = spelled n; span = s })) m).next ns
counts_on d (Text bytes) ns s m few h = h
counts_on d (Made j x) ns s m few h = h
counts_on d (Number n) ns s m few h =
    let same : n ≡ d.next = h.0 in
    let next : d.next + 1 ≡ min (d.next + 1) (2 ^ 32 - 1) = omega (arith, same, few) in
    subst (λ k. CountFrom k ns) next h.1

defined_here : (d : Defined) (n : Name) (ns : List Name) (m : Meaning) (s : Span) → IsReady d (n ∷ ns) → IsDefined d n ns m (record { item = spelled n; span = s })
defined_here d n ns m s h =
    let free : lookup (same_name (spelled n)) d.meanings ≡ None = absent d.meanings (spelled n) (map spelled ns) h.differ in
    let found : with_meaning d.meanings (spelled n) m ≡ d.meanings ++ (spelled n, m) ∷ [] = new_meaning d.meanings (spelled n) m free in
    record {
      problem = then_none _ _ (unbroken rule.Duplicate s _ (ap is_some free)) (unbroken rule.BadNumber s _ (is_next d n ns h.counts));
      meanings = found;
      ready = record {
        differ = subst (λ es. IsDistinct same_name (keys_of es ++ map spelled ns)) (sym found) (subst (IsDistinct same_name) (moved d.meanings (spelled n) m (map spelled ns)) h.differ);
        counts = counts_on d n ns s m h.spellable.0 h.counts;
        spellable = h.spellable.1;
      };
    }

pub defined : (d : Defined) (n : Name) (ns : List Name) (m : Meaning) (written : At Name) → IsReady d (n ∷ ns) → written.item ≡ spelled n → IsDefined d n ns m written
defined d n ns m written h e = subst (λ x. IsDefined d n ns m (record { item = x; span = written.span })) (sym e) (defined_here d n ns m written.span h)
