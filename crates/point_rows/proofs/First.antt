-- The first function that has blocks has the first counts.
use Rattle.std.proofs.Common.{◌≡◌, ℕ, ◌+◌, ◌<◌, not, false, cond, List, [], ◌∷◌, ◌++◌, Some, length, take, drop, get_or, slice_get, refl, sym, ap, subst, ◌∙◌, arith}
use Rattle.std.specs.Prelude.{filter}
use Rattle.std.specs.List.{AllZip}
use Rattle.std.proofs.lemmas.List.{drop_more, take-append-drop}
use Rattle.std.proofs.lemmas.List.Elements.{filter-append}
use Rattle.std.proofs.lemmas.Option.{same_Some}
use Rattle.ir_types.specs.Rules.{is_nil}
use Rattle.ir_types.specs.declared.syntax.Function.{Function}
use Rattle.profile.specs.declared.counts.FnCounts.{FnCounts}
use Rattle.profile.specs.Counts.{AreCounts, is_defined}

some_is : {X : Type 0} (xs : List X) → 0 < length xs → is_nil xs ≡ false
some_is [] lt = absurd (omega (arith, lt))
some_is (x ∷ xs) lt = refl

first_of : (fs : List Function) (f : Function) (counts : List FnCounts) (c : FnCounts) → AllZip AreCounts (f ∷ fs) counts → slice_get counts 0 ≡ Some c → AreCounts f c
first_of fs f [] c are there = absurd are
first_of fs f (d ∷ counts) c are there = subst (AreCounts f) (same_Some d c there) are.0

-- no function before number i has blocks, and this one has
pub first_counts : (all : List Function) (counts : List FnCounts) (i : ℕ) (f : Function) (c : FnCounts) → i < length all → f ≡ get_or all i f → 0 < length f.blocks → filter is_defined (take i all) ≡ []
    → AllZip AreCounts (filter is_defined all) counts → slice_get counts 0 ≡ Some c → AreCounts f c
first_counts all counts i f c lt is some before are there =
    let rest : filter is_defined (drop i all) ≡ f ∷ filter is_defined (drop (i + 1) all) =
    ap (filter is_defined) (drop_more all i f lt ∙ ap (λ g. g ∷ drop (i + 1) all) (sym is)) ∙ ap (λ b. cond b (f ∷ filter is_defined (drop (i + 1) all)) (filter is_defined (drop (i + 1) all))) (ap not (some_is f.blocks some)) in
    let whole : filter is_defined all ≡ f ∷ filter is_defined (drop (i + 1) all) =
    ap (filter is_defined) (sym (take-append-drop i all)) ∙ filter-append is_defined (take i all) (drop i all) ∙ ap (λ l. l ++ filter is_defined (drop i all)) before ∙ rest in
    first_of (filter is_defined (drop (i + 1) all)) f counts c (subst (λ l. AllZip AreCounts l counts) whole are) there
