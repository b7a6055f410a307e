-- The counts that are left, beside the functions that are left.
use Rattle.std.proofs.Common.{◌≡◌, ◌<◌, ◌+◌, ◌^◌, ℕ, suc, not, Bool, true, false, cond, List, [], ◌∷◌, length, get_or, drop, drop-cons, add-one, refl, sym, ap, subst, ◌∙◌, arith}
use Rattle.std.specs.Prelude.{filter, sum_by}
use Rattle.std.proofs.lemmas.List.Sums.{sum_by-cons}
use Rattle.std.specs.List.{AllZip}
use Rattle.ir_types.specs.Rules.{is_nil}
use Rattle.ir_types.specs.declared.syntax.Function.{Function}
use Rattle.profile.specs.declared.counts.FnCounts.{FnCounts}
use Rattle.profile.specs.Counts.{AreCounts, is_defined, total}

-- the counts of the defined functions from place n on, within the bound of all
abbrev pub AreLeft : List Function → ℕ → List FnCounts → Type 0
AreLeft fs n rest = AllZip AreCounts (filter is_defined (drop n fs)) rest × (sum_by total rest < 2 ^ 62)

some_is : {X : Type 0} (xs : List X) → (length xs ≡ 0 → ⊥) → is_nil xs ≡ false
some_is [] full = absurd (full refl)
some_is (x ∷ xs) full = refl

none_is : {X : Type 0} (xs : List X) → length xs ≡ 0 → is_nil xs ≡ true
none_is [] empty = refl
none_is (x ∷ xs) empty = absurd (omega (arith, empty))

-- the functions from place n on, by the one at place n
from_place : (fs : List Function) (n : ℕ) (f : Function) (b : Bool) → n < length fs → f ≡ get_or fs n f → is_nil f.blocks ≡ b
    → filter is_defined (drop n fs) ≡ cond (not b) (f ∷ filter is_defined (drop (suc n) fs)) (filter is_defined (drop (suc n) fs))
from_place fs n f b there is none =
    let later = drop (suc n) fs in
    ap (filter is_defined) (drop-cons fs n f there)
    ∙ ap (λ y. filter is_defined (y ∷ later)) (sym is)
    ∙ ap (λ x. cond (not x) (f ∷ filter is_defined later) (filter is_defined later)) none

small_first : (a b : ℕ) → a + b < 2 ^ 62 → a < 2 ^ 62
small_first a b lt = omega arith

small_part : (a b : ℕ) → a + b < 2 ^ 62 → b < 2 ^ 62
small_part a b lt = omega arith

pub next_counted : (fs : List Function) (n : ℕ) (f : Function) (own : FnCounts) (later : List FnCounts) → n < length fs → f ≡ get_or fs n f → (length f.blocks ≡ 0 → ⊥)
    → AreLeft fs n (own ∷ later) → AreCounts f own × (total own < 2 ^ 62) × AreLeft fs (n + 1) later
next_counted fs n f own later there is some left =
    let P : List Function → Type 0 = λ l. AllZip AreCounts l (own ∷ later) in
    let all : P (f ∷ filter is_defined (drop (suc n) fs)) = subst P (from_place fs n f false there is (some_is f.blocks some)) left.0 in
    let sum : sum_by total (own ∷ later) ≡ total own + sum_by total later = sum_by-cons total own later in
    let rest : AreLeft fs (suc n) later = (all.1, small_part (total own) (sum_by total later) (subst (λ k. k < 2 ^ 62) sum left.1)) in
    (all.0, small_first (total own) (sum_by total later) (subst (λ k. k < 2 ^ 62) sum left.1), subst (λ k. AreLeft fs k later) (sym (add-one n)) rest)

pub next_undefined : (fs : List Function) (n : ℕ) (f : Function) (rest : List FnCounts) → n < length fs → f ≡ get_or fs n f → length f.blocks ≡ 0
    → AreLeft fs n rest → AreLeft fs (n + 1) rest
next_undefined fs n f rest there is none left =
    let P : List Function → Type 0 = λ l. AllZip AreCounts l rest in
    let later : AreLeft fs (suc n) rest = (subst P (from_place fs n f true there is (none_is f.blocks none)) left.0, left.1) in
    subst (λ k. AreLeft fs k rest) (sym (add-one n)) later
