-- The place of a block among ascending ones.
use Rattle.std.proofs.Common.{◌≡◌, ℕ, ◌<◌, ◌≤◌, List, length, get_or, Some, ap, arith, subst, ⊎_elim, All, AllPairs}
use Rattle.std.specs.Prelude.{slice_get, Result, Ok, Err}
use Rattle.std.specs.List.Sorted.{IsStrictlyIncreasing, IsBinarySearchResult}
use Rattle.std.specs.Ordering.{nat_cmp}
use Rattle.std.specs.Result.{MatchResult}
use Rattle.std.proofs.lemmas.Bool.{cases_lt, cases_eq}
use Rattle.std.proofs.lemmas.List.Kept.{AllPairs-from_increasing}
use Rattle.std.proofs.lemmas.List.Sorted.{searched}
use Rattle.std.proofs.lemmas.Option.{slice_get_within, get_or_from_slice_get}
use Rattle.function_graphs.specs.Graphs.{place_in}

module _ (blocks : List ℕ) (b : ℕ) (increases : IsStrictlyIncreasing blocks) (there : slice_get blocks (place_in blocks b) ≡ Some b) where
  rises : AllPairs (λ x y. x < y) blocks
  rises = AllPairs-from_increasing blocks increases

  climbs : (i j : ℕ) → i ≤ j → j < length blocks → get_or blocks i 0 ≤ get_or blocks j 0
  climbs i j le lt =
      ⊎_elim
      (λ (below : i < j). let r = rises i j 0 below lt in omega arith)
      (λ (above : j ≤ i). let same : i ≡ j = omega arith in let e = ap (λ k. get_or blocks k 0) same in omega arith)
      (cases_lt i j)

  inside : place_in blocks b < length blocks
  inside = slice_get_within blocks (place_in blocks b) b there

  is : get_or blocks (place_in blocks b) 0 ≡ b
  is = get_or_from_slice_get blocks (place_in blocks b) b 0 there

  one_place : (i : ℕ) → i < length blocks → get_or blocks i 0 ≡ b → i ≡ place_in blocks b
  one_place i lt e =
      ⊎_elim
      (λ (below : i < place_in blocks b). let r = rises i (place_in blocks b) 0 below inside in absurd (omega (arith, r, e, is)))
      (λ (above : place_in blocks b ≤ i).
      ⊎_elim
      (λ (same : i ≡ place_in blocks b). same)
      (λ (other : i ≡ place_in blocks b → ⊥). let r = rises (place_in blocks b) i 0 (omega arith) lt in absurd (omega (arith, r, e, is)))
      (cases_eq i (place_in blocks b)))
      (cases_lt i (place_in blocks b))

  found_by : (r : Result ℕ ℕ) → MatchResult r (λ i. (i < length blocks) × (get_or blocks i 0 ≡ b)) (λ i. (i ≤ length blocks) × ((k : ℕ) → k < i → get_or blocks k 0 < b) × ((k : ℕ) → i ≤ k → k < length blocks → b < get_or blocks k 0))
      → r ≡ Ok (place_in blocks b)
  found_by (Ok i) h = ap (λ k. Ok k) (one_place i h.0 h.1)
  found_by (Err i) h =
      ⊎_elim
      (λ (below : place_in blocks b < i). let r = h.1 (place_in blocks b) below in absurd (omega (arith, r, is)))
      (λ (above : i ≤ place_in blocks b). let r = h.2 (place_in blocks b) above inside in absurd (omega (arith, r, is)))
      (cases_lt (place_in blocks b) i)

  -- the search finds its place
  pub place_found : (r : Result ℕ ℕ) → IsBinarySearchResult (λ y. nat_cmp y b) blocks r → r ≡ Ok (place_in blocks b)
  place_found r h = found_by r (searched blocks b r h climbs)

-- what holds of all holds of the one that stands there
pub one_of : (P : ℕ → Type 0) (xs : List ℕ) (k x : ℕ) → All P xs → slice_get xs k ≡ Some x → P x
one_of P xs k x all there = subst P (get_or_from_slice_get xs k x 0 there) (all k 0 (slice_get_within xs k x there))
