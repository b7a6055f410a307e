-- Lists that what they hold determines.
use Rattle.std.proofs.Common.{◌≡◌, ◌≢◌, ◌⊎◌, inl, inr, ⊎_elim, ℕ, zero, suc, ◌<◌, ◌≤◌, Bool, true, false, List, [], ◌∷◌, length, get_or, Option, Some, None, refl, sym, ap, ◌∙◌, arith}
use Rattle.std.specs.Prelude.{Contains, AllPairs, slice_get}
use Rattle.std.proofs.lemmas.Bool.{cases_lt}
use Rattle.std.proofs.lemmas.Option.{none-some, same_Some, slice_get_within, slice_get_read, slice_get-get_or, get_or_from_slice_get}
use Rattle.expressions.specs.Tables.{AreFirstSeen}

-- ---- truth values

pub same_bool : (a b : Bool) → (a ≡ true → b ≡ true) → (b ≡ true → a ≡ true) → a ≡ b
same_bool true b to back = sym (to refl)
same_bool false true to back = back refl
same_bool false false to back = refl

-- ---- places

pub get_some : {X : Type 0} (xs : List X) (i : ℕ) → i < length xs → (x : X) × (slice_get xs i ≡ Some x)
get_some [] i lt = absurd (omega (arith, lt))
get_some (x ∷ xs) zero lt = (x, refl)
get_some (x ∷ xs) (suc i) lt = get_some xs i (omega (arith, lt))

pub contains_at : {X : Type 0} (xs : List X) (i : ℕ) (x : X) → slice_get xs i ≡ Some x → Contains xs x
contains_at xs i x at = (i, slice_get_within xs i x at, get_or_from_slice_get xs i x x at)

pub place_of : {X : Type 0} (xs : List X) (x : X) → Contains xs x → (i : ℕ) × (slice_get xs i ≡ Some x)
place_of xs x among = (among.0, slice_get_read xs (length xs) among.0 x refl among.1 (sym among.2))

same_places : {X : Type 0} (xs ys : List X) → ((i : ℕ) → slice_get xs i ≡ slice_get ys i) → xs ≡ ys
same_places [] [] same = refl
same_places [] (y ∷ ys) same = absurd (none-some y (same 0))
same_places (x ∷ xs) [] same = absurd (none-some x (sym (same 0)))
same_places (x ∷ xs) (y ∷ ys) same = ap (λ z. z ∷ xs) (same_Some x y (same 0)) ∙ ap (λ l. y ∷ l) (same_places xs ys (λ i. same (suc i)))

-- two places of one element are one
one_place : {X : Type 0} (xs : List X) → AllPairs (λ x y. x ≢ y) xs → (i j : ℕ) (x : X) → slice_get xs i ≡ Some x → slice_get xs j ≡ Some x → i ≡ j
one_place {X} xs differ i j x e f = by (cases_lt i j) (cases_lt j i)
  where
    at : (k : ℕ) → slice_get xs k ≡ Some x → get_or xs k x ≡ x
    at k h = get_or_from_slice_get xs k x x h

    by : (i < j) ⊎ (j ≤ i) → (j < i) ⊎ (i ≤ j) → i ≡ j
    by (inl lt) other = absurd (differ i j x lt (slice_get_within xs j x f) (at i e ∙ sym (at j f)))
    by (inr ge) (inl lt) = absurd (differ j i x lt (slice_get_within xs i x e) (at j f ∙ sym (at i e)))
    by (inr ge) (inr ge') = omega (arith, ge, ge')

-- ---- the members of a list, each once, as they first come

-- before each x comes a y, and before each y an x: so there is none
neither : {X : Type 0} (all : List X) (x y : X) → ((n : ℕ) → slice_get all n ≡ Some x → (k : ℕ) × (k < n) × (slice_get all k ≡ Some y)) → ((n : ℕ) → slice_get all n ≡ Some y → (k : ℕ) × (k < n) × (slice_get all k ≡ Some x))
    → (bound n : ℕ) → n < bound → slice_get all n ≡ Some x → ⊥
neither all x y to back zero n lt at = absurd (omega (arith, lt))
neither all x y to back (suc bound) n lt at =
    let earlier = to n at in
    neither all y x back to bound earlier.0 (omega (arith, lt, earlier.1)) earlier.2

module _ {X : Type 0} (all one other : List X) (first : AreFirstSeen all one) (also : AreFirstSeen all other) where
  place_in : (i : ℕ) (x : X) → slice_get one i ≡ Some x → (j : ℕ) × (slice_get other j ≡ Some x)
  place_in i x at = place_of other x ((also.members x).1 ((first.members x).0 (contains_at one i x at)))

  -- where the lists agree before a place, what stands there in one stands in the other at that place or behind it
  not_before : (i j : ℕ) (x : X) → ((k : ℕ) → k < i → slice_get one k ≡ slice_get other k) → slice_get one i ≡ Some x → slice_get other j ≡ Some x → j < i → ⊥
  not_before i j x before at there lt =
      let same : j ≡ i = one_place one first.differ j i x (before j lt ∙ there) at in
      absurd (omega (arith, lt, same))

  not_ended : (i : ℕ) (x : X) → ((k : ℕ) → k < i → slice_get one k ≡ slice_get other k) → slice_get one i ≡ Some x → slice_get other i ≡ None → ⊥
  not_ended i x before at none =
      let j = place_in i x at in
      ⊎_elim
      (λ (lt : j.0 < i). not_before i j.0 x before at j.1 lt)
      (λ (le : i ≤ j.0).
      let within : i < length other = omega (arith, le, slice_get_within other j.0 x j.1) in
      none-some (get_or other i x) (sym none ∙ slice_get-get_or other i x within))
      (cases_lt j.0 i)

module _ {X : Type 0} (all one other : List X) (first : AreFirstSeen all one) (also : AreFirstSeen all other) where
  both_there : (i : ℕ) (x y : X) → ((k : ℕ) → k < i → slice_get one k ≡ slice_get other k) → slice_get one i ≡ Some x → slice_get other i ≡ Some y → x ≡ y
  both_there i x y before at there =
      let j = place_in all one other first also i x at in
      let k = place_in all other one also first i y there in
      let back : (k : ℕ) → k < i → slice_get other k ≡ slice_get one k = λ k lt. sym (before k lt) in
      by j k back (cases_lt j.0 i) (cases_lt i j.0) (cases_lt k.0 i) (cases_lt i k.0)
    where
      by : (j : (j : ℕ) × (slice_get other j ≡ Some x)) (k : (k : ℕ) × (slice_get one k ≡ Some y)) → ((k : ℕ) → k < i → slice_get other k ≡ slice_get one k)
          → (j.0 < i) ⊎ (i ≤ j.0) → (i < j.0) ⊎ (j.0 ≤ i) → (k.0 < i) ⊎ (i ≤ k.0) → (i < k.0) ⊎ (k.0 ≤ i) → x ≡ y
      by j k back (inl low) up low' up' = absurd (not_before all one other first also i j.0 x before at j.1 low)
      by j k back (inr ge) up (inl low) up' = absurd (not_before all other one also first i k.0 y back there k.1 low)
      by j k back (inr ge) (inr le) low' up' =
          let same : i ≡ j.0 = omega (arith, ge, le) in
          same_Some x y (sym j.1 ∙ ap (slice_get other) (sym same) ∙ there)
      by j k back (inr ge) (inl lt) (inr ge') (inr le) =
          let same : i ≡ k.0 = omega (arith, ge', le) in
          same_Some x y (sym at ∙ ap (slice_get one) same ∙ k.1)
      by j k back (inr ge) (inl lt) (inr ge') (inl lt') =
          let n = place_of all x ((first.members x).0 (contains_at one i x at)) in
          absurd (neither all x y (λ n e. also.in_order i j.0 n y x lt there j.1 e) (λ n e. first.in_order i k.0 n x y lt' at k.1 e) (suc n.0) n.0 (omega arith) n.1)

  step : (i : ℕ) (o p : Option X) → ((k : ℕ) → k < i → slice_get one k ≡ slice_get other k) → slice_get one i ≡ o → slice_get other i ≡ p → o ≡ p
  step i None None before at there = refl
  step i (Some x) None before at there = absurd (not_ended all one other first also i x before at there)
  step i None (Some y) before at there = absurd (not_ended all other one also first i y (λ k lt. sym (before k lt)) there at)
  step i (Some x) (Some y) before at there = ap Some (both_there i x y before at there)

  same_below : (bound i : ℕ) → i < bound → slice_get one i ≡ slice_get other i
  same_below zero i lt = absurd (omega (arith, lt))
  same_below (suc bound) i lt = step i (slice_get one i) (slice_get other i) (λ k less. same_below bound k (omega (arith, lt, less))) refl refl

  pub same_once : one ≡ other
  same_once = same_places one other (λ i. same_below (suc i) i (omega arith))
