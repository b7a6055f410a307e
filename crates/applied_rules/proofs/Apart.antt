-- Lists whose items differ, told from item to item.
use Rattle.std.proofs.Common.{◌≢◌, zero, suc, List, [], ◌∷◌, ◌++◌, arith}
use Rattle.std.specs.Prelude.{All, AllPairs}

-- P holds of each item
abbrev pub Each : {A : Type 0} → (A → Type 0) → List A → Type 0
Each P [] = Unit {0}
Each P (x ∷ xs) = P x × Each P xs

-- R holds of each item and each later one
abbrev pub EachPair : {A : Type 0} → (A → A → Type 0) → List A → Type 0
EachPair R [] = Unit {0}
EachPair R (x ∷ xs) = Each (R x) xs × EachPair R xs

abbrev pub Apart : {A : Type 0} → List A → Type 0
Apart xs = EachPair (λ x y. x ≢ y) xs

pub each_by : {A : Type 0} (P Q : A → Type 0) → ((x : A) → P x → Q x) → (xs : List A) → Each P xs → Each Q xs
each_by P Q by [] each = tt
each_by P Q by (x ∷ xs) each = (by x each.0, each_by P Q by xs each.1)

pub each_append : {A : Type 0} (P : A → Type 0) (xs ys : List A) → Each P xs → Each P ys → Each P (xs ++ ys)
each_append P [] ys each more = more
each_append P (x ∷ xs) ys each more = (each.0, each_append P xs ys each.1 more)

-- where the items of the two lists differ from one another
pub apart_append : {A : Type 0} (P Q : A → Type 0) → ((x y : A) → P x → Q y → x ≢ y) → (xs ys : List A) → Each P xs → Each Q ys → Apart xs → Apart ys → Apart (xs ++ ys)
apart_append P Q differ [] ys each each' apart apart' = apart'
apart_append P Q differ (x ∷ xs) ys each each' apart apart' = (
  each_append (λ y. x ≢ y) xs ys apart.0 (each_by Q (λ y. x ≢ y) (λ y q. differ x y each.0 q) ys each'),
  apart_append P Q differ xs ys each.1 each' apart.1 apart',
)

pub from_all : {A : Type 0} (P : A → Type 0) (xs : List A) → All P xs → Each P xs
from_all P [] all = tt
from_all P (x ∷ xs) all = (all zero x (omega arith), from_all P xs (λ k d lt. all (suc k) d (omega (arith, lt))))

pub to_all : {A : Type 0} (P : A → Type 0) (xs : List A) → Each P xs → All P xs
to_all P [] each k d lt = absurd (omega (arith, lt))
to_all P (x ∷ xs) each zero d lt = each.0
to_all P (x ∷ xs) each (suc k) d lt = to_all P xs each.1 k d (omega (arith, lt))

pub from_pairs : {A : Type 0} (R : A → A → Type 0) (xs : List A) → AllPairs R xs → EachPair R xs
from_pairs R [] all = tt
from_pairs R (x ∷ xs) all = (
  from_all (R x) xs (λ k d lt. all zero (suc k) d (omega arith) (omega (arith, lt))),
  from_pairs R xs (λ i j d lt within. all (suc i) (suc j) d (omega (arith, lt)) (omega (arith, within))),
)

pub to_pairs : {A : Type 0} (R : A → A → Type 0) (xs : List A) → EachPair R xs → AllPairs R xs
to_pairs R [] each i j d lt within = absurd (omega (arith, within))
to_pairs R (x ∷ xs) each zero zero d lt within = absurd (omega (arith, lt))
to_pairs R (x ∷ xs) each zero (suc j) d lt within = to_all (R x) xs each.0 j d (omega (arith, within))
to_pairs R (x ∷ xs) each (suc i) zero d lt within = absurd (omega (arith, lt))
to_pairs R (x ∷ xs) each (suc i) (suc j) d lt within = to_pairs R xs each.1 i j d (omega (arith, lt)) (omega (arith, within))
