-- Sums over lists: two of them together, and one that is nowhere above another.
use Rattle.std.proofs.Common.{◌≡◌, ℕ, ◌+◌, ◌≤◌, List, [], ◌∷◌, length, refl, arith}
use Rattle.std.specs.List.{sum_by, AllByRecursion, zip}
use Rattle.std.proofs.lemmas.List.Sums.{sum_by-cons}

pub sum_by-plus : {X : Type 0} (f g h : X → ℕ) → ((x : X) → f x ≡ g x + h x) → (xs : List X) → sum_by f xs ≡ sum_by g xs + sum_by h xs
sum_by-plus f g h same [] = refl
sum_by-plus f g h same (x ∷ xs) =
    omega (arith, sum_by-cons f x xs, sum_by-cons g x xs, sum_by-cons h x xs, same x, sum_by-plus f g h same xs)

pub sum_by-same : {X : Type 0} (f g : X → ℕ) (xs : List X) → AllByRecursion (λ x. f x ≡ g x) xs → sum_by f xs ≡ sum_by g xs
sum_by-same f g [] all = refl
sum_by-same f g (x ∷ xs) all =
    omega (arith, sum_by-cons f x xs, sum_by-cons g x xs, all.0, sum_by-same f g xs all.1)

pub sum_by-below : {X : Type 0} (f g : X → ℕ) (xs : List X) → AllByRecursion (λ x. f x ≤ g x) xs → sum_by f xs ≤ sum_by g xs
sum_by-below f g [] all = omega arith
sum_by-below f g (x ∷ xs) all =
    omega (arith, sum_by-cons f x xs, sum_by-cons g x xs, all.0, sum_by-below f g xs all.1)

-- where the larger sum is no larger, no term is
pub sum_by-tight : {X : Type 0} (f g : X → ℕ) (xs : List X) → AllByRecursion (λ x. f x ≤ g x) xs → sum_by g xs ≤ sum_by f xs → AllByRecursion (λ x. f x ≡ g x) xs
sum_by-tight f g [] all h = tt
sum_by-tight f g (x ∷ xs) all h =
    let cf : sum_by f (x ∷ xs) ≡ f x + sum_by f xs = sum_by-cons f x xs in
    let cg : sum_by g (x ∷ xs) ≡ g x + sum_by g xs = sum_by-cons g x xs in
    let rest : sum_by f xs ≤ sum_by g xs = sum_by-below f g xs all.1 in
    let here : f x ≤ g x = all.0 in
    (omega arith, sum_by-tight f g xs all.1 (omega arith))

pub sum_by-firsts : {A B : Type 0} (f : A → ℕ) (xs : List A) (ys : List B) → length ys ≡ length xs → sum_by (λ (p : A × B). f p.0) (zip xs ys) ≡ sum_by f xs
sum_by-firsts f [] [] same = refl
sum_by-firsts f [] (y ∷ ys) same = refl
sum_by-firsts f (x ∷ xs) [] same = absurd (omega arith)
sum_by-firsts {A} {B} f (x ∷ xs) (y ∷ ys) same =
    omega (arith, sum_by-cons (λ (p : A × B). f p.0) (x, y) (zip xs ys), sum_by-cons f x xs, sum_by-firsts f xs ys (omega arith))
