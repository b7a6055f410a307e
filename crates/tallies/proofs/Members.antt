-- Ascending lists, of which one has all members of the other.
use Rattle.std.proofs.Common.{◌≡◌, ◌<◌, ◌≤◌, ℕ, suc, List, [], ◌∷◌, length, Contains, AllPairs, refl, subst, ⊎_elim, arith}
use Rattle.std.specs.List.Sorted.{IsStrictlyIncreasing}
use Rattle.std.proofs.lemmas.Bool.{cases_eq}
use Rattle.std.proofs.lemmas.List.Elements.{Contains-append_right}
use Rattle.std.proofs.lemmas.List.Kept.{AllPairs-from_increasing}
use Rattle.std.proofs.lemmas.Map.Made.{Contains-tail}

abbrev Rises : List ℕ → Type 0
Rises xs = AllPairs (λ x y. x < y) xs

rises_tail : (x : ℕ) (xs : List ℕ) → Rises (x ∷ xs) → Rises xs
rises_tail x xs r i j d lt within = r (suc i) (suc j) d (omega arith) (omega arith)

head_below : (x : ℕ) (xs : List ℕ) → Rises (x ∷ xs) → (y : ℕ) → Contains xs y → x < y
head_below x xs r y c = subst (λ z. x < z) c.2 (r 0 (suc c.0) y (omega arith) (let h : c.0 < length xs = c.1 in omega arith))

head_least : (x : ℕ) (xs : List ℕ) → Rises (x ∷ xs) → (y : ℕ) → Contains (x ∷ xs) y → x ≤ y
head_least x xs r y c =
    ⊎_elim
    (λ (same : x ≡ y). omega arith)
    (λ (other : x ≡ y → ⊥). let h : x < y = head_below x xs r y (Contains-tail x xs y other c) in omega arith)
    (cases_eq x y)

as_many : (xs ys : List ℕ) → Rises xs → Rises ys → ((v : ℕ) → Contains xs v → Contains ys v) → length xs ≤ length ys
as_many [] ys r s within = omega arith
as_many (x ∷ xs) [] r s within = let c = within x (0, omega arith, refl) in let l : c.0 < 0 = c.1 in absurd (omega arith)
as_many (x ∷ xs) (y ∷ ys) r s within =
    ⊎_elim
    (λ (same : y ≡ x).
    let later : length xs ≤ length ys = as_many xs ys (rises_tail x xs r) (rises_tail y ys s)
    (λ v c. let l : x < v = head_below x xs r v c in Contains-tail y ys v (λ e. omega arith) (within v (Contains-append_right (x ∷ []) xs v c))) in
    omega arith)
    (λ (other : y ≡ x → ⊥).
    let above : y < x = head_below y ys s x (Contains-tail y ys x other (within x (0, omega arith, refl))) in
    let later : length (x ∷ xs) ≤ length ys = as_many (x ∷ xs) ys r (rises_tail y ys s)
    (λ v c. let l : x ≤ v = head_least x xs r v c in Contains-tail y ys v (λ e. omega arith) (within v c)) in
    omega arith)
    (cases_eq y x)

-- the other is no longer
pub no_longer : (xs ys : List ℕ) → IsStrictlyIncreasing xs → IsStrictlyIncreasing ys → ((v : ℕ) → Contains xs v → Contains ys v) → length xs ≤ length ys
no_longer xs ys up up' within = as_many xs ys (AllPairs-from_increasing xs up) (AllPairs-from_increasing ys up') within
