-- Ascending lists: one without a number, and those with the same members.
use Rattle.std.proofs.Common.{◌≡◌, ◌<◌, ◌≤◌, ◌+◌, ◌⊎◌, ◌==◌, ℕ, suc, Bool, true, false, not, List, [], ◌∷◌, length, Contains, AllPairs, filter, sum_by, refl, ap, ◌∙◌, subst, inl, inr, ⊎_elim, arith, nat_eq, Decides, ne_eqb, eq-eqb, get_or}
use Rattle.std.specs.List.Sorted.{IsStrictlyIncreasing}
use Rattle.std.proofs.lemmas.Bool.{cases_Bool, cases_eq, and_from}
use Rattle.std.proofs.lemmas.Bool.Decides.{Decides-eqb, not_from_Decides}
use Rattle.std.proofs.lemmas.Cmp.{nat_eq_equiv}
use Rattle.std.specs.Set.{is_member}
use Rattle.std.proofs.lemmas.List.Elements.{Contains-append_right}
use Rattle.std.proofs.lemmas.List.Kept.{AllPairs-from_increasing}
use Rattle.std.proofs.lemmas.List.Sums.{get_or-le-sum_by}
use Rattle.std.proofs.lemmas.List.Filters.{sum_by-filter_both}
use Rattle.std.proofs.lemmas.Map.Made.{Contains-tail, is_member-Decides, is_member-filter}

members : (xs : List ℕ) (x : ℕ) → Decides (is_member nat_eq xs x) (Contains xs x)
members xs x = is_member-Decides {eq = nat_eq} Decides-eqb xs x

pub member_cases : (xs : List ℕ) (x : ℕ) → Contains xs x ⊎ (Contains xs x → ⊥)
member_cases xs x =
    ⊎_elim
    (λ (t : is_member nat_eq xs x ≡ true). inl ((members xs x).0 t))
    (λ (f : is_member nat_eq xs x ≡ false). inr (not_from_Decides (is_member nat_eq xs x) (members xs x) f))
    (cases_Bool (is_member nat_eq xs x))

-- ---- a list without a number

abbrev pub without : ℕ → List ℕ → List ℕ
without e xs = filter (λ x. not (x == e)) xs

passes_filter : (p : ℕ → Bool) (xs : List ℕ) (x : ℕ) → Contains xs x → p x ≡ true → Contains (filter p xs) x
passes_filter p xs x c passes =
    (members (filter p xs) x).0
    (is_member-filter {eq = nat_eq} nat_eq_equiv p x (λ y same. ap p ((Decides-eqb x y).0 same)) xs ∙ and_from (is_member nat_eq xs x) (p x) ((members xs x).1 c) passes)

pub kept_without : (e : ℕ) (xs : List ℕ) (x : ℕ) → Contains xs x → (x ≡ e → ⊥) → Contains (without e xs) x
kept_without e xs x c other = passes_filter (λ y. not (y == e)) xs x c (ap not (ne_eqb x e other))

-- the sum falls by the term of a number that goes
pub sum_without : (f : ℕ → ℕ) (e : ℕ) (xs : List ℕ) → Contains xs e → sum_by f (without e xs) + f e ≤ sum_by f xs
sum_without f e xs c =
    let there : Contains (filter (λ x. x == e) xs) e = passes_filter (λ x. x == e) xs e c (eq-eqb e e refl) in
    let gone : f (get_or (filter (λ x. x == e) xs) there.0 e) ≤ sum_by f (filter (λ x. x == e) xs) = get_or-le-sum_by f (filter (λ x. x == e) xs) there.0 e there.1 in
    let term : f (get_or (filter (λ x. x == e) xs) there.0 e) ≡ f e = ap f there.2 in
    let both : sum_by f (filter (λ x. x == e) xs) + sum_by f (without e xs) ≡ sum_by f xs = sum_by-filter_both (λ x. x == e) (λ x. not (x == e)) (λ x. refl) f xs in
    omega arith

-- ---- the same members

abbrev pub Rises : List ℕ → Type 0
Rises xs = AllPairs (λ x y. x < y) xs

rises_tail : (x : ℕ) (xs : List ℕ) → Rises (x ∷ xs) → Rises xs
rises_tail x xs r i j d lt within = r (suc i) (suc j) d (omega arith) (omega arith)

head_below : (x : ℕ) (xs : List ℕ) → Rises (x ∷ xs) → (y : ℕ) → Contains xs y → x < y
head_below x xs r y c = subst (λ z. x < z) c.2 (r 0 (suc c.0) y (omega arith) (let h : c.0 < length xs = c.1 in omega arith))

head_least : (x : ℕ) (xs : List ℕ) → Rises (x ∷ xs) → (y : ℕ) → Contains (x ∷ xs) y → x ≤ y
head_least x xs r y c =
    ⊎_elim
    (λ (same : x ≡ y). omega arith)
    (λ (other : x ≡ y → ⊥). let h : x < y = head_below x xs r y (Contains-tail x xs y other c) in omega arith)
    (cases_eq x y)

same_from_members : (xs ys : List ℕ) → Rises xs → Rises ys → ((v : ℕ) → Contains xs v → Contains ys v) → ((v : ℕ) → Contains ys v → Contains xs v) → xs ≡ ys
same_from_members [] [] r s h k = refl
same_from_members [] (y ∷ ys) r s h k = let c = k y (0, omega arith, refl) in let l : c.0 < 0 = c.1 in absurd (omega arith)
same_from_members (x ∷ xs) [] r s h k = let c = h x (0, omega arith, refl) in let l : c.0 < 0 = c.1 in absurd (omega arith)
same_from_members (x ∷ xs) (y ∷ ys) r s h k =
    let a : y ≤ x = head_least y ys s x (h x (0, omega arith, refl)) in
    let b : x ≤ y = head_least x xs r y (k y (0, omega arith, refl)) in
    let head : x ≡ y = omega arith in
    let tail : xs ≡ ys = same_from_members xs ys (rises_tail x xs r) (rises_tail y ys s)
    (λ v c. let l : x < v = head_below x xs r v c in Contains-tail y ys v (λ e. omega arith) (h v (Contains-append_right (x ∷ []) xs v c)))
    (λ v c. let l : y < v = head_below y ys s v c in Contains-tail x xs v (λ e. omega arith) (k v (Contains-append_right (y ∷ []) ys v c))) in
    cc

pub ascending_same : (xs ys : List ℕ) → IsStrictlyIncreasing xs → IsStrictlyIncreasing ys → ((v : ℕ) → Contains xs v → Contains ys v) → ((v : ℕ) → Contains ys v → Contains xs v) → xs ≡ ys
ascending_same xs ys r s = same_from_members xs ys (AllPairs-from_increasing xs r) (AllPairs-from_increasing ys s)
