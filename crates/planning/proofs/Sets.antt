-- Sets of numbers, as they grow.
use Rattle.std.proofs.Common.{◌≡◌, ◌≢◌, ℕ, zero, suc, ◌+◌, ◌<◌, ◌||◌, Bool, true, false, if◌then◌else◌, List, [], ◌∷◌, ◌++◌, length, take, get_or, Some, refl, sym, ap, ◌∙◌, subst, arith, ⊎_elim, Contains}
use Rattle.std.specs.Prelude.{slice_get, nat_eq, All, AllPairs}
use Rattle.std.specs.List.{list_any, IsDistinct}
use Rattle.std.specs.List.Sorted.{IsStrictlyIncreasing}
use Rattle.std.proofs.lemmas.Bool.{cases_eq, eqb-true, eq-eqb, ne_eqb, or_cases, or_left, or_right}
use Rattle.std.proofs.lemmas.Bool.Decides.{Decides-eqb}
use Rattle.std.proofs.lemmas.List.{take_more}
use Rattle.std.proofs.lemmas.List.Elements.{Contains-append_left, Contains-append_right, Contains-get_or, Contains-push, Contains-push_cases}
use Rattle.std.proofs.lemmas.List.Kept.{AllPairs-from_increasing}
use Rattle.std.proofs.lemmas.Map.Made.{AllPairs-from_IsDistinct}
use Rattle.std.proofs.lemmas.Option.{same_Some}
use Rattle.indexmap.specs.IndexSet.{insert_key}
use Rattle.planning.specs.Marking.{has, IsSetOf}
use Rattle.planning.proofs.Geometry.{at_contains, contains_at}

-- ---- members

pub has_contains : (xs : List ℕ) (n : ℕ) → has xs n ≡ true → Contains xs n
has_contains [] n e = absurd cc
has_contains (x ∷ xs) n e = ⊎_elim
    (λ (l : nat_eq n x ≡ true). contains_at (x ∷ xs) 0 n (ap Some (sym (eqb-true n x l))))
    (λ (r : has xs n ≡ true). Contains-append_right (x ∷ []) xs n (has_contains xs n r))
    (or_cases (nat_eq n x) (has xs n) e)

has_at : (xs : List ℕ) (k n : ℕ) → slice_get xs k ≡ Some n → has xs n ≡ true
has_at [] k n e = absurd cc
has_at (x ∷ xs) zero n e = or_left (nat_eq n x) (has xs n) (eq-eqb n x (sym (same_Some x n e)))
has_at (x ∷ xs) (suc k) n e = or_right (nat_eq n x) (has xs n) (has_at xs k n e)

pub contains_has : (xs : List ℕ) (n : ℕ) → Contains xs n → has xs n ≡ true
contains_has xs n h = let r = at_contains xs n h in has_at xs r.0 n r.1

pub has_push_same : (xs : List ℕ) (n : ℕ) → has (xs ++ n ∷ []) n ≡ true
has_push_same xs n = contains_has (xs ++ n ∷ []) n (Contains-push xs n)

pub has_push_other : (xs : List ℕ) (n m : ℕ) → (m ≡ n → ⊥) → has (xs ++ n ∷ []) m ≡ has xs m
has_push_other [] n m ne = ap (λ b. b || false) (ne_eqb m n ne)
has_push_other (x ∷ xs) n m ne = ap (λ b. nat_eq m x || b) (has_push_other xs n m ne)

-- a member that passes the test
pub any_has : (q : ℕ → Bool) (xs : List ℕ) → list_any q xs ≡ true → (n : ℕ) × (has xs n ≡ true) × (q n ≡ true)
any_has q [] e = absurd cc
any_has q (x ∷ xs) e = ⊎_elim
    (λ (l : q x ≡ true). (x, has_at (x ∷ xs) 0 x refl, l))
    (λ (r : list_any q xs ≡ true). let m = any_has q xs r in (m.0, or_right (nat_eq m.0 x) (has xs m.0) m.1, m.2))
    (or_cases (q x) (list_any q xs) e)

pub has_any : (q : ℕ → Bool) (xs : List ℕ) (n : ℕ) → has xs n ≡ true → q n ≡ true → list_any q xs ≡ true
has_any q [] n e t = absurd cc
has_any q (x ∷ xs) n e t = ⊎_elim
    (λ (l : nat_eq n x ≡ true). or_left (q x) (list_any q xs) (ap q (sym (eqb-true n x l)) ∙ t))
    (λ (r : has xs n ≡ true). or_right (q x) (list_any q xs) (has_any q xs n r t))
    (or_cases (nat_eq n x) (has xs n) e)

-- ---- sets

pub IsSetOf-start : (set : List ℕ) → set ≡ [] → IsSetOf [] set
IsSetOf-start set none = record {
  members = λ n. (
    λ e. let some : false ≡ true = sym (ap (λ xs. has xs n) none) ∙ e in cc,
    λ h. let inside : h.0 < 0 = h.1 in absurd (omega (arith, inside)),
  );
}

has_insert : (set : List ℕ) (k n : ℕ) (b : Bool) → has set k ≡ b → has (if b then set else set ++ k ∷ []) n ≡ (has set n || nat_eq n k)
has_insert set k n true e = ⊎_elim
    (λ (same : n ≡ k). let there : has set n ≡ true = ap (has set) same ∙ e in there ∙ sym (ap (λ b. b || nat_eq n k) there))
    (λ (other : n ≡ k → ⊥). or_none (has set n) ∙ ap (λ b. has set n || b) (sym (ne_eqb n k other)))
    (cases_eq n k)
  where
    or_none : (b : Bool) → b ≡ (b || false)
    or_none true = refl
    or_none false = refl
has_insert set k n false e = ⊎_elim
    (λ (same : n ≡ k). subst (λ m. has (set ++ k ∷ []) m ≡ (has set m || nat_eq m k)) (sym same) (has_push_same set k ∙ sym (or_right (has set k) (nat_eq k k) (eq-eqb k k refl))))
    (λ (other : n ≡ k → ⊥). has_push_other set k n other ∙ or_none (has set n) ∙ ap (λ b. has set n || b) (sym (ne_eqb n k other)))
    (cases_eq n k)
  where
    or_none : (b : Bool) → b ≡ (b || false)
    or_none true = refl
    or_none false = refl

IsSetOf-push : (numbers set : List ℕ) (k : ℕ) → IsSetOf numbers set → IsSetOf (numbers ++ k ∷ []) (insert_key nat_eq set k)
IsSetOf-push numbers set k is = record {
  members = λ n.
      let value = has_insert set k n (has set k) refl in (
        λ e. ⊎_elim
            (λ (l : has set n ≡ true). Contains-append_left numbers (k ∷ []) n ((is.members n).0 l))
            (λ (r : nat_eq n k ≡ true). subst (Contains (numbers ++ k ∷ [])) (sym (eqb-true n k r)) (Contains-push numbers k))
            (or_cases (has set n) (nat_eq n k) (sym value ∙ e)),
        λ h. value ∙ ⊎_elim
            (λ (l : Contains numbers n). or_left (has set n) (nat_eq n k) ((is.members n).1 l))
            (λ (r : k ≡ n). or_right (has set n) (nat_eq n k) (eq-eqb n k (sym r)))
            (Contains-push_cases numbers k n h),
      );
}

pub IsSetOf-more : (numbers set : List ℕ) (i : ℕ) → i < length numbers → IsSetOf (take i numbers) set → IsSetOf (take (i + 1) numbers) (insert_key nat_eq set (get_or numbers i 0))
IsSetOf-more numbers set i lt is = subst (λ xs. IsSetOf xs (insert_key nat_eq set (get_or numbers i 0))) (sym (take_more numbers i 0 lt)) (IsSetOf-push (take i numbers) set (get_or numbers i 0) is)

-- what holds of the numbers holds of the set
pub members_within : (numbers set : List ℕ) (n : ℕ) → IsSetOf numbers set → All (λ m. m < n) numbers → All (λ m. m < n) set
members_within numbers set n is all k d lt =
    let m = get_or set k d in
    let r = (is.members m).0 (contains_has set m (Contains-get_or set k d lt)) in
    let inside : get_or numbers r.0 m < n = all r.0 m r.1 in
    omega (arith, inside, r.2)

-- ---- lists without repetition

pub set_differs : (set : List ℕ) → IsDistinct nat_eq set → AllPairs (λ m n. m ≢ n) set
set_differs set is = AllPairs-from_IsDistinct Decides-eqb set is

pub ascending_differs : (xs : List ℕ) → IsStrictlyIncreasing xs → AllPairs (λ m n. m ≢ n) xs
ascending_differs xs up i j d lt within same = let less = AllPairs-from_increasing xs up i j d lt within in omega (arith, less, same)
