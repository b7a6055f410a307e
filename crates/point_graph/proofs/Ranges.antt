-- Numbers that go up by one, filtered and mapped, and elements of appended lists.
use Rattle.std.proofs.Common.{◌≡◌, ℕ, zero, suc, ◌+◌, ◌-◌, ◌<◌, ◌≤◌, Bool, true, false, cond, List, [], ◌∷◌, ◌++◌, length, map, Some, sym, ap, ◌∙◌, arith}
use Rattle.std.specs.Prelude.{slice_get, filter}
use Rattle.std.specs.List.{range_with_len, AllZip}
use Rattle.std.proofs.lemmas.List.{append-nil, append_assoc, map-append}
use Rattle.std.proofs.lemmas.List.Elements.{filter-append}

-- ---- numbers that go up by one

pub range-append : (a n m : ℕ) → range_with_len a (n + m) ≡ range_with_len a n ++ range_with_len (a + n) m
range-append a zero m = let e : 0 + m ≡ m = omega arith in let z : a ≡ a + 0 = omega arith in ap (range_with_len a) e ∙ ap (λ b. range_with_len b m) z
range-append a (suc n) m =
    let e : suc n + m ≡ suc (n + m) = omega arith in
    let z : a + 1 + n ≡ a + suc n = omega arith in
    ap (range_with_len a) e ∙ ap (λ l. a ∷ l) (range-append (a + 1) n m ∙ ap (λ b. range_with_len (a + 1) n ++ range_with_len b m) z)

pub range_more : (n : ℕ) → range_with_len 0 (n + 1) ≡ range_with_len 0 n ++ n ∷ []
range_more n = let z : 0 + n ≡ n = omega arith in range-append 0 n 1 ∙ ap (λ b. range_with_len 0 n ++ b ∷ []) z

pub map-range_more : {X : Type 0} (g : ℕ → X) (n : ℕ) → map g (range_with_len 0 (n + 1)) ≡ map g (range_with_len 0 n) ++ g n ∷ []
map-range_more g n = ap (map g) (range_more n) ∙ map-append g (range_with_len 0 n) (n ∷ [])

-- a list that had the first n of them appended, and gets one more
pub put_more : {X : Type 0} (g : ℕ → X) (n : ℕ) (before xs ys : List X) → xs ≡ before ++ map g (range_with_len 0 n) → ys ≡ xs ++ g n ∷ [] → ys ≡ before ++ map g (range_with_len 0 (n + 1))
put_more g n before xs ys e f =
    f ∙ ap (λ l. l ++ g n ∷ []) e ∙ append_assoc before (map g (range_with_len 0 n)) (g n ∷ []) ∙ ap (λ l. before ++ l) (sym (map-range_more g n))

pub filter-range_yes : (test : ℕ → Bool) (n : ℕ) → test n ≡ true → filter test (range_with_len 0 (n + 1)) ≡ filter test (range_with_len 0 n) ++ n ∷ []
filter-range_yes test n e =
    ap (filter test) (range_more n) ∙ filter-append test (range_with_len 0 n) (n ∷ []) ∙ ap (λ b. filter test (range_with_len 0 n) ++ cond b (n ∷ []) []) e

pub filter-range_no : (test : ℕ → Bool) (n : ℕ) → test n ≡ false → filter test (range_with_len 0 (n + 1)) ≡ filter test (range_with_len 0 n)
filter-range_no test n e =
    ap (filter test) (range_more n) ∙ filter-append test (range_with_len 0 n) (n ∷ []) ∙ ap (λ b. filter test (range_with_len 0 n) ++ cond b (n ∷ []) []) e ∙ append-nil (filter test (range_with_len 0 n))

-- the numbers below n that the test tells, at one that it tells
pub filter-range_split : (test : ℕ → Bool) (n b : ℕ) → b < n → test b ≡ true
    → filter test (range_with_len 0 n) ≡ filter test (range_with_len 0 b) ++ (b ∷ filter test (range_with_len (b + 1) (n - (b + 1))))
filter-range_split test n b lt e =
    let m = n - (b + 1) in
    let total : n ≡ b + suc m = omega arith in
    let at : 0 + b ≡ b = omega arith in
    ap (λ k. filter test (range_with_len 0 k)) total
    ∙ ap (filter test) (range-append 0 b (suc m))
    ∙ filter-append test (range_with_len 0 b) (range_with_len (0 + b) (suc m))
    ∙ ap (λ k. filter test (range_with_len 0 b) ++ filter test (range_with_len k (suc m))) at
    ∙ ap (λ t. filter test (range_with_len 0 b) ++ cond t (b ∷ filter test (range_with_len (b + 1) m)) (filter test (range_with_len (b + 1) m))) e

-- ---- elements of appended lists

pub get_left : {X : Type 0} (xs ys : List X) (i : ℕ) (v : X) → slice_get xs i ≡ Some v → slice_get (xs ++ ys) i ≡ Some v
get_left [] ys i v e = absurd cc
get_left (x ∷ xs) ys zero v e = e
get_left (x ∷ xs) ys (suc i) v e = get_left xs ys i v e

pub get_right : {X : Type 0} (xs ys : List X) (i : ℕ) → slice_get (xs ++ ys) (length xs + i) ≡ slice_get ys i
get_right [] ys i = let e : 0 + i ≡ i = omega arith in ap (slice_get ys) e
get_right (x ∷ xs) ys i =
    let e : suc (length xs) + i ≡ suc (length xs + i) = omega arith in
    ap (slice_get (x ∷ (xs ++ ys))) e ∙ get_right xs ys i

-- an element of a list that stands behind another and before a third
pub get_middle : {X : Type 0} (xs ys zs : List X) (i : ℕ) (v : X) → slice_get ys i ≡ Some v → slice_get (xs ++ (ys ++ zs)) (length xs + i) ≡ Some v
get_middle xs ys zs i v e = get_right xs (ys ++ zs) i ∙ get_left ys zs i v e

pub get-map_range : {X : Type 0} (g : ℕ → X) (a n i : ℕ) → i < n → slice_get (map g (range_with_len a n)) i ≡ Some (g (a + i))
get-map_range g a zero i lt = absurd (omega (arith, lt))
get-map_range g a (suc n) zero lt = let z : a ≡ a + 0 = omega arith in ap (λ k. Some (g k)) z
get-map_range g a (suc n) (suc i) lt =
    let z : a + 1 + i ≡ a + suc i = omega arith in get-map_range g (a + 1) n i (omega (arith, lt)) ∙ ap (λ k. Some (g k)) z

-- ---- relations of elements at the same places

pub all_zip_append : {A B : Type 0} (R : A → B → Type 0) (xs xs' : List A) (ys ys' : List B) → AllZip R xs ys → AllZip R xs' ys' → AllZip R (xs ++ xs') (ys ++ ys')
all_zip_append R [] xs' [] ys' h h' = h'
all_zip_append R [] xs' (y ∷ ys) ys' h h' = absurd h
all_zip_append R (x ∷ xs) xs' [] ys' h h' = absurd h
all_zip_append R (x ∷ xs) xs' (y ∷ ys) ys' h h' = (h.0, all_zip_append R xs xs' ys ys' h.1 h')

pub all_zip_range : {A B : Type 0} (R : A → B → Type 0) (g : ℕ → A) (h : ℕ → B) (a n : ℕ) → ((k : ℕ) → a ≤ k → k < a + n → R (g k) (h k)) → AllZip R (map g (range_with_len a n)) (map h (range_with_len a n))
all_zip_range R g h a zero each = tt
all_zip_range R g h a (suc n) each =
    (each a (omega arith) (omega arith), all_zip_range R g h (a + 1) n (λ k le lt. each k (omega (arith, le)) (omega (arith, lt))))
