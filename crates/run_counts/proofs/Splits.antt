-- One key among many: a list of items, split at the only one of a key.
use Rattle.std.proofs.Common.{◌≡◌, ℕ, suc, ◌+◌, Bool, true, false, cond, List, [], ◌∷◌, ◌++◌, length, map, Some, refl, sym, ap, ◌∙◌, arith, append_assoc, length-append}
use Rattle.std.specs.Prelude.{sum_by, slice_get, slice_set}
use Rattle.std.proofs.lemmas.List.Sums.{sum_by-cons, sum_by-append}
use Rattle.std.proofs.Math.Seq.{set-append_seam}
use Rattle.run_counts.proofs.Runs.{Every}

-- the list has one item that passes the test, at this place
pub record Split {X : Type 0} (test : X → Bool) (xs : List X) (at : ℕ) (item : X) : Type 0 where
  pub front : List X
  pub back : List X
  pub is : xs ≡ front ++ item ∷ back
  pub place : length front ≡ at
  pub passes : test item ≡ true
  pub front_fails : Every (λ x. test x ≡ false) front
  pub back_fails : Every (λ x. test x ≡ false) back

module _ {X : Type 0} (test : X → Bool) where
  pub sum_none : (f : X → ℕ) (xs : List X) → Every (λ x. test x ≡ false) xs → sum_by (λ x. cond (test x) (f x) 0) xs ≡ 0
  sum_none f [] fails = refl
  sum_none f (x ∷ xs) fails =
      let a = sum_by-cons (λ x. cond (test x) (f x) 0) x xs in
      let b = ap (λ t. cond t (f x) 0) fails.0 in
      let c = sum_none f xs fails.1 in
      omega arith

  -- a sum over those that pass is what the one that passes has
  pub sum_one : (f : X → ℕ) (xs : List X) (at : ℕ) (item : X) → Split test xs at item → sum_by (λ x. cond (test x) (f x) 0) xs ≡ f item
  sum_one f xs at item s =
      let g : X → ℕ = λ x. cond (test x) (f x) 0 in
      let a = ap (sum_by g) s.is ∙ sum_by-append g s.front (item ∷ s.back) in
      let b = sum_by-cons g item s.back in
      let c = ap (λ t. cond t (f item) 0) s.passes in
      let d = sum_none f s.front s.front_fails in
      let e = sum_none f s.back s.back_fails in
      omega arith

  pub every_append : (P : X → Type 0) (xs ys : List X) → Every P xs → Every P ys → Every P (xs ++ ys)
  every_append P [] ys a b = b
  every_append P (x ∷ xs) ys a b = (a.0, every_append P xs ys a.1 b)

  pub split_before : (before xs : List X) (at : ℕ) (item : X) → Every (λ x. test x ≡ false) before → Split test xs at item → Split test (before ++ xs) (length before + at) item
  split_before before xs at item fails s = record {
    front = before ++ s.front;
    back = s.back;
    is = ap (λ l. before ++ l) s.is ∙ sym (append_assoc before s.front (item ∷ s.back));
    place = length-append before s.front ∙ ap (λ n. length before + n) s.place;
    passes = s.passes;
    front_fails = every_append _ before s.front fails s.front_fails;
    back_fails = s.back_fails;
  }

  pub split_behind : (xs behind : List X) (at : ℕ) (item : X) → Every (λ x. test x ≡ false) behind → Split test xs at item → Split test (xs ++ behind) at item
  split_behind xs behind at item fails s = record {
    front = s.front;
    back = s.back ++ behind;
    is = ap (λ l. l ++ behind) s.is ∙ append_assoc s.front (item ∷ s.back) behind;
    place = s.place;
    passes = s.passes;
    front_fails = s.front_fails;
    back_fails = every_append _ s.back behind s.back_fails fails;
  }

  -- a list whose items change only where they pass is changed at the one place
  pub map_same : {Y : Type 0} (f g : X → Y) (xs : List X) → ((x : X) → test x ≡ false → g x ≡ f x) → Every (λ x. test x ≡ false) xs → map g xs ≡ map f xs
  map_same f g [] same fails = refl
  map_same f g (x ∷ xs) same fails = let a = same x fails.0 in let b = map_same f g xs same fails.1 in cc

pub map-append : {X Y : Type 0} (f : X → Y) (xs ys : List X) → map f (xs ++ ys) ≡ map f xs ++ map f ys
map-append f [] ys = refl
map-append f (x ∷ xs) ys = ap (λ l. f x ∷ l) (map-append f xs ys)

pub length-map : {X Y : Type 0} (f : X → Y) (xs : List X) → length (map f xs) ≡ length xs
length-map f [] = refl
length-map f (x ∷ xs) = ap suc (length-map f xs)

set_at : {Y : Type 0} (front back : List Y) (y z : Y) → slice_set (front ++ y ∷ back) (length front) z ≡ front ++ z ∷ back
set_at front back y z = set-append_seam front y back z

get_at : {Y : Type 0} (front back : List Y) (y : Y) → slice_get (front ++ y ∷ back) (length front) ≡ Some y
get_at [] back y = refl
get_at (x ∷ front) back y = get_at front back y

module _ {X Y : Type 0} (test : X → Bool) (xs : List X) (at : ℕ) (item : X) (s : Split test xs at item) where
  pub get_one : (f : X → Y) → slice_get (map f xs) at ≡ Some (f item)
  get_one f =
      let a = ap (map f) s.is ∙ map-append f s.front (item ∷ s.back) in
      let b = sym s.place ∙ sym (length-map f s.front) in
      ap (λ l. slice_get l at) a ∙ ap (λ n. slice_get (map f s.front ++ f item ∷ map f s.back) n) (sym s.place ∙ sym (length-map f s.front)) ∙ get_at (map f s.front) (map f s.back) (f item)

  pub set_one : (f g : X → Y) → ((x : X) → test x ≡ false → g x ≡ f x) → map g xs ≡ slice_set (map f xs) at (g item)
  set_one f g same =
      let a = ap (map f) s.is ∙ map-append f s.front (item ∷ s.back) in
      let b = ap (map g) s.is ∙ map-append g s.front (item ∷ s.back) in
      let c = map_same test f g s.front same s.front_fails in
      let d = map_same test f g s.back same s.back_fails in
      let e = ap (λ l. slice_set l at (g item)) a ∙ ap (λ n. slice_set (map f s.front ++ f item ∷ map f s.back) n (g item)) (sym s.place ∙ sym (length-map f s.front)) ∙ set_at (map f s.front) (map f s.back) (f item) (g item) in
      cc
