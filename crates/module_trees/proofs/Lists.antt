-- What holds of each item of a list, at one of them.
use Rattle.std.proofs.Common.{◌≡◌, ◌<◌, ℕ, zero, suc, List, [], ◌∷◌, Option, Some, None, slice_get, take, length, map, All, refl, ap, subst, arith}
use Rattle.std.specs.List.{AllZip}
use Rattle.std.specs.Option.{option_and_then}
use Rattle.std.proofs.lemmas.Option.{get_or_from_slice_get, slice_get_within}

pub at_place : {X : Type 0} (P : X → Type 0) (xs : List X) → All P xs → (j : ℕ) (x : X) → slice_get xs j ≡ Some x → P x
at_place P xs h j x e = subst P (get_or_from_slice_get xs j x x e) (h j x (slice_get_within xs j x e))

-- what an option gives on comes from what it has
pub record CameFrom {X Y : Type 0} (f : X → Option Y) (o : Option X) (y : Y) : Type 0 where
  pub item : X
  pub is : o ≡ Some item
  pub gives : f item ≡ Some y

pub came_from : {X Y : Type 0} (f : X → Option Y) (o : Option X) (y : Y) → option_and_then f o ≡ Some y → CameFrom f o y
came_from f None y h = cc
came_from f (Some x) y h = record { item = x; is = refl; gives = h }

-- an item of a mapped list is that of an item
pub record MappedFrom {X Y : Type 0} (f : X → Y) (xs : List X) (j : ℕ) (y : Y) : Type 0 where
  pub item : X
  pub is : slice_get xs j ≡ Some item
  pub gives : f item ≡ y

pub mapped_from : {X Y : Type 0} (f : X → Y) (xs : List X) (j : ℕ) (y : Y) → slice_get (map f xs) j ≡ Some y → MappedFrom f xs j y
mapped_from f [] j y h = cc
mapped_from f (x ∷ xs) zero y h = record { item = x; is = refl; gives = cc }
mapped_from f (x ∷ xs) (suc j) y h = let more = mapped_from f xs j y h in record { item = more.item; is = more.is; gives = more.gives }

pub mapped : {X Y : Type 0} (f : X → Y) (xs : List X) (j : ℕ) (x : X) → slice_get xs j ≡ Some x → slice_get (map f xs) j ≡ Some (f x)
mapped f [] j x h = cc
mapped f (y ∷ ys) zero x h = let same : y ≡ x = cc in ap (λ z. Some (f z)) same
mapped f (y ∷ ys) (suc j) x h = mapped f ys j x h

-- a list has an item at this place
pub record HasItem {X : Type 0} (xs : List X) (j : ℕ) : Type 0 where
  pub item : X
  pub is : slice_get xs j ≡ Some item

pub item_at : {X : Type 0} (xs : List X) (j : ℕ) → j < length xs → HasItem xs j
item_at [] j h = absurd (omega arith)
item_at (x ∷ xs) zero h = record { item = x; is = refl }
item_at (x ∷ xs) (suc j) h = let more = item_at xs j (omega arith) in record { item = more.item; is = more.is }

-- an item of the front of a list is one of the list
pub record StandsBefore {X : Type 0} (xs : List X) (n r : ℕ) (x : X) : Type 0 where
  pub is : slice_get xs r ≡ Some x
  pub before : r < n

pub stands_before : {X : Type 0} (n : ℕ) (xs : List X) (r : ℕ) (x : X) → slice_get (take n xs) r ≡ Some x → StandsBefore xs n r x
stands_before zero [] r x h = cc
stands_before zero (y ∷ ys) r x h = cc
stands_before (suc n) [] r x h = cc
stands_before (suc n) (y ∷ ys) zero x h = record { is = h; before = omega arith }
stands_before (suc n) (y ∷ ys) (suc r) x h = let more = stands_before n ys r x h in record { is = more.is; before = omega (arith, more.before) }

-- the item beside an item of another list
pub record Beside {A B : Type 0} (R : A → B → Type 0) (ys : List B) (j : ℕ) (a : A) : Type 0 where
  pub item : B
  pub is : slice_get ys j ≡ Some item
  pub holds : R a item

pub beside : {A B : Type 0} (R : A → B → Type 0) (xs : List A) (ys : List B) (j : ℕ) (a : A) → AllZip R xs ys → slice_get xs j ≡ Some a → Beside R ys j a
beside R [] ys j a h e = cc
beside R (x ∷ xs) [] j a h e = elim h [ ]
beside R (x ∷ xs) (y ∷ ys) zero a h e = let same : x ≡ a = cc in record { item = y; is = refl; holds = subst (λ z. R z y) same h.0 }
beside R (x ∷ xs) (y ∷ ys) (suc j) a h e = let more = beside R xs ys j a h.1 e in record { item = more.item; is = more.is; holds = more.holds }

pub same_length : {A B : Type 0} (R : A → B → Type 0) (xs : List A) (ys : List B) → AllZip R xs ys → length ys ≡ length xs
same_length R [] [] h = refl
same_length R [] (y ∷ ys) h = elim h [ ]
same_length R (x ∷ xs) [] h = elim h [ ]
same_length R (x ∷ xs) (y ∷ ys) h = omega (arith, same_length R xs ys h.1)
