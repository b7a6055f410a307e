-- A list that has grown by one, and lists that are related place by place.
use Rattle.std.proofs.Common.{◌≡◌, ◌<◌, ◌⊎◌, ⊎_elim, inl, inr, ℕ, zero, suc, List, [], ◌∷◌, ◌++◌, length, Some, refl, ap, arith}
use Rattle.std.specs.Prelude.{slice_get}
use Rattle.std.specs.List.{AllZip}
use Rattle.std.proofs.lemmas.Option.{none-some, same_Some}

pub get_left : {X : Type 0} (xs : List X) (y : X) (k : ℕ) (x : X) → slice_get xs k ≡ Some x → slice_get (xs ++ y ∷ []) k ≡ Some x
get_left [] y k x e = absurd (none-some x e)
get_left (z ∷ xs) y zero x e = e
get_left (z ∷ xs) y (suc k) x e = get_left xs y k x e

pub get_last : {X : Type 0} (xs : List X) (y : X) → slice_get (xs ++ y ∷ []) (length xs) ≡ Some y
get_last [] y = refl
get_last (z ∷ xs) y = get_last xs y

pub get_push : {X : Type 0} (xs : List X) (y : X) (k : ℕ) (x : X) → slice_get (xs ++ y ∷ []) k ≡ Some x → (slice_get xs k ≡ Some x) ⊎ ((k ≡ length xs) × (y ≡ x))
get_push [] y zero x e = inr (refl, same_Some y x e)
get_push [] y (suc k) x e = absurd (none-some x e)
get_push (z ∷ xs) y zero x e = inl e
get_push (z ∷ xs) y (suc k) x e = ⊎_elim (λ l. inl l) (λ r. inr (ap (λ n. suc n) r.0, r.1)) (get_push xs y k x e)

-- what stands at the same place has R
pub zip_at : {A B : Type 0} (R : A → B → Type 0) (xs : List A) (ys : List B) (k : ℕ) (x : A) → AllZip R xs ys → slice_get xs k ≡ Some x → (y : B) × (slice_get ys k ≡ Some y) × R x y
zip_at R [] ys k x all e = absurd (none-some x e)
zip_at R (z ∷ xs) [] k x all e = absurd all
zip_at R (z ∷ xs) (y ∷ ys) zero x all e = let same = same_Some z x e in (y, refl, rw (← same) all.0)
zip_at R (z ∷ xs) (y ∷ ys) (suc k) x all e = zip_at R xs ys k x all.1 e

pub get_some : {X : Type 0} (xs : List X) (k : ℕ) → k < length xs → (x : X) × (slice_get xs k ≡ Some x)
get_some [] k lt = absurd (omega (arith, lt))
get_some (x ∷ xs) zero lt = (x, refl)
get_some (x ∷ xs) (suc k) lt = get_some xs k (omega (arith, lt))
