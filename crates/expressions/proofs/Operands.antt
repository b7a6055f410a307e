-- What operands stand for, one after another.
use Rattle.std.proofs.Common.{◌≡◌, ℕ, ◌+◌, ◌<◌, ◌≤◌, List, [], ◌∷◌, ◌++◌, length, drop, get_or, Option, Some, None, refl, sym, ap, ◌∙◌}
use Rattle.std.specs.Prelude.{option_and_then}
use Rattle.std.specs.Option.{option_map}
use Rattle.std.proofs.lemmas.List.{append-nil, append_assoc, at_drop_more, at_drop_all}
use Rattle.expressions.specs.Expressions.{each_some}

-- what all of them have is what those so far have, and then what the rest has
abbrev pub SoFar : {A B : Type 0} → (A → Option B) → List A → ℕ → List B → Type 0
SoFar g xs i front = each_some g xs ≡ option_map (λ rest. front ++ rest) (each_some g (drop i xs))

front_more : {B : Type 0} (front : List B) (y : B) (rest : Option (List B)) → option_map (λ r. front ++ r) (option_map (λ r. y ∷ r) rest) ≡ option_map (λ r. (front ++ y ∷ []) ++ r) rest
front_more front y None = refl
front_more front y (Some r) = ap Some (sym (append_assoc front (y ∷ []) r))

pub so_far_start : {A B : Type 0} (g : A → Option B) (xs : List A) → SoFar g xs 0 []
so_far_start g xs = same (each_some g xs)
  where
    same : {B : Type 0} (o : Option (List B)) → o ≡ option_map (λ rest. [] ++ rest) o
    same None = refl
    same (Some r) = refl

pub so_far_more : {A B : Type 0} (g : A → Option B) (xs : List A) (i : ℕ) (front more : List B) (x : A) (y : B) → i < length xs → get_or xs i x ≡ x → g x ≡ Some y → more ≡ front ++ y ∷ []
    → SoFar g xs i front → SoFar g xs (i + 1) more
so_far_more g xs i front more x y lt at is grown before =
    let rest = each_some g (drop (i + 1) xs) in
    before
    ∙ ap (option_map (λ r. front ++ r)) (at_drop_more (each_some g) xs i x lt
    ∙ ap (λ z. option_and_then (λ y. option_map (λ ys. y ∷ ys) rest) (g z)) at
    ∙ ap (option_and_then (λ y. option_map (λ ys. y ∷ ys) rest)) is)
    ∙ front_more front y rest
    ∙ ap (λ l. option_map (λ r. l ++ r) rest) (sym grown)

pub so_far_none : {A B : Type 0} (g : A → Option B) (xs : List A) (i : ℕ) (front : List B) (x : A) → i < length xs → get_or xs i x ≡ x → g x ≡ None → SoFar g xs i front → each_some g xs ≡ None
so_far_none g xs i front x lt at is before =
    let rest = each_some g (drop (i + 1) xs) in
    before
    ∙ ap (option_map (λ r. front ++ r)) (at_drop_more (each_some g) xs i x lt
    ∙ ap (λ z. option_and_then (λ y. option_map (λ ys. y ∷ ys) rest) (g z)) at
    ∙ ap (option_and_then (λ y. option_map (λ ys. y ∷ ys) rest)) is)

pub so_far_end : {A B : Type 0} (g : A → Option B) (xs : List A) (i : ℕ) (front : List B) → length xs ≤ i → SoFar g xs i front → each_some g xs ≡ Some front
so_far_end g xs i front le before =
    before ∙ ap (option_map (λ r. front ++ r)) (at_drop_all (each_some g) xs i le) ∙ ap Some (append-nil front)
