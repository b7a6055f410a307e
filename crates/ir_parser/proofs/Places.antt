-- The tokens from an index on.
use Rattle.std.proofs.Common.{◌≡◌, ℕ, zero, suc, ◌+◌, List, [], ◌∷◌, drop, map, refl, add-one}

-- behind the next token
pub behind_next : {X Y : Type 0} (f : X → Y) (at : ℕ) (xs : List X) → drop 1 (map f (drop at xs)) ≡ map f (drop (at + 1) xs)
behind_next {X} {Y} f at xs = rw add-one (go at xs)
  where
    go : (at : ℕ) (xs : List X) → drop 1 (map f (drop at xs)) ≡ map f (drop (suc at) xs)
    go zero [] = refl
    go zero (x ∷ xs) = refl
    go (suc at) [] = refl
    go (suc at) (x ∷ xs) = go at xs
