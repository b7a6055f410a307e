-- The places of blocks among the reached ones.
use Rattle.std.specs.Prelude.{◌≡◌, ℕ, ◌<◌, List, [], ◌∷◌, length, slice_index}
use Rattle.best_placement.specs.Shapes.{Shape, next_edge}
use Rattle.function_graphs.specs.Graphs.{place_in}

-- for each of so many blocks how many of these come before it
pub record ArePlaces (blocks : List ℕ) (count : ℕ) (places : List ℕ) : Type 0 where
  pub len : length places ≡ count
  pub are : (b : ℕ) → b < count → slice_index places b ≡ place_in blocks b

-- the number of the edge after blocks of these shapes
abbrev pub edges_from : ℕ → List Shape → ℕ
edges_from edge [] = edge
edges_from edge (s ∷ shapes) = edges_from (next_edge edge s) shapes
