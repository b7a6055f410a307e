-- The point graph of blocks of given shapes, numbered in order.
use Rattle.std.specs.Prelude.{◌≡◌, ℕ, suc, zero, ◌+◌, ◌<◌, List, [], ◌∷◌, ◌++◌, length, map, All}
use Rattle.expressions.specs.declared.syntax.Event.{Event}
use Rattle.expressions.specs.declared.syntax.Event.TheVariants.{Occurs, Kills, Passes}
use Rattle.flow_paths.specs.Paths.{Connects}
use Rattle.best_placement.specs.Blocks.{Block, IsFlowGraph}

-- a reached block: its instruction points, the index of the block that each slot leads to, and its weight
pub record Shape : Type 0 where
  pub instructions : ℕ
  pub targets : List ℕ
  pub weight : ℕ

-- edges and points, each one more than the one before
abbrev pub steps_from : ℕ → ℕ → ℕ → List (ℕ × ℕ)
steps_from edge point zero = []
steps_from edge point (suc n) = (edge, point) ∷ steps_from (suc edge) (suc point) n

abbrev pub slots_from : ℕ → List ℕ → List (ℕ × ℕ)
slots_from edge [] = []
slots_from edge (t ∷ targets) = (edge, t) ∷ slots_from (suc edge) targets

-- the block of a shape, numbered from these on
abbrev pub block_from : ℕ → ℕ → ℕ → Shape → Block
block_from index point edge s = record {
  index = index;
  head = point;
  steps = steps_from edge (suc point) s.instructions;
  exit = edge + s.instructions;
  terminator = suc point + s.instructions;
  slots = slots_from (suc (edge + s.instructions)) s.targets;
  weight = s.weight;
}

-- the numbers after a block
abbrev pub next_point : ℕ → Shape → ℕ
next_point point s = suc (suc point + s.instructions)

abbrev pub next_edge : ℕ → Shape → ℕ
next_edge edge s = suc (edge + s.instructions) + length s.targets

abbrev pub blocks_from : ℕ → ℕ → ℕ → List Shape → List Block
blocks_from index point edge [] = []
blocks_from index point edge (s ∷ shapes) = block_from index point edge s ∷ blocks_from (suc index) (next_point point s) (next_edge edge s) shapes

-- the head of the block of an index
abbrev pub head_at : ℕ → List Shape → ℕ → ℕ
head_at point [] t = 0
head_at point (s ∷ shapes) zero = point
head_at point (s ∷ shapes) (suc t) = head_at (next_point point s) shapes t

-- arcs from each of n points to the next
abbrev pub straight : ℕ → ℕ → List (ℕ × ℕ)
straight point zero = []
straight point (suc n) = (point, suc point) ∷ straight (suc point) n

abbrev pub arcs_from : (ℕ → ℕ) → ℕ → List Shape → List (ℕ × ℕ)
arcs_from heads point [] = []
arcs_from heads point (s ∷ shapes) = straight point (suc s.instructions) ++ (map (λ t. (suc point + s.instructions, heads t)) s.targets ++ arcs_from heads (next_point point s) shapes)

-- the blocks, the arcs and the number of points: Start and the entry's edge first
abbrev pub shape_blocks : List Shape → List Block
shape_blocks shapes = blocks_from 0 1 1 shapes

abbrev pub shape_arcs : List Shape → List (ℕ × ℕ)
shape_arcs shapes = (0, 1) ∷ arcs_from (head_at 1 shapes) 1 shapes

abbrev pub points_from : ℕ → List Shape → ℕ
points_from point [] = point
points_from point (s ∷ shapes) = points_from (next_point point s) shapes

abbrev pub shape_points : List Shape → ℕ
shape_points shapes = points_from 1 shapes

-- what is left to be known of the shapes, the events and the weights
pub record Suits (shapes : List Shape) (event : ℕ → Event) (edge_weight point_weight : ℕ → ℕ) : Type 0 where
  pub entry : 0 < length shapes
  pub targets : All (λ s. All (λ t. t < length shapes) s.targets) shapes
  pub start_passes : event 0 ≡ Passes
  pub heads_pass : All (λ b. event b.head ≡ Passes) (shape_blocks shapes)
  pub terminators : All (λ b. (event b.terminator ≡ Occurs → ⊥) × (event b.terminator ≡ Kills → ⊥)) (shape_blocks shapes)
  pub step_weights : All (λ b. All (λ s. (edge_weight s.0 ≡ b.weight) × (point_weight s.1 ≡ b.weight)) b.steps) (shape_blocks shapes)
  pub exit_weights : All (λ b. edge_weight b.exit ≡ b.weight) (shape_blocks shapes)
  pub edge_weights : (e : ℕ) → e < length (shape_arcs shapes) → 0 < edge_weight e
  pub block_weights : All (λ b. 0 < b.weight) (shape_blocks shapes)
  pub reached : (v : ℕ) → v < shape_points shapes → Connects (shape_arcs shapes) 0 v

-- blocks of suitable shapes, numbered in order, are a point graph
abbrev pub ShapesAreGraphs : Type 0
ShapesAreGraphs = (shapes : List Shape) (event : ℕ → Event) (edge_weight point_weight : ℕ → ℕ) → Suits shapes event edge_weight point_weight →
    IsFlowGraph (shape_arcs shapes) (shape_points shapes) (shape_blocks shapes) event edge_weight point_weight

-- there are shapes, events and weights that suit
abbrev pub SomeSuit : Type 0
SomeSuit = (shapes : List Shape) × (event : ℕ → Event) × (edge_weight : ℕ → ℕ) × (point_weight : ℕ → ℕ) × Suits shapes event edge_weight point_weight
