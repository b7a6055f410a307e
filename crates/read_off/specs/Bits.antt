-- The lists of a placement that is read off, as far as they are made.
use Rattle.std.specs.Prelude.{◌≡◌, ◌↔◌, ℕ, ◌+◌, Bool, false, not, ◌&&◌, List, ◌∷◌, ◌++◌, length, map, slice_index, slice_index_or}
use Rattle.expressions.specs.declared.syntax.Event.{Event}
use Rattle.expressions.specs.declared.syntax.Event.TheVariants.{Passes}
use Rattle.best_placement.specs.BlockNetwork.{head_node, last_event}
use Rattle.best_placement.specs.Shapes.{Shape, steps_from, block_from, next_point, next_edge, blocks_from, points_from}
use Rattle.best_placement.specs.Bits.{positions, kept_along, none, inserted_in, kept_in, bits_joined}
use Rattle.best_placement.specs.Laws.{ExpressionGraph, IsExpressionGraph, IsPlacement, IsReadOffOn}
use Rattle.block_places.specs.Places.{edges_from}
use Rattle.placement.specs.declared.placements.Placement.{Placement}
use Rattle.read_off.specs.declared.bits.SetBits.{SetBits}

-- the event of each point; past the points nothing is done
abbrev pub event_at : List Event → ℕ → Event
event_at events v = slice_index_or events v Passes

-- these bits were added
pub record Adds (bits : List Bool) (old new : SetBits) : Type 0 where
  pub numbers : new.numbers.items ≡ old.numbers.items ++ positions old.next bits
  pub next : new.next ≡ old.next + length bits

-- the steps of a block were read
pub record ReadsSteps (event : ℕ → Event) (head : Bool) (count : ℕ) (inserted inserted' kept kept' : SetBits) (last : Event) : Type 0 where
  pub edges : Adds (none (steps_from inserted.next kept.next count)) inserted inserted'
  pub points : Adds (kept_along event head Passes (steps_from inserted.next kept.next count)) kept kept'
  pub next_edge : inserted'.next ≡ inserted.next + count
  pub next_point : kept'.next ≡ kept.next + count
  pub event_before : last ≡ last_event event Passes (steps_from inserted.next kept.next count)

-- the places of blocks by a table
abbrev pub targets_by : List ℕ → List ℕ → List ℕ
targets_by places blocks = map (λ b. slice_index places b) blocks

-- the slots of a block were read, which lead to blocks at these places
abbrev pub ReadsSlots : List Bool → Bool → List ℕ → SetBits → SetBits → Type 0
ReadsSlots sink_side terminator targets old new = Adds (map (λ t. not terminator && slice_index_or sink_side (head_node t) false) targets) old new

abbrev pub shape_with : ℕ → List ℕ → ℕ → Shape
shape_with instructions targets weight = record { instructions = instructions; targets = targets; weight = weight }

-- a block was read
pub record ReadsBlock (event : ℕ → Event) (nodes : ℕ → Bool) (place : ℕ) (s : Shape) (inserted inserted' kept kept' : SetBits) : Type 0 where
  pub edges : Adds (inserted_in event nodes (block_from place kept.next inserted.next s)) inserted inserted'
  pub points : Adds (kept_in event nodes (block_from place kept.next inserted.next s)) kept kept'
  pub after_edges : inserted'.next ≡ next_edge inserted.next s
  pub after_points : kept'.next ≡ next_point kept.next s

-- all bits so far, from number 0 on
pub record Holds (bits : List Bool) (b : SetBits) : Type 0 where
  pub numbers : b.numbers.items ≡ positions 0 bits
  pub next : b.next ≡ length bits

-- the blocks of these shapes were read
pub record ReadsBlocks (event : ℕ → Event) (nodes : ℕ → Bool) (shapes : List Shape) (inserted kept : SetBits) : Type 0 where
  pub edges : Holds (nodes (head_node 0) ∷ bits_joined (inserted_in event nodes) (blocks_from 0 1 1 shapes)) inserted
  pub points : Holds (false ∷ bits_joined (kept_in event nodes) (blocks_from 0 1 1 shapes)) kept
  pub after_edges : inserted.next ≡ edges_from 1 shapes
  pub after_points : kept.next ≡ points_from 1 shapes

-- the bits of a graph, one for each edge and one for each point in order
abbrev pub edge_bits : ExpressionGraph → (ℕ → Bool) → List Bool
edge_bits g nodes = nodes (head_node 0) ∷ bits_joined (inserted_in g.event nodes) g.blocks

abbrev pub point_bits : ExpressionGraph → (ℕ → Bool) → List Bool
point_bits g nodes = false ∷ bits_joined (kept_in g.event nodes) g.blocks

-- the lists of a placement are the numbers of the set bits
pub record HasBits (g : ExpressionGraph) (nodes : ℕ → Bool) (p : Placement) : Type 0 where
  pub inserted : p.inserted ≡ positions 0 (edge_bits g nodes)
  pub kept : p.kept ≡ positions 0 (point_bits g nodes)

-- a placement is read off a set of nodes exactly where its lists are the numbers of the set bits
abbrev pub ReadOffIsBits : Type 0
ReadOffIsBits = (g : ExpressionGraph) (nodes : ℕ → Bool) (p : Placement) → IsExpressionGraph g → IsPlacement g p → IsReadOffOn g nodes p ↔ HasBits g nodes p
