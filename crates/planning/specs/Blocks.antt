-- The changes of blocks, by the lists of all edges and points.
use Rattle.std.specs.Prelude.{◌≡◌, ◌+◌, ◌<◌, ◌≤◌, ◌^◌, ℕ, List, [], Some, Contains, length, take, drop, slice_get}
use Rattle.ir_types.specs.declared.syntax.Block.{Block}
use Rattle.ir_types.specs.declared.syntax.Function.{Function}
use Rattle.flow_graph.specs.Slots.{slots_of}
use Rattle.point_graph.specs.declared.graph.BlockStart.{BlockStart}
use Rattle.point_graph.specs.declared.graph.Points.{Points}
use Rattle.changes.specs.declared.lists.BlockChanges.{BlockChanges}
use Rattle.planning.specs.declared.moves.Moved.{Moved}

-- the lists have what belongs to a block that begins there
pub record HasRoom (start : BlockStart) (block : Block) (moved : Moved) : Type 0 where
  pub edges : start.edge + length block.instrs + 1 + length (slots_of block.term) ≤ length moved.edges.items
  pub actions : start.point + 1 + length block.instrs ≤ length moved.actions.items
  pub few : length moved.edges.items < 2 ^ 32

-- nothing changes
pub record IsNoBlock (changes : BlockChanges) : Type 0 where
  pub inside : changes.inside ≡ []
  pub slots : changes.slots ≡ []
  pub actions : changes.actions ≡ []

-- the changes of a block that begins there
pub record IsBlock (start : BlockStart) (block : Block) (moved : Moved) (changes : BlockChanges) : Type 0 where
  pub first_edge : changes.first_edge ≡ start.edge
  pub first_slot : changes.first_slot ≡ start.edge + length block.instrs + 1
  pub inside : changes.inside ≡ take (length block.instrs + 1) (drop start.edge moved.edges.items)
  pub slots : changes.slots ≡ take (length (slots_of block.term)) (drop (start.edge + length block.instrs + 1) moved.edges.items)
  pub actions : changes.actions ≡ take (length block.instrs) (drop (start.point + 1) moved.actions.items)

-- the changes of block b, which is reached
pub record IsBlockOf (f : Function) (p : Points) (moved : Moved) (b : ℕ) (changes : BlockChanges) : Type 0 where
  pub start : BlockStart
  pub start_there : slice_get p.starts b ≡ Some start
  pub block : Block
  pub block_there : slice_get f.blocks b ≡ Some block
  pub is : IsBlock start block moved changes

-- the changes of block b
pub record AreChangesIn (f : Function) (p : Points) (moved : Moved) (b : ℕ) (changes : BlockChanges) : Type 0 where
  pub reached : Contains p.blocks b → IsBlockOf f p moved b changes
  pub others : ¬ Contains p.blocks b → IsNoBlock changes

-- the changes of the first n blocks
pub record AreBlocks (f : Function) (p : Points) (moved : Moved) (n : ℕ) (blocks : List BlockChanges) : Type 0 where
  pub len : length blocks ≡ n
  pub each : (b : ℕ) (changes : BlockChanges) → slice_get blocks b ≡ Some changes → AreChangesIn f p moved b changes
