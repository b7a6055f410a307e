-- The points and the edges of a function, and the paths along them.
use Rattle.std.specs.Prelude.{◌≡◌, ℕ, zero, suc, ◌≤◌, List, [], ◌∷◌, Some, length, slice_get}
use Rattle.ir_types.specs.declared.syntax.Block.{Block}
use Rattle.ir_types.specs.declared.syntax.Function.{Function}
use Rattle.flow_graph.specs.Slots.{slots_of}

-- Start, the head of a block, and the places of a block: its instructions, and behind them its terminator
pub data Point : Type 0 where
  Start : Point
  Head : (block : ℕ) → Point
  Place : (block place : ℕ) → Point

-- the edge from Start, the edge of a block to one of its places, and a slot of a block
pub data Edge : Type 0 where
  Entry : Edge
  Inside : (block place : ℕ) → Edge
  Slot : (block slot : ℕ) → Edge

-- the point before a place of its block
abbrev pub point_before : ℕ → ℕ → Point
point_before b zero = Head b
point_before b (suc k) = Place b k

pub record InsideJoins (f : Function) (b k : ℕ) (u v : Point) : Type 0 where
  pub block : Block
  pub block_there : slice_get f.blocks b ≡ Some block
  pub within : k ≤ length block.instrs
  pub begins : u ≡ point_before b k
  pub ends : v ≡ Place b k

pub record SlotJoins (f : Function) (b slot : ℕ) (u v : Point) : Type 0 where
  pub block : Block
  pub block_there : slice_get f.blocks b ≡ Some block
  pub target : ℕ
  pub leads : slice_get (slots_of block.term) slot ≡ Some target
  pub begins : u ≡ Place b (length block.instrs)
  pub ends : v ≡ Head target

-- the edge leads from u to v
abbrev pub Joins : Function → Edge → Point → Point → Type 0
Joins f Entry u v = (u ≡ Start) × (v ≡ Head 0)
Joins f (Inside b k) u v = InsideJoins f b k u v
Joins f (Slot b slot) u v = SlotJoins f b slot u v

-- one edge of a path, with its ends
pub record Hop : Type 0 where
  pub from : Point
  pub edge : Edge
  pub to : Point

-- the path leads from u to v: each edge begins where the one before ends
abbrev pub IsPath : Function → Point → List Hop → Point → Type 0
IsPath f u [] v = u ≡ v
IsPath f u (hop ∷ path) v = (u ≡ hop.from) × Joins f hop.edge hop.from hop.to × IsPath f hop.to path v

-- some path from Start leads to v
pub record IsReached (f : Function) (v : Point) : Type 0 where
  pub path : List Hop
  pub leads : IsPath f Start path v
