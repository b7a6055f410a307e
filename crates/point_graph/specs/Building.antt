-- How the lists of points and edges are put together.
use Rattle.std.specs.Prelude.{ℕ, ◌+◌, ◌<◌, ◌^◌, ◌≤◌, Bool, List, ◌∷◌, ◌++◌, All, length, map, filter, flat_map, slice_get}
use Rattle.std.specs.List.{range_with_len}
use Rattle.std.specs.Option.{option_map_or}
use Rattle.ir_types.specs.declared.syntax.Terminator.{Terminator}
use Rattle.ir_types.specs.declared.syntax.Block.{Block}
use Rattle.ir_types.specs.declared.syntax.Function.{Function}
use Rattle.flow_graph.specs.Slots.{slots_of}
use Rattle.point_graph.specs.Numbers.{of_block, all_points, all_edges}
use Rattle.point_graph.specs.declared.graph.EdgeKind.TheVariants.{Entry, Inside, Slot}
use Rattle.point_graph.specs.declared.graph.Edge.{Edge}
use Rattle.point_graph.specs.declared.graph.BlockStart.{BlockStart}

-- the blocks before block b that the test tells
abbrev pub blocks_before : (ℕ → Bool) → ℕ → List ℕ
blocks_before test b = filter test (range_with_len 0 b)

-- as many points and edges come before block b
abbrev pub start_of : Function → (ℕ → Bool) → ℕ → BlockStart
start_of f test b = record { point = length (all_points f (blocks_before test b)); edge = length (all_edges f (blocks_before test b)) }

abbrev pub starts_of : Function → (ℕ → Bool) → ℕ → List BlockStart
starts_of f test n = map (start_of f test) (range_with_len 0 n)

-- there is room for the numbers of a block's points behind its start
abbrev pub IsSmall : BlockStart → Type 0
IsSmall start = start.point ≤ 2 ^ 20

-- each of these is a block of the function
abbrev pub AreBlocks : Function → List ℕ → Type 0
AreBlocks f blocks = All (λ b. b < length f.blocks) blocks

-- the number of a block's head
abbrev pub head_of : List BlockStart → ℕ → ℕ
head_of starts b = option_map_or (λ s. s.point) (slice_get starts b) 0

-- the edge to place k of a block with this head
abbrev pub inside_edge : ℕ → ℕ → ℕ → Edge
inside_edge b head k = record { from = head + k; to = head + k + 1; kind = Inside b }

-- the edge of a slot of a block with this terminator, which has this number
abbrev pub slot_edge : List BlockStart → ℕ → ℕ → Terminator → ℕ → Edge
slot_edge starts b from term slot =
    record { from = from; to = option_map_or (head_of starts) (slice_get (slots_of term) slot) 0; kind = Slot b slot }

abbrev pub inside_edges : ℕ → ℕ → ℕ → List Edge
inside_edges b head instrs = map (inside_edge b head) (range_with_len 0 (instrs + 1))

abbrev pub slot_edges : List BlockStart → ℕ → ℕ → Terminator → List Edge
slot_edges starts b from term = map (slot_edge starts b from term) (range_with_len 0 (length (slots_of term)))

-- the numbered edges of a block
abbrev pub numbered_edges : List BlockStart → ℕ → Block → List Edge
numbered_edges starts b block =
    inside_edges b (head_of starts b) (length block.instrs)
    ++ slot_edges starts b (head_of starts b + length block.instrs + 1) block.term

abbrev pub all_numbered : Function → List BlockStart → List ℕ → List Edge
all_numbered f starts blocks =
    record { from = 0; to = head_of starts 0; kind = Entry } ∷ flat_map (of_block (numbered_edges starts) f) blocks
