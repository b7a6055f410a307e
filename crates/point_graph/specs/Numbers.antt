-- The numbers of the points and the edges of a function: their places in two lists.
use Rattle.std.specs.Prelude.{◌≡◌, ℕ, ◌+◌, Bool, List, [], ◌∷◌, ◌++◌, Some, Contains, length, map, filter, flat_map, slice_get, ◌<◌, ◌^◌}
use Rattle.std.specs.List.{AllZip, range_with_len}
use Rattle.std.specs.Option.{option_map_or}
use Rattle.ir_types.specs.Program.{Program}
use Rattle.ir_types.specs.WellFormed.{IsFunctionIn}
use Rattle.ir_types.specs.declared.syntax.Block.{Block}
use Rattle.ir_types.specs.declared.syntax.Function.{Function}
use Rattle.flow_graph.specs.Slots.{slots_of}
use Rattle.flow_graph.specs.Paths.{AreReached}
use Rattle.point_graph.specs.Graph as graph
use Rattle.point_graph.specs.Graph.{Edge, Entry, Inside, Slot, Joins}
use Rattle.point_graph.specs.declared.graph.Point.{Point}
use Rattle.point_graph.specs.declared.graph.Point.TheVariants.{Start, Head, Instr, Term}
use Rattle.point_graph.specs.declared.graph.EdgeKind.{EdgeKind}
use Rattle.point_graph.specs.declared.graph.EdgeKind.TheVariants as kinds
use Rattle.point_graph.specs.declared.graph.Edge as numbered
use Rattle.point_graph.specs.declared.graph.BlockStart.{BlockStart}
use Rattle.point_graph.specs.declared.graph.Points.{Points}

-- the function of a module that keeps the rules of modules
pub record KeepsRules (f : Function) : Type 0 where
  pub module_of : Program
  pub rules : IsFunctionIn module_of f

-- the reached blocks, in text order
pub record AreReachedBlocks (f : Function) (blocks : List ℕ) : Type 0 where
  pub test : ℕ → Bool
  pub told : AreReached f test
  pub listed : blocks ≡ filter test (range_with_len 0 (length f.blocks))

-- what a list has for block b of a function
abbrev pub of_block : {X : Type 0} → (ℕ → Block → List X) → Function → ℕ → List X
of_block items f b = option_map_or (items b) (slice_get f.blocks b) []

-- the points of a block: its head, its instructions and its terminator
abbrev pub block_points : ℕ → Block → List Point
block_points b block = Head b ∷ map (Instr b) (range_with_len 0 (length block.instrs)) ++ Term b ∷ []

-- the edges of a block: those to its places, and its slots
abbrev pub block_edges : ℕ → Block → List Edge
block_edges b block =
    map (Inside b) (range_with_len 0 (length block.instrs + 1)) ++ map (Slot b) (range_with_len 0 (length (slots_of block.term)))

-- the points and the edges of a function with these reached blocks
abbrev pub all_points : Function → List ℕ → List Point
all_points f blocks = Start ∷ flat_map (of_block block_points f) blocks

abbrev pub all_edges : Function → List ℕ → List Edge
all_edges f blocks = Entry ∷ flat_map (of_block block_edges f) blocks

-- a point of the list as a point of the function
abbrev pub point_of : Function → Point → graph.Point
point_of f Start = graph.Start
point_of f (Head b) = graph.Head b
point_of f (Instr b k) = graph.Place b k
point_of f (Term b) = graph.Place b (option_map_or (λ block. length block.instrs) (slice_get f.blocks b) 0)

abbrev pub kind_of : Edge → EdgeKind
kind_of Entry = kinds.Entry
kind_of (Inside b k) = kinds.Inside b
kind_of (Slot b slot) = kinds.Slot b slot

-- the edge with the numbers of its ends among these points
pub record IsNumbered (f : Function) (points : List Point) (edge : Edge) (e : numbered.Edge) : Type 0 where
  pub kind : e.kind ≡ kind_of edge
  pub from : Point
  pub to : Point
  pub begins : slice_get points e.from ≡ Some from
  pub ends : slice_get points e.to ≡ Some to
  pub joins : Joins f edge (point_of f from) (point_of f to)

-- the numbers of a block's head and of the edge behind it
pub record IsStart (f : Function) (p : Points) (b : ℕ) (start : BlockStart) : Type 0 where
  pub point : slice_get p.points start.point ≡ Some (Head b)
  pub edge : slice_get (all_edges f p.blocks) start.edge ≡ Some (Inside b 0)

pub record HasStart (f : Function) (p : Points) (b : ℕ) : Type 0 where
  pub start : BlockStart
  pub there : slice_get p.starts b ≡ Some start
  pub is_start : IsStart f p b start

-- the points and the edges of a function by their numbers
pub record ArePoints (f : Function) (p : Points) : Type 0 where
  pub blocks : AreReachedBlocks f p.blocks
  pub points : p.points ≡ all_points f p.blocks
  pub edges : AllZip (IsNumbered f p.points) (all_edges f p.blocks) p.edges
  pub starts : (b : ℕ) → Contains p.blocks b → HasStart f p b
  pub few : length p.points + length p.edges < 2 ^ 20
