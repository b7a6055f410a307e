-- How the lists of a placement are compared with the bits of a graph.
use Rattle.std.specs.Prelude.{◌≡◌, ◌<◌, ◌+◌, ◌↔◌, ℕ, Bool, false, IsTrue, not, ◌&&◌, List, ◌++◌, length, map, slice_get, slice_index_or, Some}
use Rattle.expressions.specs.declared.syntax.Event.{Event}
use Rattle.expressions.specs.declared.syntax.Event.TheVariants.{Passes}
use Rattle.expressions.specs.Tables.{IsTable}
use Rattle.best_placement.specs.BlockNetwork.{head_node, last_event}
use Rattle.best_placement.specs.Bits.{positions, inserted_in, kept_along, kept_in}
use Rattle.best_placement.specs.Shapes.{Shape, steps_from, block_from}
use Rattle.function_graphs.specs.Graphs.{AreEventsOf, place_in}
use Rattle.places_check.specs.declared.cursor.Cursor.{Cursor}
use Rattle.places_check.specs.declared.walking.Expression.{Expression}

-- the numbers of the bits so far began the list, and what is left of it are the numbers of these bits
abbrev pub IsLeft : List Bool → Cursor → Type 0
IsLeft bits c = IsTrue c.agrees × (c.left.now ≡ positions c.next bits)

-- these bits were passed: whatever bits come behind, all of them were left exactly where those behind are left now
pub record GoesPast (bits : List Bool) (old new : Cursor) : Type 0 where
  pub next : new.next ≡ old.next + length bits
  pub left : (more : List Bool) → IsLeft (bits ++ more) old ↔ IsLeft more new

-- an expression of the table of a function
pub record IsListed (x : Expression) : Type 0 where
  pub table : IsTable x.function.now x.points.now x.table.now
  pub number : x.number < length x.table.now.exprs

-- what each point is to the expression
abbrev pub AreIts : Expression → (ℕ → Event) → Type 0
AreIts x event = AreEventsOf x.function.now x.points.now x.table.now x.number event

-- the steps of a block were passed
pub record GoesSteps (event : ℕ → Event) (head : Bool) (edge count : ℕ) (kept kept' : Cursor) (last : Event) : Type 0 where
  pub points : GoesPast (kept_along event head Passes (steps_from edge kept.next count)) kept kept'
  pub event_before : last ≡ last_event event Passes (steps_from edge kept.next count)

-- the slots of a block were passed
abbrev pub GoesSlots : List Bool → Bool → List ℕ → Cursor → Cursor → Type 0
GoesSlots sink_side terminator targets old new = GoesPast (map (λ t. not terminator && slice_index_or sink_side (head_node t) false) targets) old new

-- a block was passed
pub record GoesBlock (event : ℕ → Event) (nodes : ℕ → Bool) (place : ℕ) (s : Shape) (inserted inserted' kept kept' : Cursor) : Type 0 where
  pub edges : GoesPast (inserted_in event nodes (block_from place kept.next inserted.next s)) inserted inserted'
  pub points : GoesPast (kept_in event nodes (block_from place kept.next inserted.next s)) kept kept'

-- a listed block whose nodes have flags
pub record IsTarget (blocks : List ℕ) (sink_side : List Bool) (target : ℕ) : Type 0 where
  pub listed : slice_get blocks (place_in blocks target) ≡ Some target
  pub flag : head_node (place_in blocks target) < length sink_side
