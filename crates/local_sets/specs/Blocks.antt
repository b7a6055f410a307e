-- What a block does to an expression.
use Rattle.std.specs.Prelude.{◌≡◌, ℕ, ◌+◌, Bool, true, false, List, [], ◌∷◌, Some, filter, slice_get, slice_index_or}
use Rattle.std.specs.List.{AllZip}
use Rattle.ir_types.specs.declared.syntax.Block.{Block}
use Rattle.ir_types.specs.declared.syntax.Function.{Function}
use Rattle.point_graph.specs.declared.graph.Point.{Point}
use Rattle.point_graph.specs.Numbers.{block_points}
use Rattle.expressions.specs.declared.syntax.Event.{Event}
use Rattle.expressions.specs.declared.syntax.Event.TheVariants.{Occurs, Kills, Bars, Passes}
use Rattle.expressions.specs.declared.syntax.Expr.{Expr}
use Rattle.expressions.specs.Events.{IsEvent}
use Rattle.expressions.specs.Kept.{Kept}
use Rattle.local_sets.specs.declared.blocks.BlockSets.{BlockSets}

abbrev pub occurs_or_kills : Event → Bool
occurs_or_kills Occurs = true
occurs_or_kills Kills = true
occurs_or_kills Bars = false
occurs_or_kills Passes = false

-- the last event, or the one before all of them
abbrev pub last_after : Event → List Event → Event
last_after before [] = before
last_after before (event ∷ events) = last_after event events

-- whether an occurrence has a kill before it, as a number
abbrev pub is_forced : Event → Event → ℕ
is_forced Kills Occurs = 1
is_forced _ _ = 0

-- how many occurrences have a kill as the event before them
abbrev pub forced_after : Event → List Event → ℕ
forced_after before [] = 0
forced_after before (event ∷ events) = is_forced before event + forced_after event events

-- the first and the last of the events that occur or kill, and how many occurrences have a kill before them
abbrev pub sets_of : List Event → BlockSets
sets_of events = record {
  first = slice_index_or (filter occurs_or_kills events) 0 Passes;
  last = last_after Passes (filter occurs_or_kills events);
  forced = forced_after Passes (filter occurs_or_kills events);
}

-- the event of a point to the expression of this number
pub record IsAt (f : Function) (t : Kept) (e : ℕ) (point : Point) (event : Event) : Type 0 where
  pub expr : Expr
  pub there : slice_get t.exprs e ≡ Some expr
  pub is_event : IsEvent t.module_of f expr point event

-- the sets of block b, by the events of its points in order
pub record IsBlockSets (f : Function) (t : Kept) (e b : ℕ) (sets : BlockSets) : Type 0 where
  pub block : Block
  pub block_there : slice_get f.blocks b ≡ Some block
  pub events : List Event
  pub are : AllZip (IsAt f t e) (block_points b block) events
  pub sets_are : sets ≡ sets_of events
