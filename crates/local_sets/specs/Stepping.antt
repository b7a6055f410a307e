-- How the sets of a block grow by one event, and what is left of the events.
use Rattle.std.specs.Prelude.{◌≡◌, ℕ, ◌+◌, ◌≤◌, List, drop, take, flat_map, length}
use Rattle.std.specs.List.{AllZip}
use Rattle.ir_types.specs.declared.syntax.Function.{Function}
use Rattle.point_graph.specs.Numbers.{of_block, block_points}
use Rattle.expressions.specs.declared.syntax.Event.{Event}
use Rattle.expressions.specs.declared.syntax.Event.TheVariants.{Occurs, Kills, Bars, Passes}
use Rattle.expressions.specs.Kept.{Kept}
use Rattle.local_sets.specs.declared.blocks.BlockSets.{BlockSets}
use Rattle.local_sets.specs.Blocks.{is_forced, IsAt, IsBlockSets}

abbrev pub first_of : Event → Event → Event
first_of Passes event = event
first_of Occurs event = Occurs
first_of Kills event = Kills
first_of Bars event = Bars

abbrev pub grown : BlockSets → Event → BlockSets
grown sets event = record { first = first_of sets.first event; last = event; forced = sets.forced + is_forced sets.last event }

abbrev pub with_event : BlockSets → Event → BlockSets
with_event sets Occurs = grown sets Occurs
with_event sets Kills = grown sets Kills
with_event sets Bars = sets
with_event sets Passes = sets

-- these are the events of the points of these blocks
abbrev pub AreLeft : Function → Kept → ℕ → List ℕ → List Event → Type 0
AreLeft f t e blocks events = AllZip (IsAt f t e) (flat_map (of_block block_points f) blocks) events

-- before block i of the list, with these events left
pub record AreSoFar (f : Function) (blocks : List ℕ) (events : List Event) (i : ℕ) (left : List Event) (sets : List BlockSets) : Type 0 where
  pub count : length (flat_map (of_block block_points f) (drop i blocks)) ≡ length left
  pub few : length left ≤ length events
  pub so_far : (t : Kept) (e : ℕ) → AreLeft f t e blocks events → AllZip (IsBlockSets f t e) (take i blocks) sets × AreLeft f t e (drop i blocks) left
