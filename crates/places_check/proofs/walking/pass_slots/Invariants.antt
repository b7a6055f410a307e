use Rattle.std.proofs.Common.{take, map, ◌≡◌, ◌+◌}
use Rattle.flow_graph.specs.Slots.{slots_of}
use Rattle.function_graphs.specs.Graphs.{place_in}
use Rattle.places_check.specs.Walked.{GoesSlots}
use Rattle.places_check.proofs.walking.pass_slots.Given as goal

abbrev pub invariant-loop-slot : goal.invariant-loop-slot
invariant-loop-slot l = GoesSlots l.sink_side l.terminator (take l.slot (map (place_in l.blocks) (slots_of l.term))) l.fn.inserted l.inserted × (l.inserted.next ≡ l.fn.inserted.next + l.slot)
