use Rattle.std.proofs.Common.{take, ◌≡◌, ◌+◌}
use Rattle.flow_graph.specs.Slots.{slots_of}
use Rattle.read_off.specs.Bits.{ReadsSlots, targets_by}
use Rattle.read_off.proofs.reading.read_slots.Given as goal

abbrev pub invariant-loop-slot : goal.invariant-loop-slot
invariant-loop-slot l = ReadsSlots l.sink_side l.terminator (take l.slot (targets_by l.places (slots_of l.term))) l.fn.inserted l.inserted × (l.inserted.next ≡ l.fn.inserted.next + l.slot)
