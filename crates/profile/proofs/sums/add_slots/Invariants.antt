use Rattle.flow_graph.specs.Slots.{slots_of}
use Rattle.profile.proofs.Balancing.{AddingSlots}
use Rattle.profile.proofs.sums.add_slots.Given as goal

abbrev pub invariant-loop-slot : goal.invariant-loop-slot
invariant-loop-slot l = AddingSlots (slots_of l.term) l.counts l.fn.sums l.sums l.slot
