use Rattle.flow_graph.specs.Slots.{slots_of}
use Rattle.block_counts.proofs.Adding.{AddingSlots}
use Rattle.block_counts.proofs.add_slots.Given as goal

abbrev pub invariant-loop-slot : goal.invariant-loop-slot
invariant-loop-slot l = AddingSlots (slots_of l.term) l.counts l.fn.entered l.entered l.slot
