use Rattle.flow_graph.specs.Slots.{slots_of}
use Rattle.reduction.proofs.Pushing.{SlotsLeft}
use Rattle.reduction.proofs.block_arcs.push_slots.Given as goal

abbrev pub invariant-loop-slot : goal.invariant-loop-slot
invariant-loop-slot l = SlotsLeft l.place l.places (slots_of l.term) l.counts l.fn.arcs.items l.arcs.items l.slot
