use Rattle.flow_graph.specs.Slots.{slots_of}
use Rattle.profile.proofs.Balancing.{CountingSlots}
use Rattle.profile.proofs.sums.count_into.Given as goal

abbrev pub invariant-loop-slot : goal.invariant-loop-slot
invariant-loop-slot l = CountingSlots (slots_of l.term) l.counts l.block l.into l.slot
