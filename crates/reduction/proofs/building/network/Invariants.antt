use Rattle.reduction.proofs.Growing.{Growing}
use Rattle.reduction.proofs.building.network.Given as goal

abbrev pub invariant-loop-place : goal.invariant-loop-place
invariant-loop-place l = Growing l.function l.points l.counts l.sets l.arcs.items l.constant l.place
