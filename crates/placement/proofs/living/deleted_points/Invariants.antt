use Rattle.placement.specs.Marking.{DeletedBits}
use Rattle.placement.proofs.living.deleted_points.Given as goal

abbrev pub invariant-loop-point : goal.invariant-loop-point
invariant-loop-point l = DeletedBits l.events l.at_point l.point l.bits.items
