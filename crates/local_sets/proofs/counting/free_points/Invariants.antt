use Rattle.local_sets.specs.Counting.{AreFree}
use Rattle.local_sets.proofs.counting.free_points.Given as goal

abbrev pub invariant-loop-point : goal.invariant-loop-point
invariant-loop-point l = AreFree l.events l.point l.bits.items
