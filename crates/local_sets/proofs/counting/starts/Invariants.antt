use Rattle.local_sets.specs.Counting.{AreStarts}
use Rattle.local_sets.proofs.counting.starts.Given as goal

abbrev pub invariant-loop-point : goal.invariant-loop-point
invariant-loop-point l = AreStarts l.events l.point l.points.items
