use Rattle.local_sets.specs.Counting.{IsCounting, work}
use Rattle.local_sets.proofs.counting.Search.visit_all.Given as goal

abbrev pub invariant-loop-point : goal.invariant-loop-point
invariant-loop-point l = IsCounting l.arcs l.events l.self

abbrev pub decreases-loop-point : goal.decreases-loop-point
decreases-loop-point l = work l.self
