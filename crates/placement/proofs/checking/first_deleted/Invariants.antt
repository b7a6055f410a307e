use Rattle.std.proofs.Common.{ℕ, ◌<◌}
use Rattle.placement.specs.Marking.{DeletedAndSet}
use Rattle.placement.proofs.checking.first_deleted.Given as goal

abbrev pub invariant-loop-point : goal.invariant-loop-point
invariant-loop-point l = (w : ℕ) → w < l.point → ¬ DeletedAndSet l.events l.at_point l.bits w
