use Rattle.std.proofs.Common.{◌≡◌, ◌<◌, ℕ, pos}
use Rattle.flow_check.specs.Sums.{sum_at}
use Rattle.flow_check.proofs.flow.clear.Given as goal

abbrev pub invariant-loop-sum : goal.invariant-loop-sum
invariant-loop-sum l = (v : ℕ) → v < l.sum-index → sum_at l.sums v ≡ pos 0
