use Rattle.std.proofs.Common.{◌≡◌, ◌<◌, ◌≤◌, ℕ, pos}
use Rattle.flow_check.specs.Sums.{sum_at}
use Rattle.flow_check.proofs.flow.first_unbalanced.Given as goal

abbrev pub invariant-loop-node : goal.invariant-loop-node
invariant-loop-node l = (v : ℕ) → 2 ≤ v → v < l.node → sum_at l.sums v ≡ pos 0
