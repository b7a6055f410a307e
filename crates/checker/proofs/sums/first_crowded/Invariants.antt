use Rattle.std.proofs.Common.{ℕ, ◌<◌}
use Rattle.checker.specs.Reasons.{IsCrowded}
use Rattle.checker.proofs.sums.first_crowded.Given as goal

abbrev pub invariant-loop-function : goal.invariant-loop-function
invariant-loop-function l = (i : ℕ) → i < l.function → ¬ (IsCrowded l.certificate i)
