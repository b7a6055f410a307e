use Rattle.std.proofs.Common.{ℕ, ◌<◌}
use Rattle.checker.specs.Reasons.{DiffersAt}
use Rattle.checker.proofs.lengths.first_other.Given as goal

abbrev pub invariant-loop-function : goal.invariant-loop-function
invariant-loop-function l = (i n : ℕ) → i < l.function → ¬ (DiffersAt l.numbered l.certificate i n)
