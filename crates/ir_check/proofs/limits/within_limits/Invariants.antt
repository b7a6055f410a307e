use Rattle.std.proofs.Common.{All, take}
use Rattle.ir_types.specs.Limits.{IsWithinLimits}
use Rattle.ir_check.proofs.limits.within_limits.Given as goal

abbrev pub invariant-loop-function : goal.invariant-loop-function
invariant-loop-function l = All IsWithinLimits (take l.function-index l.function-items)
