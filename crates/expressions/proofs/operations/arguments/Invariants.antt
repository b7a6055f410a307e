use Rattle.expressions.specs.Tracking.{arg_now}
use Rattle.expressions.proofs.Operands.{SoFar}
use Rattle.expressions.proofs.operations.arguments.Given as goal

abbrev pub invariant-loop-operand : goal.invariant-loop-operand
invariant-loop-operand l = SoFar (arg_now l.changes l.first l.before) l.operands l.operand-index l.args
