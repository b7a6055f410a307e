use Rattle.std.proofs.Common.{◌≡◌, map, take}
use Rattle.ir_machine.specs.Step.{value_in}
use Rattle.ir_machine.proofs.frame.Frame.values_in.Given as goal

abbrev pub invariant-loop-operand : goal.invariant-loop-operand
invariant-loop-operand l = l.values ≡ map (value_in l.self) (take l.operand-index l.operands)
