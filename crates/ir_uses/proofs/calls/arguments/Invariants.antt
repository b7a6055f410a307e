use Rattle.std.proofs.Common.{◌≡◌, ◌++◌, map, drop}
use Rattle.ir_types.specs.Uses.{arguments_problem}
use Rattle.ir_types.specs.ModuleOf.{argument_of}
use Rattle.ir_uses.proofs.calls.arguments.Given as goal

abbrev pub invariant-loop-index : goal.invariant-loop-index
invariant-loop-index l = record {
  problem : arguments_problem l.context l.here (drop l.index l.params) (drop l.index l.arguments) ≡ arguments_problem l.context l.here l.params l.arguments;
  operands : l.operands.items ++ map (argument_of l.context) (drop l.index l.arguments) ≡ map (argument_of l.context) l.arguments;
}
