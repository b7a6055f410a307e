use Rattle.std.proofs.Common.{◌≡◌, ◌++◌, drop}
use Rattle.ir_types.specs.Rules.{after_params, params_problem}
use Rattle.ir_types.specs.ModuleOf.{params_from}
use Rattle.ir_check.proofs.functions.params.Given as goal

abbrev pub invariant-loop-index : goal.invariant-loop-index
invariant-loop-index l = record {
  problem : params_problem l.index l.before (drop l.index l.params) ≡ params_problem 0 l.fn.before l.params;
  after : after_params l.index l.before (drop l.index l.params) ≡ after_params 0 l.fn.before l.params;
  params : l.made.items ++ params_from l.index l.before (drop l.index l.params) ≡ params_from 0 l.fn.before l.params;
}
