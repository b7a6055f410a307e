use Rattle.std.proofs.Common.{◌≡◌, drop}
use Rattle.ir_types.specs.Rules.{after_params}
use Rattle.ir_check.proofs.functions.pass_params.Given as goal

abbrev pub invariant-loop-index : goal.invariant-loop-index
invariant-loop-index l = after_params l.index l.before (drop l.index l.params) ≡ after_params 0 l.fn.before l.params
