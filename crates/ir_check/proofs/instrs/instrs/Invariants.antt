use Rattle.std.proofs.Common.{◌≡◌, ◌+◌, ◌++◌, drop}
use Rattle.ir_types.specs.Rules.{after_instrs, instrs_problem}
use Rattle.ir_types.specs.ModuleOf.{vars_from, instrs_from}
use Rattle.ir_check.proofs.instrs.instrs.Given as goal

abbrev pub invariant-loop-each : goal.invariant-loop-each
invariant-loop-each l = record {
  problem : instrs_problem l.context l.reached (drop l.each-index l.instrs) ≡ instrs_problem l.context l.fn.reached l.instrs;
  after : after_instrs l.reached (drop l.each-index l.instrs) ≡ after_instrs l.fn.reached l.instrs;
  variables : l.variables.items ++ vars_from l.reached (drop l.each-index l.instrs) ≡ l.fn.variables.items ++ vars_from l.fn.reached l.instrs;
  instrs : l.made.items ++ instrs_from l.context l.reached (drop l.each-index l.instrs) ≡ instrs_from l.context l.fn.reached l.instrs;
  count : l.reached.variables + l.reached.instrs ≡ l.fn.reached.variables + l.fn.reached.instrs + l.each-index;
}
