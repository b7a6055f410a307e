use Rattle.std.proofs.Common.{◌≡◌, ◌++◌, [], map, drop}
use Rattle.ir_types.specs.Uses.{cases_problem}
use Rattle.ir_types.specs.ModuleOf.{case_of}
use Rattle.ir_check.proofs.terms.cases.Given as goal

abbrev pub invariant-loop-each : goal.invariant-loop-each
invariant-loop-each l = record {
  problem : cases_problem l.context l.here l.width l.seen.keys (drop l.each-index l.cases) ≡ cases_problem l.context l.here l.width [] l.cases;
  cases : l.made.items ++ map (case_of l.context l.width) (drop l.each-index l.cases) ≡ map (case_of l.context l.width) l.cases;
}
