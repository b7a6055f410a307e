use Rattle.std.proofs.Common.{◌≡◌, [], take}
use Rattle.std.specs.Prelude.{filter}
use Rattle.profile.specs.Counts.{is_defined}
use Rattle.point_rows.proofs.costing.cost_in_first.Given as goal

abbrev pub invariant-loop-function : goal.invariant-loop-function
invariant-loop-function l = record {
  functions : l.function-items ≡ l.module.functions;
  none : filter is_defined (take l.function-index l.function-items) ≡ [];
}
