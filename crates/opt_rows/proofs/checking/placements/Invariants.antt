use Rattle.opt_rows.specs.Checked.{AreChecked}
use Rattle.opt_rows.proofs.checking.placements.Given as goal

abbrev pub invariant-loop-e : goal.invariant-loop-e
invariant-loop-e l = AreChecked l.function l.points l.table l.e l.placements.items
