use Rattle.checker.specs.Checked.{AreGoodEntries}
use Rattle.checker.proofs.faults.fault_in.Given as goal

abbrev pub invariant-loop-e : goal.invariant-loop-e
invariant-loop-e l = AreGoodEntries l.own l.counts l.entries l.e
