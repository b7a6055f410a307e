use Rattle.checker.specs.Checked.{NoneIsFaulty}
use Rattle.checker.proofs.faults.first_fault.Given as goal

abbrev pub invariant-loop-number : goal.invariant-loop-number
invariant-loop-number l = NoneIsFaulty l.counts l.numbered l.certificate l.number
