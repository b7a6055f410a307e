use Rattle.optimise.specs.Placing.{AreChosenEntries}
use Rattle.optimise.proofs.choosing.entries.Given as goal

abbrev pub invariant-loop-e : goal.invariant-loop-e
invariant-loop-e l = AreChosenEntries l.function l.points l.table l.counts l.e l.entries.items
