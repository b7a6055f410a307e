use Rattle.optimise.specs.Placing.{ChosenSoFar}
use Rattle.optimise.proofs.optimising.all_chosen.Given as goal

abbrev pub invariant-loop-function : goal.invariant-loop-function
invariant-loop-function l = ChosenSoFar l.program l.counts l.function-index l.chosen.items
