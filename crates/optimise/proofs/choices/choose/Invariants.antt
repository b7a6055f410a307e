use Rattle.optimise.proofs.Gathered.{ChoicesSoFar}
use Rattle.optimise.proofs.choices.choose.Given as goal

abbrev pub invariant-loop-function : goal.invariant-loop-function
invariant-loop-function l = ChoicesSoFar l.program l.profile.functions l.function-index l.chosen.items
