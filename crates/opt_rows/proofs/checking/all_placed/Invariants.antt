use Rattle.opt_rows.specs.Checked.{AreSoundSoFar}
use Rattle.opt_rows.proofs.checking.all_placed.Given as goal

abbrev pub invariant-loop-function : goal.invariant-loop-function
invariant-loop-function l = AreSoundSoFar l.program l.function-index l.placed.items
