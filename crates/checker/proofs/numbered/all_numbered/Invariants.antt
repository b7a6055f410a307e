use Rattle.checker.specs.Numbering.{AreNumberedSoFar}
use Rattle.checker.proofs.numbered.all_numbered.Given as goal

abbrev pub invariant-loop-function : goal.invariant-loop-function
invariant-loop-function l = AreNumberedSoFar l.program l.function-index l.numbered.items
