use Rattle.std.proofs.Common.{take}
use Rattle.planning.specs.Marking.{IsSetOf}
use Rattle.planning.proofs.marks.set_of.Given as goal

abbrev pub invariant-loop-number : goal.invariant-loop-number
invariant-loop-number l = IsSetOf (take l.number-index l.numbers) l.set.keys
