use Rattle.std.proofs.Common.{take}
use Rattle.planning.specs.Marking.{AreBits}
use Rattle.planning.proofs.marks.bits_of.Given as goal

abbrev pub invariant-loop-number : goal.invariant-loop-number
invariant-loop-number l = AreBits l.count (take l.number-index l.numbers) l.bits.items
