use Rattle.std.proofs.Common.{take}
use Rattle.fresh_prefix.specs.Missing.{AreMarks}
use Rattle.fresh_prefix.proofs.least.marks_below.Given as goal

abbrev pub invariant-loop-number : goal.invariant-loop-number
invariant-loop-number l = AreMarks l.count (take l.number-index l.numbers) l.marks.items
