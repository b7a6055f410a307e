use Rattle.std.proofs.Common.{take}
use Rattle.occurrences.specs.Listed.{AreListed}
use Rattle.occurrences.proofs.listing.lists_of.Given as goal

abbrev pub invariant-loop-point : goal.invariant-loop-point
invariant-loop-point l = AreListed l.count (take l.point l.occurring) l.lists.items
