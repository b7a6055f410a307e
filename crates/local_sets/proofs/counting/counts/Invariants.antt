use Rattle.std.proofs.Common.{take}
use Rattle.local_sets.specs.Counting.{AreCounts}
use Rattle.local_sets.proofs.counting.counts.Given as goal

abbrev pub invariant-loop-from : goal.invariant-loop-from
invariant-loop-from l = AreCounts l.points (take l.from-index l.arcs) l.counts.items
