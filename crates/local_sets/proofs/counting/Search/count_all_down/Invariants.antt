use Rattle.std.proofs.Common.{take}
use Rattle.local_sets.specs.Counting.{CountsDown}
use Rattle.local_sets.proofs.counting.Search.count_all_down.Given as goal

abbrev pub invariant-loop-point : goal.invariant-loop-point
invariant-loop-point l = CountsDown l.free (take l.point-index l.points) l.fn.self l.self
