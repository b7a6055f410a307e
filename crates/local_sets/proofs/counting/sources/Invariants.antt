use Rattle.std.proofs.Common.{take, map}
use Rattle.local_sets.specs.Counting.{AreSources}
use Rattle.local_sets.proofs.counting.sources.Given as goal

abbrev pub invariant-loop-from : goal.invariant-loop-from
invariant-loop-from l = AreSources l.points (take l.from-index l.arcs) (map (λ list. list.items) l.lists.items)
