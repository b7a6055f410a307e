use Rattle.std.proofs.Common.{◌≡◌, ◌++◌, drop}
use Rattle.local_sets.specs.Heads.{placed}
use Rattle.local_sets.proofs.reaching.sets_at_points.Given as goal

abbrev pub invariant-loop-point : goal.invariant-loop-point
invariant-loop-point l = l.list.items ++ placed (drop l.point-index l.points) l.left ≡ placed l.points l.sets
