use Rattle.std.proofs.Common.{take}
use Rattle.flow_paths.specs.Searching.{Reaches}
use Rattle.flow_paths.proofs.spreading.Search.reach_all.Given as goal

abbrev pub invariant-loop-point : goal.invariant-loop-point
invariant-loop-point l = Reaches (take l.point-index l.points) l.fn.self l.self
