use Rattle.flow_paths.specs.Searching.{AreSet}
use Rattle.flow_paths.proofs.spreading.set_points.Given as goal

abbrev pub invariant-loop-point : goal.invariant-loop-point
invariant-loop-point l = AreSet l.bits l.point l.points.items
