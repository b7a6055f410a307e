use Rattle.std.proofs.Common.{take}
use Rattle.placement.specs.Marking.{PointMarks}
use Rattle.placement.proofs.marking.mark_points.Given as goal

abbrev pub invariant-loop-point : goal.invariant-loop-point
invariant-loop-point l = PointMarks l.events (take l.point-index l.kept) l.marks.items
