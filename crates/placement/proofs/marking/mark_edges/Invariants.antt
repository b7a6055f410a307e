use Rattle.std.proofs.Common.{take}
use Rattle.placement.specs.Marking.{EdgeMarks}
use Rattle.placement.proofs.marking.mark_edges.Given as goal

abbrev pub invariant-loop-edge : goal.invariant-loop-edge
invariant-loop-edge l = EdgeMarks l.count (take l.edge-index l.inserted) l.marks.items
