use Rattle.std.proofs.Common.{◌≡◌, ◌++◌, map}
use Rattle.std.specs.List.{range_with_len}
use Rattle.point_graph.specs.declared.graph.Point.TheVariants.{Instr}
use Rattle.point_graph.proofs.lists.push_points.Given as goal

abbrev pub invariant-loop-instr : goal.invariant-loop-instr
invariant-loop-instr l = l.points.items ≡ l.initial.points.items ++ map (Instr l.number) (range_with_len 0 l.instr)
