use Rattle.std.proofs.Common.{◌≡◌, ◌++◌, map}
use Rattle.std.specs.List.{range_with_len}
use Rattle.point_graph.specs.Building.{inside_edge}
use Rattle.point_graph.proofs.lists.push_inside.Given as goal

abbrev pub invariant-loop-place : goal.invariant-loop-place
invariant-loop-place l = l.edges.items ≡ l.initial.edges.items ++ map (inside_edge l.block l.head) (range_with_len 0 l.place)
