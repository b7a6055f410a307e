use Rattle.std.proofs.Common.{◌≡◌, take}
use Rattle.point_graph.specs.Numbers.{all_points}
use Rattle.point_graph.proofs.lists.list_points.Given as goal

abbrev pub invariant-loop-block : goal.invariant-loop-block
invariant-loop-block l = l.points.items ≡ all_points l.function (take l.block-index l.blocks)
