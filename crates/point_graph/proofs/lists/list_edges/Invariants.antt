use Rattle.std.proofs.Common.{◌≡◌, take}
use Rattle.point_graph.specs.Building.{all_numbered}
use Rattle.point_graph.proofs.lists.list_edges.Given as goal

abbrev pub invariant-loop-block : goal.invariant-loop-block
invariant-loop-block l = l.edges.items ≡ all_numbered l.function l.starts (take l.block-index l.blocks)
