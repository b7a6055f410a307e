use Rattle.std.proofs.Common.{◌≡◌}
use Rattle.flow_graph.specs.Paths.{is_marked}
use Rattle.point_graph.specs.Building.{blocks_before}
use Rattle.point_graph.proofs.starts.reached_blocks.Given as goal

abbrev pub invariant-loop-block : goal.invariant-loop-block
invariant-loop-block l = l.blocks.items ≡ blocks_before (is_marked l.reached) l.block
