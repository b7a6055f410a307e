use Rattle.point_graph.proofs.BlockStarts.{instrs-small}
use Rattle.point_graph.proofs.lists.list_points.Goals as goal

pub push_points-requires : goal.push_points-requires
push_points-requires c = instrs-small c.args.function.now c.requires.limits _ c.block_at.result.now c.block_at.ensures
