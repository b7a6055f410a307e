use Rattle.point_graph.proofs.BlockStarts.{instrs-small, slots-small}
use Rattle.point_graph.proofs.lists.list_edges.Goals as goal

pub push_edges-requires-clause-few_instrs : goal.push_edges-requires-clause-few_instrs
push_edges-requires-clause-few_instrs c = instrs-small c.args.function.now c.requires.limits _ c.block_at.result.now c.block_at.ensures

pub push_edges-requires-clause-few_slots : goal.push_edges-requires-clause-few_slots
push_edges-requires-clause-few_slots c = slots-small c.args.function.now c.requires.limits _ c.block_at.result.now c.block_at.ensures
