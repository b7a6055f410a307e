use Rattle.flow_graph.specs.Paths.{is_marked}
use Rattle.profile.proofs.Balancing.{AddingBlocks}
use Rattle.profile.proofs.sums.add_blocks.Given as goal

abbrev pub invariant-loop-index : goal.invariant-loop-index
invariant-loop-index l = AddingBlocks l.blocks (is_marked l.reached) l.counts l.fn.sums l.sums l.rest l.index
