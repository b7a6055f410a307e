use Rattle.placement.proofs.CostLemmas.{AtBlock}
use Rattle.placement.proofs.costs.count_of_slot.Given as goal

abbrev pub invariant-loop-index : goal.invariant-loop-index
invariant-loop-index l = AtBlock l.function l.counts l.block l.blocks l.rest l.index
