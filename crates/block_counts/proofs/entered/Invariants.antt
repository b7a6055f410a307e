use Rattle.block_counts.proofs.Adding.{Entering}
use Rattle.block_counts.proofs.entered.Given as goal

abbrev pub invariant-loop-from : goal.invariant-loop-from
invariant-loop-from l = Entering l.function l.counts l.entered.items l.blocks l.rest l.from-index
