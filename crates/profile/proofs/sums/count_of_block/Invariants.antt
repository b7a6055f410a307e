use Rattle.profile.proofs.Balancing.{CountingBlocks}
use Rattle.profile.proofs.sums.count_of_block.Given as goal

abbrev pub invariant-loop-from : goal.invariant-loop-from
invariant-loop-from l = CountingBlocks l.function l.counts l.block l.count l.blocks l.rest l.from-index
