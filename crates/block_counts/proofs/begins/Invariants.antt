use Rattle.block_counts.proofs.Slots.{AreBegins}
use Rattle.block_counts.proofs.begins.Given as goal

abbrev pub invariant-loop-block : goal.invariant-loop-block
invariant-loop-block l = AreBegins l.blocks l.block-index l.begins.items l.next
