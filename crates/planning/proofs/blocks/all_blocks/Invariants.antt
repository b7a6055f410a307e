use Rattle.planning.specs.Blocks.{AreBlocks}
use Rattle.planning.proofs.blocks.all_blocks.Given as goal

abbrev pub invariant-loop-number : goal.invariant-loop-number
invariant-loop-number l = AreBlocks l.function l.points l.moved l.number l.blocks.items
