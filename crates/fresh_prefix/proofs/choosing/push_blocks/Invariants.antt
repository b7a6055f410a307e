use Rattle.std.proofs.Common.{take}
use Rattle.ir_types.specs.WellFormed.{block_names}
use Rattle.fresh_prefix.specs.Prefixes.{Extends}
use Rattle.fresh_prefix.proofs.choosing.push_blocks.Given as goal

abbrev pub invariant-loop-block : goal.invariant-loop-block
invariant-loop-block l = Extends (block_names (take l.block-index l.blocks)) l.fn.numbers.items l.numbers.items
