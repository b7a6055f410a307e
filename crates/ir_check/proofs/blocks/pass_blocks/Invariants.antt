use Rattle.std.proofs.Common.{◌≡◌, ◌≤◌, ◌+◌, drop}
use Rattle.ir_types.specs.Rules.{after_blocks}
use Rattle.ir_check.specs.Room.{blocks_size}
use Rattle.ir_check.proofs.blocks.pass_blocks.Given as goal

abbrev pub invariant-loop-block : goal.invariant-loop-block
invariant-loop-block l = record {
  after : after_blocks l.reached (drop l.block-index l.blocks) ≡ after_blocks l.fn.reached l.blocks;
  room : l.reached.block + l.reached.variables + blocks_size (drop l.block-index l.blocks) ≤ l.fn.reached.block + l.fn.reached.variables + blocks_size l.blocks;
}
