use Rattle.std.proofs.Common.{sym, ◌∙◌, arith}
use Rattle.ir_check.proofs.Room.{room_for, room_after}
use Rattle.ir_check.proofs.Steps.{after_blocks-step, after_blocks-end}
use Rattle.ir_check.proofs.blocks.pass_blocks.Goals as goal

pub pass_block-requires : goal.pass_block-requires
pass_block-requires c =
    let next = room_for c.args.blocks.now c.loop-block.block-index c.block-item.result c.loop-block-test.true c.block-item.is in
    record { few_instrs = omega (arith, next); few = omega (arith, next) }

pub loop-block-preserved : goal.loop-block-preserved
loop-block-preserved c =
    let left = room_after c.loop-block.reached c.args.blocks.now c.loop-block.block-index c.block-item.result c.loop-block-test.true c.block-item.is in
    record {
      after = rw c.in_ok-pass_block.ensures (sym (after_blocks-step c.loop-block.reached c.args.blocks.now c.loop-block.block-index c.block-item.result c.loop-block-test.true c.block-item.is) ∙ c.loop-block.invariant.after);
      room = rw c.in_ok-pass_block.ensures (omega (arith, left));
    }

pub returns : goal.returns
returns c = sym (after_blocks-end c.loop-block.reached c.args.blocks.now c.loop-block.block-index c.loop-block-test.false) ∙ c.loop-block.invariant.after
