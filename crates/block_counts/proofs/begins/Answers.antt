use Rattle.std.proofs.Common.{arith}
use Rattle.block_counts.proofs.Slots.{one_begins, width_fits}
use Rattle.block_counts.proofs.begins.Goals as goal

pub overflow_add-next : goal.overflow_add-next
overflow_add-next c =
    let fits = width_fits c.args.blocks.now c.loop-block.block-index c.block-item.result c.loop-block-test.true c.block-item.is in
    omega (arith, fits, c.loop-block.invariant.next_is, c.slots_len-next.ensures, c.requires)

pub loop-block-preserved : goal.loop-block-preserved
loop-block-preserved c =
    one_begins c.args.blocks.now c.loop-block.block-index c.block-item.result c.loop-block.begins.items c.push.new.self.items c.loop-block.next c.slots_len-next.result c.loop-block-test.true c.block-item.is c.slots_len-next.ensures
    c.in_ok-push.ensures.items c.loop-block.invariant
