use Rattle.std.proofs.Common.{◌<◌, ◌∙◌, length, sym, arith}
use Rattle.local_sets.proofs.HeadLists.{bits_end, bits_other}
use Rattle.local_sets.proofs.reaching.at_ends.Goals as goal
use Rattle.local_sets.proofs.reaching.at_ends.Goals.{then-is_block_end+in_ok-push, else-is_block_end}

pub loop-number-preserved : goal.loop-number-preserved
loop-number-preserved c =
    let i = c.loop-number.number in
    let inside : i < length c.args.bits.now = omega (arith, c.requires, c.loop-number-test.true) in
    elim c.if-is_block_end.branch [
      | then-is_block_end+in_ok-push w ↦ rw (w.flags-is, w.in_ok-push.ensures.items)
          (bits_end c.args.points.now c.args.bits.now c.loop-number.flags.items i c.loop-number-test.true inside (sym c.is_block_end.ensures ∙ w.if-is_block_end.true) ∙ c.loop-number.invariant)
      | else-is_block_end w ↦ rw w.flags-is
          (bits_other c.args.points.now c.args.bits.now c.loop-number.flags.items i c.loop-number-test.true inside (sym c.is_block_end.ensures ∙ w.if-is_block_end.false) ∙ c.loop-number.invariant)
    ]
