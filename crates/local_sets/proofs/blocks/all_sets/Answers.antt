use Rattle.std.proofs.Common.{get_or, arith}
use Rattle.local_sets.proofs.BlockLemmas.{block_read, block_enough, AreSoFar-more, AreSoFar-end}
use Rattle.local_sets.proofs.blocks.all_sets.Goals as goal

pub overflow_add-count : goal.overflow_add-count
overflow_add-count c =
    let inside = c.requires.within c.loop-block.block-index 0 c.loop-block-test.true in
    let there = block_read c.args.function.now c.as_slice.result.now (get_or c.args.blocks.now c.loop-block.block-index 0) c.index-as_slice-block.result c.as_slice.ensures inside in
    let enough = block_enough c.args.function.now c.args.blocks.now c.args.events.now c.loop-block.block-index c.loop-block-test.true c.loop-block.left.now c.loop-block.sets.items (get_or c.as_slice.result.now (get_or c.args.blocks.now c.loop-block.block-index 0) c.index-as_slice-block.result) there c.loop-block.invariant in
    omega (arith, enough, c.len-count.ensures, c.loop-block.invariant.few, c.requires.few)

pub split_at-requires : goal.split_at-requires
split_at-requires c =
    let inside = c.requires.within c.loop-block.block-index 0 c.loop-block-test.true in
    let there = block_read c.args.function.now c.as_slice.result.now (get_or c.args.blocks.now c.loop-block.block-index 0) c.index-as_slice-block.result c.as_slice.ensures inside in
    let enough = block_enough c.args.function.now c.args.blocks.now c.args.events.now c.loop-block.block-index c.loop-block-test.true c.loop-block.left.now c.loop-block.sets.items (get_or c.as_slice.result.now (get_or c.args.blocks.now c.loop-block.block-index 0) c.index-as_slice-block.result) there c.loop-block.invariant in
    omega (arith, enough, c.len-count.ensures)

pub loop-block-preserved : goal.loop-block-preserved
loop-block-preserved c =
    let inside = c.requires.within c.loop-block.block-index 0 c.loop-block-test.true in
    let there = block_read c.args.function.now c.as_slice.result.now (get_or c.args.blocks.now c.loop-block.block-index 0) c.index-as_slice-block.result c.as_slice.ensures inside in
    rw (c.in_ok-push.ensures.items, c.sets_of.ensures, c.split_at.ensures.front, c.split_at.ensures.back, c.len-count.ensures)
    (AreSoFar-more c.args.function.now c.args.blocks.now c.args.events.now c.loop-block.block-index c.loop-block-test.true c.loop-block.left.now c.loop-block.sets.items (get_or c.as_slice.result.now (get_or c.args.blocks.now c.loop-block.block-index 0) c.index-as_slice-block.result) there c.loop-block.invariant)

pub returns : goal.returns
returns c = AreSoFar-end c.args.function.now c.args.blocks.now c.args.events.now c.loop-block.block-index c.loop-block.left.now c.loop-block.sets.items c.loop-block-test.false c.loop-block.invariant
