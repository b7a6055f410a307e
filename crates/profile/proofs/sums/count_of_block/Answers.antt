use Rattle.std.proofs.Common.{◌≡◌, ◌∙◌, ap, take, drop, length, refl, arith}
use Rattle.flow_graph.specs.Slots.{slots_of}
use Rattle.profile.specs.Sums.{into}
use Rattle.profile.proofs.Balancing.{counting_blocks, counting_end}
use Rattle.profile.proofs.sums.count_of_block.Goals as goal

pub loop-from-preserved : goal.loop-from-preserved
loop-from-preserved c =
    let own : c.split_at.result.0.now ≡ take (length (slots_of c.from-item.result.term)) c.loop-from.rest.now = c.split_at.ensures.front ∙ ap (λ n. take n c.loop-from.rest.now) c.slots_len.ensures in
    let later : c.split_at.result.1.now ≡ drop (length (slots_of c.from-item.result.term)) c.loop-from.rest.now = c.split_at.ensures.back ∙ ap (λ n. drop n c.loop-from.rest.now) c.slots_len.ensures in
    counting_blocks c.args.function.now c.args.counts.now c.args.block c.loop-from.count c.count_into-count.result c.as_slice-blocks.result.now c.loop-from.rest.now c.split_at.result.1.now c.loop-from.from-index c.from-item.result
    c.loop-from-test.true c.from-item.is later (c.count_into-count.ensures ∙ ap (into c.args.block (slots_of c.from-item.result.term)) own) c.loop-from.invariant

pub overflow_add-count : goal.overflow_add-count
overflow_add-count c =
    let own : c.split_at.result.0.now ≡ take (length (slots_of c.from-item.result.term)) c.loop-from.rest.now = c.split_at.ensures.front ∙ ap (λ n. take n c.loop-from.rest.now) c.slots_len.ensures in
    let next = counting_blocks c.args.function.now c.args.counts.now c.args.block c.loop-from.count c.count_into-count.result c.as_slice-blocks.result.now c.loop-from.rest.now (drop (length (slots_of c.from-item.result.term)) c.loop-from.rest.now) c.loop-from.from-index c.from-item.result
    c.loop-from-test.true c.from-item.is refl (c.count_into-count.ensures ∙ ap (into c.args.block (slots_of c.from-item.result.term)) own) c.loop-from.invariant in
    omega (arith, next.small, c.requires.total)

pub returns : goal.returns
returns c = counting_end c.args.function.now c.args.counts.now c.args.block c.loop-from.count c.as_slice-blocks.result.now c.loop-from.rest.now c.loop-from.from-index c.loop-from-test.false c.requires.unreached c.loop-from.invariant
