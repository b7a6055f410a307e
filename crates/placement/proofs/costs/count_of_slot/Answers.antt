use Rattle.std.proofs.Common.{◌≡◌, ◌∙◌, ap, drop, length}
use Rattle.flow_graph.specs.Slots.{slots_of}
use Rattle.placement.proofs.CostLemmas.{AtBlock-start, AtBlock-more, AtBlock-here, AtBlock-past}
use Rattle.placement.proofs.costs.count_of_slot.Goals as goal

pub loop-index-init : goal.loop-index-init
loop-index-init c = AtBlock-start c.args.function.now c.args.counts.now c.args.block c.as_slice-blocks.result.now c.as_slice-rest.result.now c.as_slice-blocks.ensures c.as_slice-rest.ensures c.requires

pub loop-index-preserved : goal.loop-index-preserved
loop-index-preserved c =
    let later : c.split_at.result.1.now ≡ drop (length (slots_of c.index-blocks-index.result.term)) c.loop-index.rest.now = c.split_at.ensures.back ∙ ap (λ n. drop n c.loop-index.rest.now) c.slots_len.ensures in
    AtBlock-more c.args.function.now c.args.counts.now c.args.block c.as_slice-blocks.result.now c.loop-index.rest.now c.loop-index.index c.index-blocks-index.result
    c.loop-index-test.true c.index-blocks-index.is c.loop-index.invariant c.split_at.result.1.now later c.if-index-block.false

pub returns-then-index-block : goal.returns-then-index-block
returns-then-index-block c =
    c.count_at.ensures ∙ AtBlock-here c.args.function.now c.args.counts.now c.args.block c.args.slot c.as_slice-blocks.result.now c.loop-index.rest.now c.loop-index.index c.if-index-block.true c.loop-index.invariant

pub returns : goal.returns
returns c = AtBlock-past c.args.function.now c.args.counts.now c.args.block c.args.slot c.as_slice-blocks.result.now c.loop-index.rest.now c.loop-index.index c.loop-index-test.false c.requires c.loop-index.invariant
