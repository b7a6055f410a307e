use Rattle.std.proofs.Common.{◌≡◌, ◌∙◌, ap, take, drop, length, sum, refl}
use Rattle.flow_graph.specs.Slots.{slots_of}
use Rattle.flow_graph.specs.Paths.{is_marked}
use Rattle.profile.proofs.Balancing.{comparing_more, comparing_differs}
use Rattle.profile.proofs.sums.first_difference.Goals as goal

pub returns-then-is_unbalanced : goal.returns-then-is_unbalanced
returns-then-is_unbalanced c =
    let own : c.split_at.result.0.now ≡ take (length (slots_of c.index-blocks-index.result.term)) c.loop-index.rest.now = c.split_at.ensures.front ∙ ap (λ n. take n c.loop-index.rest.now) c.slots_len.ensures in
    let d = c.if-is_unbalanced.ensures.differ refl in
    comparing_differs c.args.function.now c.args.counts.now (is_marked c.args.reached.now) c.args.sums.now c.as_slice-blocks.result.now c.loop-index.rest.now c.loop-index.index c.sum_of-out.result c.index-blocks-index.result
    c.loop-index-test.true c.index-blocks-index.is (c.sum_of-out.ensures ∙ ap sum own) d.0 d.1 d.2 c.loop-index.invariant

pub loop-index-preserved : goal.loop-index-preserved
loop-index-preserved c =
    let own : c.split_at.result.0.now ≡ take (length (slots_of c.index-blocks-index.result.term)) c.loop-index.rest.now = c.split_at.ensures.front ∙ ap (λ n. take n c.loop-index.rest.now) c.slots_len.ensures in
    let later : c.split_at.result.1.now ≡ drop (length (slots_of c.index-blocks-index.result.term)) c.loop-index.rest.now = c.split_at.ensures.back ∙ ap (λ n. drop n c.loop-index.rest.now) c.slots_len.ensures in
    comparing_more c.args.function.now c.args.counts.now (is_marked c.args.reached.now) c.args.sums.now c.as_slice-blocks.result.now c.loop-index.rest.now c.split_at.result.1.now c.loop-index.index c.sum_of-out.result c.index-blocks-index.result
    c.loop-index-test.true c.index-blocks-index.is later (c.sum_of-out.ensures ∙ ap sum own) (c.if-is_unbalanced.ensures.same refl) c.loop-index.invariant
