use Rattle.std.proofs.Common.{◌≡◌, ◌∙◌, ap, take, drop, length, sum, refl}
use Rattle.flow_graph.specs.Slots.{slots_of}
use Rattle.flow_graph.specs.Paths.{is_marked}
use Rattle.profile.proofs.Balancing.{looking_more, looking_found}
use Rattle.profile.proofs.sums.first_unreached.Goals as goal

pub returns-then-is_left : goal.returns-then-is_left
returns-then-is_left c =
    let own : c.split_at.result.0.now ≡ take (length (slots_of c.index-blocks-index.result.term)) c.loop-index.rest.now = c.split_at.ensures.front ∙ ap (λ n. take n c.loop-index.rest.now) c.slots_len.ensures in
    let d = c.if-is_left.ensures.some refl in
    looking_found c.args.function.now c.args.counts.now (is_marked c.args.reached.now) c.as_slice-blocks.result.now c.loop-index.rest.now c.loop-index.index c.sum_of.result c.index-blocks-index.result
    c.loop-index-test.true c.index-blocks-index.is (c.sum_of.ensures ∙ ap sum own) c.requires.reached d.0 d.1 c.loop-index.invariant

pub loop-index-preserved : goal.loop-index-preserved
loop-index-preserved c =
    let own : c.split_at.result.0.now ≡ take (length (slots_of c.index-blocks-index.result.term)) c.loop-index.rest.now = c.split_at.ensures.front ∙ ap (λ n. take n c.loop-index.rest.now) c.slots_len.ensures in
    let later : c.split_at.result.1.now ≡ drop (length (slots_of c.index-blocks-index.result.term)) c.loop-index.rest.now = c.split_at.ensures.back ∙ ap (λ n. drop n c.loop-index.rest.now) c.slots_len.ensures in
    looking_more c.args.function.now c.args.counts.now (is_marked c.args.reached.now) c.as_slice-blocks.result.now c.loop-index.rest.now c.split_at.result.1.now c.loop-index.index c.sum_of.result c.index-blocks-index.result
    c.loop-index-test.true c.index-blocks-index.is later (c.sum_of.ensures ∙ ap sum own) (c.if-is_left.ensures.none refl) c.loop-index.invariant
