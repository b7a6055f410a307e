use Rattle.std.proofs.Common.{◌≡◌, ◌+◌, ℕ, List, ◌∙◌, ap, take, drop, length, get_or}
use Rattle.flow_graph.specs.Slots.{slots_of}
use Rattle.flow_graph.specs.Paths.{is_marked}
use Rattle.profile.specs.Sums.{into}
use Rattle.profile.proofs.Balancing.{blocks_yes, blocks_no}
use Rattle.profile.proofs.sums.add_blocks.Goals as goal
use Rattle.profile.proofs.sums.add_blocks.Goals.{then-reached-index, else-reached-index}

pub loop-index-preserved : goal.loop-index-preserved
loop-index-preserved c =
    let test = is_marked c.args.reached.now in
    let rest = c.loop-index.rest.now in
    let x = c.index-blocks-index.result in
    let own : c.split_at.result.0.now ≡ take (length (slots_of c.index-blocks-index.result.term)) c.loop-index.rest.now = c.split_at.ensures.front ∙ ap (λ n. take n c.loop-index.rest.now) c.slots_len.ensures in
    let later : c.split_at.result.1.now ≡ drop (length (slots_of c.index-blocks-index.result.term)) c.loop-index.rest.now = c.split_at.ensures.back ∙ ap (λ n. drop n c.loop-index.rest.now) c.slots_len.ensures in
    elim c.if-reached-index.branch [
      | then-reached-index w ↦
          rw (w.sums-is, w.rest-is)
          (blocks_yes c.args.blocks.now test c.args.counts.now c.args.sums.now c.loop-index.sums w.add_slots.new.sums rest c.split_at.result.1.now c.loop-index.index x c.loop-index-test.true c.index-blocks-index.is w.if-reached-index.true later w.add_slots.auto.sums
          (λ b lt. w.add_slots.ensures b lt ∙ ap (λ (l : List ℕ). get_or c.loop-index.sums b 0 + into b (slots_of c.index-blocks-index.result.term) l) own) c.loop-index.invariant)
      | else-reached-index w ↦
          rw (w.sums-is, w.rest-is)
          (blocks_no c.args.blocks.now test c.args.counts.now c.args.sums.now c.loop-index.sums rest c.split_at.result.1.now c.loop-index.index x c.loop-index-test.true c.index-blocks-index.is w.if-reached-index.false later c.loop-index.invariant)
    ]
