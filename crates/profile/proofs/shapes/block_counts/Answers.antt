use Rattle.std.proofs.Common.{List, ℕ, Some, length, ◌+◌, ◌∙◌, sym, subst, ap, refl}
use Rattle.std.proofs.lemmas.Option.{slice_get_read}
use Rattle.profile.specs.Reading.{BlockLine}
use Rattle.profile.proofs.Outlines.{BlocksSoFar, blocks_more, blocks_fail}
use Rattle.profile.proofs.shapes.block_counts.Goals as goal

pub returns-in-None-clause-err : goal.returns-in-None-clause-err
returns-in-None-clause-err c =
    blocks_fail c.args.blocks.now c.args.read.now c.args.at c.loop-index.index c.loop-index.counts.items c.index-blocks-index.result
    (slice_get_read c.args.blocks.now (length c.args.blocks.now) c.loop-index.index c.index-blocks-index.result refl c.loop-index-test.true c.index-blocks-index.is)
    (λ e. c.in-None.ensures (e ∙ ap (λ n. Some (BlockLine c.loop-index.index n)) (sym c.slots_len.ensures))) c.loop-index.invariant

pub loop-index-preserved : goal.loop-index-preserved
loop-index-preserved c =
    subst (λ (l : List ℕ). BlocksSoFar c.args.blocks.now c.args.read.now c.args.at (c.loop-index.index + 1) l) (sym c.in_ok-extend_from_slice-in-Some.ensures.items)
    (blocks_more c.args.blocks.now c.args.read.now c.args.at c.loop-index.index c.loop-index.counts.items c.in-Some.own.now c.index-blocks-index.result
    (slice_get_read c.args.blocks.now (length c.args.blocks.now) c.loop-index.index c.index-blocks-index.result refl c.loop-index-test.true c.index-blocks-index.is)
    c.in-Some.ensures.0 (c.in-Some.ensures.1 ∙ c.slots_len.ensures) c.loop-index.invariant)
