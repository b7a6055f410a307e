use Rattle.std.proofs.Common.{◌≡◌, ◌<◌, ◌∙◌, Some, length, get_or, ap, refl, arith}
use Rattle.std.specs.Prelude.{slice_get}
use Rattle.std.proofs.lemmas.Option.{slice_get_read}
use Rattle.applied.specs.Built.{layout_of}
use Rattle.function_text.proofs.NewBlocks.{more_blocks}
use Rattle.function_text.proofs.function.new_blocks.Goals as goal

pub loop-index-preserved : goal.loop-index-preserved
loop-index-preserved c = λ plan changes.
    let f = c.args.function.now in
    let is = c.as_slice-block-items.ensures in
    let lt : c.loop-index.index < length f.blocks = omega (arith, ap length is) in
    let item : c.block-item.result ≡ get_or f.blocks c.loop-index.index c.block-item.result = c.block-item.is ∙ ap (λ l. get_or l c.loop-index.index c.block-item.result) is in
    let there : slice_get f.blocks c.loop-index.index ≡ Some c.block-item.result = slice_get_read f.blocks (length f.blocks) c.loop-index.index c.block-item.result refl lt item in
    more_blocks plan (length f.vars) (layout_of plan.moves f.blocks) f.blocks c.loop-index.index c.block-item.result c.in_ok-new_block.field-0 c.loop-index.blocks.items c.push.new.self.items c.push_splits.new.blocks.items _ there
    (c.in_ok-new_block.ensures plan changes)
    c.in_ok-push.ensures.items
    (c.in_ok-push_splits.ensures plan changes c.block-item.result there)
    (c.loop-index.invariant plan changes)
