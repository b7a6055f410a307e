use Rattle.std.proofs.Common.{◌++◌, ◌∷◌, ◌+◌, take, ap, sym, ◌∙◌}
use Rattle.std.proofs.lemmas.List.{take_all}
use Rattle.ir_types.specs.WellFormed.{block_names, result_names}
use Rattle.ir_types.specs.declared.syntax.Block.{Block}
use Rattle.fresh_prefix.proofs.Extending.{ext_same, ext_append, blocks_more}
use Rattle.fresh_prefix.proofs.choosing.push_blocks.Goals as goal

pub loop-block-preserved : goal.loop-block-preserved
loop-block-preserved c =
    let blocks = c.args.blocks.now in
    let i = c.loop-block.block-index in
    let block = c.block-item.result in
    ext_same (block_names (take (i + 1) blocks)) (block_names (take i blocks) ++ (block.name ∷ result_names block)) c.args.numbers.now.items c.push_block.new.numbers.items
    (blocks_more blocks i block c.loop-block-test.true ∙ ap (λ (y : Block). block_names (take i blocks) ++ (y.name ∷ result_names y)) (sym c.block-item.is))
    (ext_append (block_names (take i blocks)) (block.name ∷ result_names block) c.args.numbers.now.items c.loop-block.numbers.items c.push_block.new.numbers.items c.loop-block.invariant c.in_ok-push_block.ensures)

pub returns : goal.returns
returns c =
    ext_same (block_names c.args.blocks.now) (block_names (take c.loop-block.block-index c.args.blocks.now)) c.args.numbers.now.items c.loop-block.numbers.items
    (ap block_names (sym (take_all c.loop-block.block-index c.args.blocks.now c.loop-block-test.false))) c.loop-block.invariant
