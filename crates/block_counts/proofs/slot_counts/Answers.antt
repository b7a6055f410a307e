use Rattle.std.proofs.Common.{◌≡◌, ◌∙◌, ap, sym, get_or, length, arith}
use Rattle.ir_types.specs.declared.syntax.Block.{Block}
use Rattle.flow_graph.specs.Slots.{slots_of}
use Rattle.block_counts.proofs.Slots.{own_counts, read_at, width_fits}
use Rattle.block_counts.proofs.slot_counts.Goals as goal

pub split_at-requires : goal.split_at-requires
split_at-requires c =
    let block : c.index-as_slice-block.result ≡ get_or c.args.function.now.blocks c.args.block c.index-as_slice-block.result = c.index-as_slice-block.is ∙ ap (λ l. get_or l c.args.block c.index-as_slice-block.result) c.as_slice.ensures in
    let fits = width_fits c.args.function.now.blocks c.args.block c.index-as_slice-block.result c.requires.block block in
    let begin = read_at c.args.by_block.now.begins.items c.args.block c.index-begin.result.now (omega (arith, c.requires.block, c.requires.counts.begins_len)) c.index-begin.ensures in
    let at = c.requires.counts.begins c.args.block c.requires.block in
    let all = ap length c.as_slice-2.ensures in
    omega (arith, fits, begin, at, all, c.requires.slots)

pub split_at-requires-2 : goal.split_at-requires-2
split_at-requires-2 c =
    let block : c.index-as_slice-block.result ≡ get_or c.args.function.now.blocks c.args.block c.index-as_slice-block.result = c.index-as_slice-block.is ∙ ap (λ l. get_or l c.args.block c.index-as_slice-block.result) c.as_slice.ensures in
    let fits = width_fits c.args.function.now.blocks c.args.block c.index-as_slice-block.result c.requires.block block in
    let begin = read_at c.args.by_block.now.begins.items c.args.block c.index-begin.result.now (omega (arith, c.requires.block, c.requires.counts.begins_len)) c.index-begin.ensures in
    let at = c.requires.counts.begins c.args.block c.requires.block in
    let all = ap length c.as_slice-2.ensures in
    let wide : c.slots_len-count.result ≡ length (slots_of c.index-as_slice-block.result.term) = c.slots_len-count.ensures ∙ ap (λ (x : Block). length (slots_of x.term)) (sym c.index-as_slice-block.is) in
    omega (arith, fits, begin, at, all, wide, c.requires.slots, c.split_at.ensures.back_len)

pub returns : goal.returns
returns c =
    let block : c.index-as_slice-block.result ≡ get_or c.args.function.now.blocks c.args.block c.index-as_slice-block.result = c.index-as_slice-block.is ∙ ap (λ l. get_or l c.args.block c.index-as_slice-block.result) c.as_slice.ensures in
    let begin = read_at c.args.by_block.now.begins.items c.args.block c.index-begin.result.now (omega (arith, c.requires.block, c.requires.counts.begins_len)) c.index-begin.ensures in
    let wide : c.slots_len-count.result ≡ length (slots_of c.index-as_slice-block.result.term) = c.slots_len-count.ensures ∙ ap (λ (x : Block). length (slots_of x.term)) (sym c.index-as_slice-block.is) in
    own_counts c.args.function.now c.args.counts.now c.args.block c.index-begin.result.now c.slots_len-count.result c.index-as_slice-block.result c.as_slice-2.result.now c.split_at.result.1.now c.split_at-2.result.0.now c.requires.block block
    (begin ∙ c.requires.counts.begins c.args.block c.requires.block) wide c.as_slice-2.ensures c.split_at.ensures.back c.split_at-2.ensures.front
