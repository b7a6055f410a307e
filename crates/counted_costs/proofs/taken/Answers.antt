use Rattle.std.proofs.Common.{◌≡◌, ◌<◌, ◌+◌, ℕ, List, length, drop, get_or, ap, sym, ◌∙◌, arith}
use Rattle.std.proofs.lemmas.List.{get_or-drop}
use Rattle.block_counts.proofs.Slots.{read_at}
use Rattle.block_counts.specs.Counts.{slots_before}
use Rattle.counted_costs.proofs.Beginning.{begins_within, none_taken}
use Rattle.counted_costs.proofs.taken.Goals as goal

pub split_at-requires : goal.split_at-requires
split_at-requires c =
    let f = c.args.function.now in
    let b = c.args.block in
    let inside : b < length c.args.by_block.now.begins.items = omega (arith, c.if-block-len.true, c.len.ensures, c.args.by_block.now.begins.ok.0) in
    let read = read_at c.args.by_block.now.begins.items b c.index-begin.result.now inside c.index-begin.ensures in
    let at = c.requires.counts.begins b (omega (arith, inside, c.requires.counts.begins_len)) in
    let within = begins_within f c.args.counts.now b c.requires.slots in
    omega (arith, read, at, within, ap length c.as_slice.ensures)

pub returns-then-block-len : goal.returns-then-block-len
returns-then-block-len c =
    let f = c.args.function.now in
    let b = c.args.block in
    let slot = c.args.slot in
    let inside : b < length c.args.by_block.now.begins.items = omega (arith, c.if-block-len.true, c.len.ensures, c.args.by_block.now.begins.ok.0) in
    let read = read_at c.args.by_block.now.begins.items b c.index-begin.result.now inside c.index-begin.ensures in
    let at = c.requires.counts.begins b (omega (arith, inside, c.requires.counts.begins_len)) in
    c.count_at.ensures ∙ ap (λ (l : List ℕ). get_or l slot 0) c.split_at.ensures.back
    ∙ get_or-drop c.index-begin.result.now c.as_slice.result.now slot 0
    ∙ ap (λ (l : List ℕ). get_or l (c.index-begin.result.now + slot) 0) c.as_slice.ensures
    ∙ ap (λ n. get_or c.args.counts.now.slots (n + slot) 0) (read ∙ at)

pub returns-else-block-len : goal.returns-else-block-len
returns-else-block-len c =
    none_taken c.args.function.now c.args.counts.now c.args.block c.args.slot c.requires.slots
    (omega (arith, c.if-block-len.false, c.len.ensures, c.args.by_block.now.begins.ok.0, c.requires.counts.begins_len))
