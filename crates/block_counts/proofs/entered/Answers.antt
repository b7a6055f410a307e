use Rattle.std.proofs.Common.{◌≡◌, ◌<◌, ◌+◌, ◌∙◌, ℕ, List, ap, sym, subst, drop, take, get_or, length, arith}
use Rattle.flow_graph.specs.Slots.{slots_of}
use Rattle.profile.specs.Sums.{into}
use Rattle.block_counts.proofs.Adding.{Entering, all_entered, block_front, one_block, written_back}
use Rattle.block_counts.proofs.entered.Goals as goal

pub split_at-requires : goal.split_at-requires
split_at-requires c =
    let front = block_front c.args.function.now c.args.counts.now c.loop-from.entered.items c.as_slice-blocks.result.now c.loop-from.rest.now c.loop-from.from-index c.from-item.result c.loop-from-test.true c.from-item.is c.loop-from.invariant c.requires.defined in
    omega (arith, front, c.slots_len.ensures)

pub loop-from-preserved : goal.loop-from-preserved
loop-from-preserved c =
    let own : c.split_at.result.0.now ≡ take (length (slots_of c.from-item.result.term)) c.loop-from.rest.now = c.split_at.ensures.front ∙ ap (λ n. take n c.loop-from.rest.now) c.slots_len.ensures in
    let later : c.split_at.result.1.now ≡ drop (length (slots_of c.from-item.result.term)) c.loop-from.rest.now = c.split_at.ensures.back ∙ ap (λ n. drop n c.loop-from.rest.now) c.slots_len.ensures in
    let deref = c.deref_mut.ensures.value in
    let n : length c.loop-from.entered.items ≡ length c.deref_mut.result.now = sym (ap length deref) in
    let change : (b : ℕ) → b < length c.loop-from.entered.items → get_or c.add_slots.new.entered b 0 ≡ get_or c.loop-from.entered.items b 0 + into b (slots_of c.from-item.result.term) c.split_at.result.0.now =
    λ b lt. c.add_slots.ensures b (omega (arith, lt, n)) ∙ ap (λ (l : List ℕ). get_or l b 0 + into b (slots_of c.from-item.result.term) c.split_at.result.0.now) deref in
    let len : length c.add_slots.new.entered ≡ length c.loop-from.entered.items = c.add_slots.auto.entered ∙ ap length deref in
    subst (λ l. Entering c.args.function.now c.args.counts.now l c.as_slice-blocks.result.now c.split_at.result.1.now (c.loop-from.from-index + 1))
    (sym (written_back c.loop-from.entered.items c.add_slots.new.entered c.loop-from.entered.len c.loop-from.entered.ok.0 len))
    (one_block c.args.function.now c.args.counts.now c.loop-from.entered.items c.as_slice-blocks.result.now c.loop-from.rest.now c.loop-from.from-index c.from-item.result c.loop-from-test.true c.from-item.is c.loop-from.invariant
    c.add_slots.new.entered c.split_at.result.0.now c.split_at.result.1.now later own len change)

pub returns-clause-entered : goal.returns-clause-entered
returns-clause-entered c = all_entered c.args.function.now c.args.counts.now c.loop-from.entered.items c.as_slice-blocks.result.now c.loop-from.rest.now c.loop-from.from-index c.loop-from-test.false c.requires.unreached c.loop-from.invariant
