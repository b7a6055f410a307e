use Rattle.std.proofs.Common.{◌≡◌, ℕ, ◌+◌, ◌<◌, ◌++◌, ◌∷◌, [], length, drop, get_or, replicate, sym, ap, ◌∙◌}
use Rattle.ir_types.specs.Limits.{slot_count}
use Rattle.run_counts.proofs.Exits.{slot_count_is}
use Rattle.interp.specs.Tallies.{starts_from}
use Rattle.interp.proofs.Making.{starts_next, slots_next}
use Rattle.interp.proofs.tally.empty_slots.Goals as goal

pub loop-block-preserved : goal.loop-block-preserved
loop-block-preserved c =
    let blocks = c.args.blocks.now in
    let i = c.loop-block.block-index in
    let block = c.block-item.result in
    let slots = c.loop-block.slots in
    let starts = c.loop-block.starts in
    let n : ℕ = c.slots_len.result in
    let lt : i < length blocks = c.loop-block-test.true in
    let is : n ≡ slot_count (get_or blocks i block).term = c.slots_len.ensures ∙ sym (slot_count_is block.term) ∙ ap (λ b. slot_count b.term) c.block-item.is in
    let pushed : c.push.new.self ≡ starts ++ length slots ∷ [] = c.in_ok-push.ensures.ok ∙ ap (λ k. starts ++ k ∷ []) c.len.ensures in
    let added : c.add_zeros.new.slots ≡ slots ++ replicate n 0 = c.in_ok-add_zeros.ensures in
    record {
      starts_left =
          ap (λ l. l ++ starts_from (length c.add_zeros.new.slots) (drop (i + 1) blocks)) pushed
          ∙ ap (λ l. (starts ++ length slots ∷ []) ++ starts_from (length l) (drop (i + 1) blocks)) added
          ∙ starts_next starts slots blocks i n block lt is
          ∙ c.loop-block.invariant.starts_left;
      slots_made = added ∙ ap (λ l. l ++ replicate n 0) c.loop-block.invariant.slots_made ∙ slots_next blocks i n block lt is;
    }
