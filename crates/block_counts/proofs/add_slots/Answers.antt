use Rattle.std.proofs.Common.{◌+◌, ◌∙◌, ℕ, length, get_or, slice_set, sym, refl}
use Rattle.std.proofs.lemmas.List.{get_or_default}
use Rattle.flow_graph.specs.Slots.{slots_of}
use Rattle.block_counts.proofs.Adding.{one_slot, slot_target}
use Rattle.block_counts.proofs.add_slots.Goals as goal

pub loop-slot-preserved : goal.loop-slot-preserved
loop-slot-preserved c =
    let n : ℕ = get_or c.args.counts.now c.loop-slot.slot 0 in
    let there = sym c.slot_target.ensures ∙ c.unwrap-target.ensures in
    one_slot (slots_of c.args.term.now) c.args.counts.now c.args.entered.now c.loop-slot.entered c.loop-slot.slot c.unwrap-target.result n there c.loop-slot-test.true
    (get_or_default c.args.counts.now c.loop-slot.slot 0 n c.loop-slot-test.true) (slot_target (slots_of c.args.term.now) (length c.args.entered.now) c.loop-slot.slot c.unwrap-target.result there c.requires.targets) c.loop-slot.invariant
    (slice_set c.loop-slot.entered c.unwrap-target.result (get_or c.loop-slot.entered c.unwrap-target.result 0 + n)) refl
