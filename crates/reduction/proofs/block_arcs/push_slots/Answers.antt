use Rattle.std.proofs.Common.{◌∙◌, ℕ, get_or, sym}
use Rattle.std.proofs.lemmas.List.{get_or_default}
use Rattle.flow_graph.specs.Slots.{slots_of}
use Rattle.reduction.proofs.Pushing.{slot_done}
use Rattle.reduction.proofs.block_arcs.push_slots.Goals as goal

pub loop-slot-preserved : goal.loop-slot-preserved
loop-slot-preserved c =
    let n : ℕ = get_or c.args.counts.now c.loop-slot.slot 0 in
    slot_done c.args.place c.args.places.now (slots_of c.args.term.now) c.args.counts.now c.args.arcs.now.items c.loop-slot.arcs.items c.push.new.self.items c.loop-slot.slot c.unwrap-target.result n c.terminator.result c.head.result c.weight.result
    (sym c.slot_target.ensures ∙ c.unwrap-target.ensures) c.loop-slot-test.true (get_or_default c.args.counts.now c.loop-slot.slot 0 n c.loop-slot-test.true) c.terminator.ensures c.head.ensures c.weight.ensures.weight c.in_ok-push.ensures.items
    c.loop-slot.invariant
