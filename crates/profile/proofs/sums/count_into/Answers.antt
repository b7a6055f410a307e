use Rattle.std.proofs.Common.{◌∙◌, sym, get_or}
use Rattle.std.proofs.lemmas.List.{get_or_default}
use Rattle.flow_graph.specs.Slots.{slots_of}
use Rattle.profile.proofs.Balancing.{counting_more}
use Rattle.profile.proofs.sums.count_into.Goals as goal

pub loop-slot-preserved : goal.loop-slot-preserved
loop-slot-preserved c =
    let n = get_or c.args.counts.now c.loop-slot.slot 0 in
    counting_more (slots_of c.args.term.now) c.args.counts.now c.args.block c.loop-slot.into c.loop-slot.slot c.unwrap.result n c.count_if-into.result
    (sym c.slot_target.ensures ∙ c.unwrap.ensures) c.loop-slot-test.true (get_or_default c.args.counts.now c.loop-slot.slot 0 n c.loop-slot-test.true) c.count_if-into.ensures c.loop-slot.invariant
