use Rattle.std.proofs.Common.{ℕ, arith, subst, get_or}
use Rattle.std.proofs.lemmas.List.{take_all, length-map}
use Rattle.flow_graph.specs.Slots.{slots_of}
use Rattle.read_off.specs.Bits.{ReadsSlots, targets_by}
use Rattle.read_off.proofs.Adding.{slots_none, slot_read}
use Rattle.read_off.proofs.reading.read_slots.Goals as goal

pub loop-slot-init : goal.loop-slot-init
loop-slot-init c = (slots_none c.args.sink_side.now c.args.terminator (targets_by c.args.places.now (slots_of c.args.term.now)) c.args.inserted.now, omega arith)

pub loop-slot-preserved : goal.loop-slot-preserved
loop-slot-preserved c =
    let more = c.in_ok-add.ensures in
    let next = more.next in
    let i = c.loop-slot.invariant in (
      slot_read c.args.sink_side.now c.args.places.now (slots_of c.args.term.now) c.args.terminator c.loop-slot.slot c.target.result c.is_slot_inserted.result c.args.inserted.now c.loop-slot.inserted c.add.new.self
          c.target.ensures c.is_slot_inserted.ensures i.0 more,
      let n = i.1 in omega arith,
    )

pub returns : goal.returns
returns c =
    subst (λ l. ReadsSlots c.args.sink_side.now c.args.terminator l c.args.inserted.now c.loop-slot.inserted)
    (take_all c.loop-slot.slot (targets_by c.args.places.now (slots_of c.args.term.now))
    (let f = c.loop-slot-test.false in let n = c.slot_count-slot-end.ensures in let r = c.requires.edges in omega (arith, f, n, r, length-map (slots_of c.args.term.now) (λ (t : ℕ). get_or c.args.places.now t 0))))
    c.loop-slot.invariant.0
