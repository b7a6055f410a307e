use Rattle.std.proofs.Common.{◌<◌, ◌∙◌, length, map, sym, subst, arith}
use Rattle.std.proofs.lemmas.List.{take_all, length-map}
use Rattle.std.proofs.lemmas.Option.{slice_get_within}
use Rattle.flow_graph.specs.Slots.{slots_of}
use Rattle.best_placement.specs.BlockNetwork.{head_node}
use Rattle.function_graphs.specs.Graphs.{place_in}
use Rattle.function_graphs.proofs.Parts.{map_at}
use Rattle.places_check.specs.Walked.{IsTarget, GoesSlots}
use Rattle.places_check.proofs.Passing.{slots_none, slots_more}
use Rattle.places_check.proofs.Places.{one_of}
use Rattle.places_check.proofs.walking.pass_slots.Goals as goal

pub loop-slot-init : goal.loop-slot-init
loop-slot-init c = (slots_none c.args.sink_side.now c.args.terminator (map (place_in c.args.blocks.now) (slots_of c.args.term.now)) c.args.inserted.now, omega arith)

pub place_of-place-requires-clause-listed : goal.place_of-place-requires-clause-listed
place_of-place-requires-clause-listed c = (one_of (IsTarget c.args.blocks.now c.args.sink_side.now) (slots_of c.args.term.now) c.loop-slot.slot c.target.result c.requires.targets c.target.ensures).listed

pub is_slot_inserted-requires : goal.is_slot_inserted-requires
is_slot_inserted-requires c =
    subst (λ p. head_node p < length c.args.sink_side.now) (sym c.place_of-place.ensures)
    (one_of (IsTarget c.args.blocks.now c.args.sink_side.now) (slots_of c.args.term.now) c.loop-slot.slot c.target.result c.requires.targets c.target.ensures).flag

pub pass-requires : goal.pass-requires
pass-requires c = let n = c.loop-slot.invariant.1 in let r = c.requires.edges in let t = slice_get_within (slots_of c.args.term.now) c.loop-slot.slot c.target.result c.target.ensures in omega arith

pub loop-slot-preserved : goal.loop-slot-preserved
loop-slot-preserved c =
    let slots = slots_of c.args.term.now in
    let within = slice_get_within slots c.loop-slot.slot c.target.result c.target.ensures in (
      slots_more c.args.sink_side.now c.args.terminator (map (place_in c.args.blocks.now) slots) c.loop-slot.slot c.place_of-place.result c.is_slot_inserted.result c.args.inserted.now c.loop-slot.inserted c.pass.new.self
          (omega (arith, within, length-map slots (place_in c.args.blocks.now)))
          (c.place_of-place.ensures ∙ sym (map_at (place_in c.args.blocks.now) slots c.loop-slot.slot c.target.result 0 c.target.ensures))
          c.is_slot_inserted.ensures c.loop-slot.invariant.0 c.pass.ensures,
      let n = c.loop-slot.invariant.1 in let m = c.pass.ensures.next in omega arith,
    )

pub returns : goal.returns
returns c =
    subst (λ l. GoesSlots c.args.sink_side.now c.args.terminator l c.args.inserted.now c.loop-slot.inserted)
    (take_all c.loop-slot.slot (map (place_in c.args.blocks.now) (slots_of c.args.term.now))
    (let f = c.loop-slot-test.false in let n = c.slot_count-slot-end.ensures in let r = c.requires.edges in omega (arith, f, n, r, length-map (slots_of c.args.term.now) (place_in c.args.blocks.now))))
    c.loop-slot.invariant.0
