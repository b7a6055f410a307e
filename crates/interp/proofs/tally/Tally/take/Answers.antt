use Rattle.std.proofs.Common.{◌<◌, ◌+◌, [], length, arith, subst, sym, ap, ◌∙◌}
use Rattle.std.specs.Prelude.{slice_index}
use Rattle.interp.proofs.Adding.{place_within, own_within, start_within, slot_within, took}
use Rattle.interp.proofs.tally.Tally.take.Goals as goal

pub index-places-requires : goal.index-places-requires
index-places-requires c =
    let r = c.requires in
    omega (arith, place_within r.program r.main r.events c.args.self.now r.is c.args.function r.known.function r.known.function_there, c.args.self.now.places.ok.0)

pub index_mut-counts-requires : goal.index_mut-counts-requires
index_mut-counts-requires c =
    let r = c.requires in
    omega (arith, own_within r.program r.main r.events c.args.self.now c.args.function c.args.block c.args.slot c.index-places.result.now (record { entry = 0; slots = [] }) r.is r.known c.index-places.ensures, c.args.self.now.counts.ok.0)

pub slot_place-place-requires-clause-block : goal.slot_place-place-requires-clause-block
slot_place-place-requires-clause-block c =
    let r = c.requires in
    subst (λ l. c.args.block < length l) (sym c.as_slice.ensures)
    (start_within r.program r.main r.events c.args.self.now c.args.function c.args.block c.args.slot c.index-places.result.now c.index_mut-counts.result.now r.is r.known c.index-places.ensures)

pub slot_place-place-requires-clause-slot : goal.slot_place-place-requires-clause-slot
slot_place-place-requires-clause-slot c =
    let r = c.requires in
    let within = slot_within r.program r.main r.events c.args.self.now c.args.function c.args.block c.args.slot c.index-places.result.now c.index_mut-counts.result.now r.is r.known c.index-places.ensures c.index_mut-counts.ensures.value in
    let own = subst (λ l. slice_index c.index-places.result.now.starts c.args.block + c.args.slot < length l) (sym c.as_slice-2.ensures) within in
    subst (λ l. slice_index l c.args.block + c.args.slot < length c.as_slice-2.result.now) (sym c.as_slice.ensures) own

pub returns : goal.returns
returns c = λ m main events is has few. record {
  counts = took m main events c.args.self.now c.args.function c.args.block c.args.slot c.index-places.result.now c.index_mut-counts.result.now is has c.index-places.ensures c.index_mut-counts.ensures.value c.raise_at.new.counts c.slot_place-place.result few
      (c.slot_place-place.ensures ∙ ap (λ l. slice_index l c.args.block + c.args.slot) c.as_slice.ensures)
      c.raise_at.ensures;
  places = is.places;
}
