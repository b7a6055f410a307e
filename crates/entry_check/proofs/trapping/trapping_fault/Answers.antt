use Rattle.std.proofs.lemmas.Option.{MatchOption-at_none}
use Rattle.entry_check.proofs.Listing.{safe_from, unsafe_from}
use Rattle.entry_check.proofs.trapping.trapping_fault.Goals as goal

pub returns-in-Some-first_unset : goal.returns-in-Some-first_unset
returns-in-Some-first_unset c = (
  MatchOption-at_none _ _ c.in_default.is c.in_ok-point.ensures,
  unsafe_from c.args.function.now c.args.points.now c.args.table.now c.args.e c.args.placement.now c.requires.points c.requires.listed c.in_ok-bits.bits.items c.in_ok-bits.ensures.bits c.in-Some-first_unset.edge
      (rw (c.as_slice.ensures, c.deref.ensures.value, c.as_slice-2.ensures) at c.in-Some-first_unset.ensures),
)

pub returns : goal.returns
returns c = (
  MatchOption-at_none _ _ c.in_default.is c.in_ok-point.ensures,
  safe_from c.args.function.now c.args.points.now c.args.table.now c.args.e c.args.placement.now c.requires.points c.requires.listed c.in_ok-bits.bits.items c.in_ok-bits.ensures.bits
      (rw (c.as_slice.ensures, c.deref.ensures.value, c.as_slice-2.ensures) at c.in-None.ensures),
)
