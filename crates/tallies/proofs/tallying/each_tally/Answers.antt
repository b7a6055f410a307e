use Rattle.std.proofs.Common.{◌≡◌, ◌<◌, ◌+◌, ◌*◌, ◌^◌, length, Some, refl, sym, subst, arith}
use Rattle.std.specs.Prelude.{slice_get}
use Rattle.std.proofs.lemmas.Option.{slice_get_read}
use Rattle.occurrences.specs.Listed.{ArePlacesOf}
use Rattle.profile.specs.Counts.{total}
use Rattle.tallies.proofs.Fits.{all_tallied, listed_at, none_tallied, one_more_tallied}
use Rattle.tallies.proofs.tallying.each_tally.Goals as goal

pub tally_of-requires-clause-occurrences : goal.tally_of-requires-clause-occurrences
tally_of-requires-clause-occurrences c =
    let known : c.loop-e.e < length c.args.table.now.exprs = omega (arith, c.loop-e-test.true, c.len-e-end.ensures) in
    subst (ArePlacesOf c.args.table.now.occurring c.loop-e.e) (sym c.as_slice-own.ensures)
    (listed_at c.args.table.now c.args.occurrences.now c.requires.occurrences c.loop-e.e c.index-occurrences-e.result known c.index-occurrences-e.is)

pub tally_of-requires-clause-placement : goal.tally_of-requires-clause-placement
tally_of-requires-clause-placement c =
    let inside : c.loop-e.e < length c.args.placements.now = omega (arith, c.loop-e-test.true, c.len-e-end.ensures, c.requires.fitting.count) in
    c.requires.fitting.each c.loop-e.e c.index-placements-e.result (slice_get_read c.args.placements.now _ c.loop-e.e c.index-placements-e.result refl inside c.index-placements-e.is)

pub loop-e-init : goal.loop-e-init
loop-e-init c = rw c.new-tallies.ensures.items (none_tallied c.args.function.now c.args.counts.now c.args.points.now c.args.table.now c.args.placements.now (2 ^ 20 * (total c.args.counts.now + 1)))

pub loop-e-preserved : goal.loop-e-preserved
loop-e-preserved c =
    let e = c.loop-e.e in
    let placement = c.index-placements-e.result in
    let inside : e < length c.args.placements.now = omega (arith, c.loop-e-test.true, c.len-e-end.ensures, c.requires.fitting.count) in
    let there : slice_get c.args.placements.now e ≡ Some placement = slice_get_read c.args.placements.now _ e placement refl inside c.index-placements-e.is in
    rw c.in_ok-push.ensures.items
    (one_more_tallied c.args.function.now c.args.counts.now c.args.points.now c.args.table.now c.args.placements.now (2 ^ 20 * (total c.args.counts.now + 1))
    e c.loop-e.tallies.items c.in_ok-tally_of.field-0 placement there c.in_ok-tally_of.ensures.tally c.in_ok-tally_of.ensures.light c.loop-e.invariant)

pub returns-clause-tallies : goal.returns-clause-tallies
returns-clause-tallies c =
    let n : c.loop-e.e ≡ length c.args.table.now.exprs = omega arith in
    all_tallied c.args.function.now c.args.counts.now c.args.points.now c.args.table.now c.args.placements.now (2 ^ 20 * (total c.args.counts.now + 1))
    c.loop-e.e c.loop-e.tallies.items n c.requires.fitting.count c.loop-e.invariant

pub returns-clause-light : goal.returns-clause-light
returns-clause-light c = record { few = omega (arith, c.loop-e.invariant.count); each = c.loop-e.invariant.light }
