use Rattle.std.proofs.Common.{◌≡◌, Some, sym, ap, ◌∙◌, arith}
use Rattle.std.specs.Prelude.{slice_get}
use Rattle.std.proofs.lemmas.Option.{same_Some}
use Rattle.expressions.specs.Expressions.{expr_traps}
use Rattle.tallies.proofs.Fits.{all_in_range, count_kept, in_range, kept_few, places_few}
use Rattle.tallies.proofs.Occurring.{where_occurs}
use Rattle.tallies.proofs.Parts.{few_places}
use Rattle.tallies.proofs.tally.tally_of.Goals as goal

pub profiled-requires-clause-placement : goal.profiled-requires-clause-placement
profiled-requires-clause-placement c =
    all_in_range c.args.function.now c.args.points.now c.args.table.now c.requires.table c.args.e c.args.occurrences.now c.requires.occurrences c.in_ok-before.before c.in_ok-before.ensures.inserted c.in_ok-before.ensures.kept

pub overflow_sub-result : goal.overflow_sub-result
overflow_sub-result c =
    omega (arith, c.len-3.ensures, kept_few c.args.function.now c.args.points.now c.args.table.now c.requires.table c.args.e c.args.occurrences.now c.requires.occurrences c.args.placement.now c.requires.placement)

pub returns-clause-tally : goal.returns-clause-tally
returns-clause-tally c =
    let f = c.args.function.now in
    let p = c.args.points.now in
    let t = c.args.table.now in
    let x = c.args.e in
    let places = c.args.occurrences.now in
    let told = c.traps.ensures in
    let there : slice_get t.exprs x ≡ Some c.in_ok-copied.field-0 = c.expr.ensures.there ∙ ap Some (sym c.in_ok-copied.ensures) in
    let kept = kept_few f p t c.requires.table x places c.requires.occurrences c.args.placement.now c.requires.placement in
    record {
      expr = there;
      lazy = told.test ∙ ap (λ expr. expr_traps expr) (same_Some told.expr c.in_ok-copied.field-0 (sym told.there ∙ there));
      occurrences = places;
      are_occurrences = where_occurs f p t c.requires.table x places c.requires.occurrences;
      old = λ reached is. c.profiled.ensures.sum reached is ∙ count_kept f c.args.counts.now reached p places c.in_ok-before.before c.in_ok-before.ensures.inserted c.in_ok-before.ensures.kept;
      new = c.profiled-2.ensures.sum;
      profiled = c.profiled-2.ensures.part;
      inserted = c.len.ensures;
      kept = c.len-2.ensures;
      deleted = omega (arith, c.len-2.ensures, c.len-3.ensures, kept);
    }

pub returns-clause-light : goal.returns-clause-light
returns-clause-light c =
    let f = c.args.function.now in
    let p = c.args.points.now in
    let t = c.args.table.now in
    let placement = c.args.placement.now in
    let few = few_places f p placement c.requires.points (in_range f p t c.args.e placement c.requires.placement) in
    let occur = places_few f p t c.requires.points c.requires.table c.args.e c.args.occurrences.now c.requires.occurrences in
    record {
      expressions = omega arith;
      old = omega (arith, c.profiled.ensures.small);
      new = omega (arith, c.profiled-2.ensures.small);
      inserted = omega (arith, c.len.ensures, few);
      kept = omega (arith, c.len-2.ensures, few);
      deleted = omega (arith, occur);
    }
