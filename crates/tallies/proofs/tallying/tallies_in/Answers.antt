use Rattle.std.proofs.Common.{arith}
use Rattle.std.proofs.lemmas.Result.{IfOk-weaker}
use Rattle.tallies.specs.Tallies.{AreTalliesBy, AreTalliesIn}
use Rattle.tallies.proofs.Fits.{fits_by}
use Rattle.tallies.proofs.Occurring.{occurring_length}
use Rattle.tallies.proofs.tallying.tallies_in.Goals as goal

pub occurrences-requires : goal.occurrences-requires
occurrences-requires c = omega (arith, occurring_length c.args.function.now c.in_ok-points.points c.in_ok-table.table c.in_ok-table.ensures.table, c.in_ok-points.ensures.few)

pub each_tally-requires-clause-fitting : goal.each_tally-requires-clause-fitting
each_tally-requires-clause-fitting c =
    fits_by c.one_numbering.ensures c.args.program.now c.args.function.now c.in_ok-points.points c.in_ok-table.table c.args.placements.now c.requires.defined c.requires.fitting c.in_ok-points.ensures c.in_ok-table.ensures.module_of c.in_ok-table.ensures.table

pub returns-clause-tallies : goal.returns-clause-tallies
returns-clause-tallies c =
    let m = c.args.program.now in
    let f = c.args.function.now in
    let counts = c.args.counts.now in
    let placements = c.args.placements.now in
    let p = c.in_ok-points.points in
    let t = c.in_ok-table.table in
    IfOk-weaker c.each_tally.result (λ tallies. AreTalliesBy f counts p t placements tallies.items) (λ tallies. AreTalliesIn m f counts placements tallies.items)
    (λ tallies are. record {
      points = p;
      are_points = c.in_ok-points.ensures;
      table = t;
      of_module = c.in_ok-table.ensures.module_of;
      is_table = c.in_ok-table.ensures.table;
      are_tallies = are;
    })
    c.each_tally.ensures.tallies
