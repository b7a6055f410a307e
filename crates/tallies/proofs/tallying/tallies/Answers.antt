use Rattle.std.proofs.Common.{sym, subst}
use Rattle.std.specs.Prelude.{IfOk}
use Rattle.profile.specs.Counts.{IsAccepted}
use Rattle.tallies.specs.Tallies.{AreTallies}
use Rattle.tallies.proofs.tallying.tallies.Goals as goal

pub each_function-requires-clause-counts : goal.each_function-requires-clause-counts
each_function-requires-clause-counts c = subst (IsAccepted c.args.program.now) (sym c.as_slice.ensures) c.requires.counts

pub returns-clause-tallies : goal.returns-clause-tallies
returns-clause-tallies c = subst (λ counts. IfOk c.each_function.result (λ found. AreTallies c.args.program.now counts c.args.placements.now found.functions.items)) c.as_slice.ensures c.each_function.ensures.tallies
