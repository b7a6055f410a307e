use Rattle.std.proofs.Common.{◌≡◌, take}
use Rattle.tallies.specs.Sums.{totals_in}
use Rattle.tallies.proofs.totals.Totals.over.Given as goal

abbrev pub invariant-loop-tally : goal.invariant-loop-tally
invariant-loop-tally l = l.totals ≡ totals_in (take l.tally-index l.tallies)
