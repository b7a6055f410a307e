use Rattle.std.proofs.Common.{◌+◌, ◌*◌, ◌^◌}
use Rattle.profile.specs.Counts.{total}
use Rattle.tallies.proofs.Fits.{TalliesSoFar}
use Rattle.tallies.proofs.tallying.each_tally.Given as goal

abbrev pub invariant-loop-e : goal.invariant-loop-e
invariant-loop-e l = TalliesSoFar l.function l.counts l.points l.table l.placements (2 ^ 20 * (total l.counts + 1)) l.e l.tallies.items
