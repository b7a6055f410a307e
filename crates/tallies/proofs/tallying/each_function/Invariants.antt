use Rattle.tallies.proofs.Growing.{TalliedSoFar}
use Rattle.tallies.proofs.tallying.each_function.Given as goal

abbrev pub invariant-loop-function : goal.invariant-loop-function
invariant-loop-function l = TalliedSoFar l.program l.counts l.placements l.function-index l.functions.items l.totals
