use Rattle.std.proofs.Common.{ℕ, Bool, false, get_or}
use Rattle.profile.specs.declared.counts.FnCounts.{FnCounts}
use Rattle.places_check.specs.Walked.{AreIts}
use Rattle.places_check.proofs.Along.{Along}
use Rattle.places_check.proofs.check_places.Given as goal

abbrev pub invariant-loop-place : goal.invariant-loop-place
invariant-loop-place l = (c : FnCounts) (reached : ℕ → Bool) → Along l.function l.points (λ v. get_or l.sink_side v false) l.placement (AreIts l.expression) l.place l.inserted l.kept c reached
