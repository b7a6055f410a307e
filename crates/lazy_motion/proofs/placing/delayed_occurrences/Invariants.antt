use Rattle.std.proofs.Common.{◌≡◌, false, get_or}
use Rattle.expressions.specs.declared.syntax.Event.TheVariants.{Occurs}
use Rattle.lazy_motion.proofs.BitLemmas.{Gathered}
use Rattle.lazy_motion.proofs.placing.delayed_occurrences.Given as goal

abbrev pub invariant-loop-point : goal.invariant-loop-point
invariant-loop-point l = Gathered (λ v. (get_or l.events v Occurs ≡ Occurs) × (get_or l.undelayed v false ≡ false)) l.point l.kept.items
