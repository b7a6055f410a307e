use Rattle.flow_paths.specs.Paths.{target}
use Rattle.flow_paths.specs.Spreads.{IsSet}
use Rattle.lazy_motion.proofs.BitLemmas.{Gathered}
use Rattle.lazy_motion.proofs.placing.last_delayed.Given as goal

abbrev pub invariant-loop-arc : goal.invariant-loop-arc
invariant-loop-arc l = Gathered (λ e. IsSet l.delayed e × IsSet l.undelayed (target l.arcs e)) l.arc l.edges.items
