use Rattle.lazy_motion.specs.Steps.{DelayedBits}
use Rattle.lazy_motion.proofs.delayed.delayed_bits.Given as goal

abbrev pub invariant-loop-arc : goal.invariant-loop-arc
invariant-loop-arc l = DelayedBits l.arcs l.events l.early l.undelayed l.arc l.bits.items
