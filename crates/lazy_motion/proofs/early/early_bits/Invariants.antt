use Rattle.lazy_motion.specs.Steps.{EarlyBits}
use Rattle.lazy_motion.proofs.early.early_bits.Given as goal

abbrev pub invariant-loop-from : goal.invariant-loop-from
invariant-loop-from l = EarlyBits l.arcs l.events l.inevitable l.uncomputed l.from-index l.bits.items
