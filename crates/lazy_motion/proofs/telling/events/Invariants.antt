use Rattle.expressions.specs.Tables.{IsEventOf}
use Rattle.placement.specs.Marking.{AreEvents}
use Rattle.lazy_motion.proofs.telling.events.Given as goal

abbrev pub invariant-loop-point : goal.invariant-loop-point
invariant-loop-point l = AreEvents (IsEventOf l.function l.points l.table l.e) l.point l.events.items
