use Rattle.std.proofs.Common.{◌<◌, ℕ, get_or}
use Rattle.expressions.specs.Tables.{IsEventOf}
use Rattle.expressions.specs.declared.syntax.Event.TheVariants.{Occurs}
use Rattle.entry_check.proofs.lists.occur.Given as goal

abbrev pub invariant-loop-point : goal.invariant-loop-point
invariant-loop-point l = (k : ℕ) → k < l.point-index → IsEventOf l.function l.points l.table l.e (get_or l.numbers k 0) Occurs
