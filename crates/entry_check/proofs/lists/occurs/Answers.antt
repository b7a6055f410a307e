use Rattle.std.proofs.lemmas.Bool.{false≢true}
use Rattle.expressions.specs.declared.syntax.Event.TheVariants.{Occurs}
use Rattle.placement.proofs.EventLemmas.{one_event}
use Rattle.entry_check.proofs.lists.occurs.Goals as goal

pub returns-in_default : goal.returns-in_default
returns-in_default c = (
  (λ h. absurd (false≢true h)),
  (λ is. absurd (c.in_default.not-Occurs (one_event c.args.function.now c.args.points.now c.args.table.now c.args.e c.args.point c.event.result Occurs c.event.ensures is))),
)
