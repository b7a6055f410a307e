use Rattle.top_call.proofs.check.agreed.Goals as goal

pub returns-in-Ok-Yes-clause-best : goal.returns-in-Ok-Yes-clause-best
returns-in-Ok-Yes-clause-best c = c.in-Ok-Yes.ensures.best c.in-Ok-Yes.field-0-is
