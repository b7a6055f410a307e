use Rattle.applied_rules.proofs.Rules.{keeps_rules}
use Rattle.applied_rules.proofs.applied_keeps_rules.Goals as goal

pub returns : goal.returns
returns c = keeps_rules
