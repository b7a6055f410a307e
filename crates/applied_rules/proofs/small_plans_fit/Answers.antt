use Rattle.applied_rules.proofs.Sizes.{small_plan_fits}
use Rattle.applied_rules.proofs.small_plans_fit.Goals as goal

pub returns : goal.returns
returns c = small_plan_fits
