use Rattle.planning.proofs.Plans.{is_plan}
use Rattle.planning.proofs.laws.plan_is_plan.Goals as goal

pub returns : goal.returns
returns c f p t placements plan defined are table limits given is = is_plan f p t placements plan defined are table limits given is
