use Rattle.planning.proofs.Plans.{is_small}
use Rattle.planning.proofs.laws.plan_is_small.Goals as goal

pub returns : goal.returns
returns c f p t placements plan defined are table limits given is small = is_small f p t placements plan defined are table limits given is small
