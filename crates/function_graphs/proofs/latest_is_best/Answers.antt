use Rattle.function_graphs.proofs.Cheapest.{latest_is_best}
use Rattle.function_graphs.proofs.latest_is_best.Goals as goal

pub returns : goal.returns
returns c = latest_is_best
