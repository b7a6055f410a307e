use Rattle.function_graphs.proofs.Cheapest.{certified_is_best}
use Rattle.function_graphs.proofs.certified_is_best.Goals as goal

pub returns : goal.returns
returns c = certified_is_best
