use Rattle.function_graphs.proofs.Capacities.{networks_are_valid}
use Rattle.function_graphs.proofs.networks_are_valid.Goals as goal

pub returns : goal.returns
returns c = networks_are_valid
