use Rattle.function_graphs.proofs.Suiting.{functions_have_graphs}
use Rattle.function_graphs.proofs.functions_have_graphs.Goals as goal

pub returns : goal.returns
returns c = functions_have_graphs
