use Rattle.function_graphs.proofs.Existing.{events_exist}
use Rattle.function_graphs.proofs.events_exist.Goals as goal

pub returns : goal.returns
returns c = events_exist
