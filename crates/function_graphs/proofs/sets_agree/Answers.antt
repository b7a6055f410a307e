use Rattle.function_graphs.proofs.Events.{sets_agree}
use Rattle.function_graphs.proofs.sets_agree.Goals as goal

pub returns : goal.returns
returns c = sets_agree
