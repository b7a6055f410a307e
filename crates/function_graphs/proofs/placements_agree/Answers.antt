use Rattle.function_graphs.proofs.Agreeing.{placements_agree}
use Rattle.function_graphs.proofs.placements_agree.Goals as goal

pub returns : goal.returns
returns c = placements_agree
