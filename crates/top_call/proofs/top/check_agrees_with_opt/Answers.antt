use Rattle.top_call.proofs.CheckEndings.{agrees_with_opt}
use Rattle.top_call.proofs.top.check_agrees_with_opt.Goals as goal

pub returns : goal.returns
returns c = agrees_with_opt
