use Rattle.best_choice.proofs.Unique.{one_best}
use Rattle.best_choice.proofs.one_best.Goals as goal

pub returns : goal.returns
returns c = one_best
