use Rattle.best_choice.proofs.Unique.{one_best_in}
use Rattle.best_choice.proofs.one_best_in.Goals as goal

pub returns : goal.returns
returns c = one_best_in
