use Rattle.one_optimised.proofs.Fitting.{choices_fit}
use Rattle.one_optimised.proofs.choices_fit.Goals as goal

pub returns : goal.returns
returns c = choices_fit
