use Rattle.one_transformed.proofs.Readings.{best_stays}
use Rattle.one_transformed.proofs.best_stays.Goals as goal

pub returns : goal.returns
returns c = best_stays
