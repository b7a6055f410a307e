use Rattle.certified.proofs.Modules.{certified_are_best}
use Rattle.certified.proofs.certified_are_best.Goals as goal

pub returns : goal.returns
returns c = certified_are_best (record { numbering = c.one_numbering.ensures; stays = c.best_stays.ensures; good = c.good_is_best.ensures })
