use Rattle.certified.proofs.Best.{good_is_best}
use Rattle.certified.proofs.good_is_best.Goals as goal

pub returns : goal.returns
returns c = good_is_best (record { events = c.events_exist.ensures; best = c.certified_is_best.ensures })
