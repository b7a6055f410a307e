use Rattle.tallies.proofs.One.{one_tallying}
use Rattle.tallies.proofs.one_tallying.Goals as goal

pub returns : goal.returns
returns c = one_tallying c.one_numbering.ensures
