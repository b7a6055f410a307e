use Rattle.live_search.proofs.Keys.{has_key}
use Rattle.live_search.proofs.sets.has.Goals as goal

pub returns : goal.returns
returns c = rw c.contains.ensures (has_key c.args.set.now.keys c.args.number)
