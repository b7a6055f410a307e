use Rattle.run_counts.proofs.Accepted.{accepts_returned}
use Rattle.run_counts.proofs.returned_counts_are_accepted.Goals as goal

pub returns : goal.returns
returns c = accepts_returned
