use Rattle.token_gaps.proofs.Gaps.{token_gaps}
use Rattle.token_gaps.proofs.token_gaps.Goals as goal

pub returns : goal.returns
returns c = token_gaps
