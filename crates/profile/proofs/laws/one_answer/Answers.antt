use Rattle.profile.proofs.OneAnswer.{has_one_answer}
use Rattle.profile.proofs.laws.one_answer.Goals as goal

pub returns : goal.returns
returns c = has_one_answer
