use Rattle.plain_same.proofs.Plain.{plain_does_the_same}
use Rattle.plain_same.proofs.plain_same.Goals as goal

pub returns : goal.returns
returns c = plain_does_the_same
