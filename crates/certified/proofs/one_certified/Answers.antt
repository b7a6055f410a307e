use Rattle.certified.proofs.Modules.{one_certified}
use Rattle.certified.proofs.one_certified.Goals as goal

pub returns : goal.returns
returns c m counts certificate = one_certified m counts certificate c.one_transformed.ensures
