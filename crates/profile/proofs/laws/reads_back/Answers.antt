use Rattle.std.proofs.Common.{refl}
use Rattle.profile.proofs.laws.reads_back.Goals as goal

pub returns : goal.returns
returns c = λ m counts accepted. record { text = refl; accepted = accepted }
