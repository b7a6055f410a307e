use Rattle.flow_net.proofs.Cuts.{set_latest}
use Rattle.flow_net.proofs.sink_set_is_latest.Goals as goal

pub returns : goal.returns
returns c = λ net flow valid maximum side set. set_latest net flow valid maximum.within maximum.balanced side set maximum
