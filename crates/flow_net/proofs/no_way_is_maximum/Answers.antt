use Rattle.flow_net.proofs.Cuts.{no_way_maximum}
use Rattle.flow_net.proofs.no_way_is_maximum.Goals as goal

pub returns : goal.returns
returns c = no_way_maximum
