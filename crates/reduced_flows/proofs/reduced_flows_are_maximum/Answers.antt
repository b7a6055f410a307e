use Rattle.reduced_flows.proofs.Whole.{reduced_flows_are_maximum}
use Rattle.reduced_flows.proofs.reduced_flows_are_maximum.Goals as goal

pub returns : goal.returns
returns c = reduced_flows_are_maximum
