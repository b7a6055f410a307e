use Rattle.std.proofs.Common.{◌≡◌}
use Rattle.flow_net.specs.Network.{IsWithin, IsBalanced}
use Rattle.max_flow.specs.Working.{view_of}
use Rattle.flow_times.proofs.solving.phases_on.Given as goal

abbrev pub invariant-loop-round : goal.invariant-loop-round
invariant-loop-round g l = record {
  within : IsWithin l.net l.flow;
  balanced : IsBalanced l.net l.flow;
  room : l.room ≡ view_of l.net;
}
