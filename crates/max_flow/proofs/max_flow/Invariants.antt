use Rattle.std.proofs.Common.{ℕ, ◌+◌, ◌<◌, ◌≡◌}
use Rattle.flow_net.specs.Network.{IsWithin, IsBalanced, ReachesSink, loads}
use Rattle.max_flow.specs.Working.{view_of}
use Rattle.max_flow.proofs.max_flow.Given as goal

-- the sink is farther away than the phases so far
abbrev pub invariant-loop-round : goal.invariant-loop-round
invariant-loop-round g l = record {
  ticks : l.steps ≡ l.fn.steps + l._round;
  room : l.room ≡ view_of l.net;
  within : IsWithin l.net l.flow;
  balanced : IsBalanced l.net l.flow;
  rounds : l._round < l.net.nodes;
  far : (n : ℕ) → ReachesSink (loads l.net l.flow) n 0 → l._round < n;
}
