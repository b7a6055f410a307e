use Rattle.std.proofs.Common.{◌≡◌, ℕ, ◌<◌, false}
use Rattle.flow_net.specs.Levels.{HasNodes, is_reached, distance_of}
use Rattle.flow_net.proofs.levels.Distances.clear.Given as goal

abbrev pub invariant-loop-node : goal.invariant-loop-node
invariant-loop-node l = record {
  nodes : HasNodes l.nodes l.self;
  count : l.self.count ≡ 0;
  none : (v : ℕ) → v < l.node → (is_reached l.self v ≡ false) × (distance_of l.self v ≡ 0);
}
