use Rattle.std.proofs.Common.{ℕ, ◌<◌, ◌≤◌, get_or, take}
use Rattle.flow_net.specs.declared.Arc.{Arc}
use Rattle.flow_net.specs.Network.{loads}
use Rattle.flow_check.specs.Sums.{AreSums}
use Rattle.flow_check.proofs.flow.add_amounts.Given as goal

abbrev pub invariant-loop-index : goal.invariant-loop-index
invariant-loop-index l = record {
  within : (i : ℕ) → i < l.index → (d : Arc × ℕ) → (get_or (loads l.net l.flow) i d).1 ≤ (get_or (loads l.net l.flow) i d).0.cap;
  sums : AreSums (take l.index (loads l.net l.flow)) l.sums;
}
