use Rattle.std.proofs.Common.{◌≡◌, ℕ, [], length}
use Rattle.flow_net.specs.Incidence.{arcs_in}
use Rattle.flow_net.proofs.incidence.no_arcs.Given as goal

abbrev pub invariant-loop-node : goal.invariant-loop-node
invariant-loop-node l = record {
  len : length l.lists.items ≡ l._node;
  none : (v : ℕ) → arcs_in l.lists.items v ≡ [];
}
