use Rattle.std.proofs.Common.{◌≡◌, ◌<◌, ℕ, Contains, length}
use Rattle.dataflow.specs.Walks.{IsEntered, IsWalking}
use Rattle.dataflow.proofs.order.postorder.Given as goal

abbrev pub invariant-loop-node : goal.invariant-loop-node
invariant-loop-node l = record {
  len : length l.walk.entered.items ≡ l.graph.nodes;
  walking : IsWalking l.walk;
  entered : (n : ℕ) → n < l.node → IsEntered l.walk n;
  left : (n : ℕ) → IsEntered l.walk n → Contains l.walk.order.items n;
}
