use Rattle.std.proofs.Common.{◌≡◌, ◌<◌, ◌==◌, ◌||◌, nat_lt, false, length, ℕ, get_or}
use Rattle.entry_check.proofs.proof.ranked_nodes.Given as goal

abbrev pub invariant-loop-node : goal.invariant-loop-node
invariant-loop-node l = record {
  len : length l.side.items ≡ l.node;
  each : (v : ℕ) → v < l.node → get_or l.side.items v false ≡ (v == 1) || nat_lt 0 (get_or l.ranks v 0);
}
