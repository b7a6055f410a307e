use Rattle.std.proofs.Common.{◌≡◌, ℕ, ◌<◌, [], length, map, take, get_or}
use Rattle.dataflow.specs.FixedPoints.{ends_from}
use Rattle.dataflow.proofs.graph.ends_by_node.Given as goal

abbrev pub invariant-loop-from : goal.invariant-loop-from
invariant-loop-from l = record {
  len : length l.lists.items ≡ l.nodes;
  ends : (n : ℕ) → n < l.nodes → get_or (map (λ list. list.items) l.lists.items) n [] ≡ ends_from (take l.from-index l.arcs) n;
}
