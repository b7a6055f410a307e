use Rattle.std.proofs.Common.{◌≡◌, ◌≤◌, ℕ, Some, length}
use Rattle.flow_paths.specs.Paths.{target}
use Rattle.live_search.specs.Searching.{past, AddsOpen}
use Rattle.live_search.proofs.search.add_open.Given as goal

abbrev pub invariant-loop-next : goal.invariant-loop-next
invariant-loop-next l = record {
  inside : past l.next ≤ length l.graph.arcs;
  ends : (e : ℕ) → l.next ≡ Some e → target l.graph.arcs e ≡ l.point;
  adds : AddsOpen l.graph.arcs (past l.next) l.point l.barred_points.keys l.barred_arcs.keys l.fn.found.keys l.found.keys;
}

abbrev pub decreases-loop-next : goal.decreases-loop-next
decreases-loop-next l = past l.next
