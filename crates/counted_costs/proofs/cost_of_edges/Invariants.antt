use Rattle.std.proofs.Common.{slice_get}
use Rattle.std.specs.Option.{option_map_or}
use Rattle.placement.specs.Costs.{weight_of, edge_count}
use Rattle.placement.proofs.CostLemmas.{Weighing}
use Rattle.counted_costs.proofs.cost_of_edges.Given as goal

abbrev pub invariant-loop-edge : goal.invariant-loop-edge
invariant-loop-edge l = Weighing l.function (λ reached e. option_map_or (λ x. weight_of (edge_count l.function l.counts reached x.kind)) (slice_get l.edges e) 0) l.inserted l.cost l.edge-index
