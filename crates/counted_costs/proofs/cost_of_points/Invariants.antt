use Rattle.std.proofs.Common.{slice_get}
use Rattle.std.specs.Option.{option_map_or}
use Rattle.placement.specs.Costs.{weight_of, point_count}
use Rattle.placement.proofs.CostLemmas.{Weighing}
use Rattle.counted_costs.proofs.cost_of_points.Given as goal

abbrev pub invariant-loop-point : goal.invariant-loop-point
invariant-loop-point l = Weighing l.function (λ reached v. option_map_or (λ x. weight_of (point_count l.function l.counts reached x)) (slice_get l.points v) 0) l.kept l.cost l.point-index
