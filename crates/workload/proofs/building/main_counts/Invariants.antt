use Rattle.std.proofs.Common.{◌≡◌, ◌∷◌}
use Rattle.std.specs.List.{flat_map, range_with_len}
use Rattle.workload.specs.Workload.{round_counts}
use Rattle.workload.proofs.building.main_counts.Given as goal

abbrev pub invariant-loop-round : goal.invariant-loop-round
invariant-loop-round l = l.slots.items ≡ 100 ∷ flat_map round_counts (range_with_len 0 l.round)
