use Rattle.std.proofs.Common.{◌≡◌, ◌∷◌}
use Rattle.std.specs.List.{flat_map, range_with_len}
use Rattle.workload.specs.Workload.{entry, round_blocks}
use Rattle.workload.proofs.building.blocks.Given as goal

abbrev pub invariant-loop-round : goal.invariant-loop-round
invariant-loop-round l = l.blocks.items ≡ entry ∷ flat_map round_blocks (range_with_len 0 l.round)
