use Rattle.std.proofs.Common.{◌≡◌, ◌+◌, ◌^◌, ◌<◌, length, take}
use Rattle.std.specs.List.{sum_by}
use Rattle.placement.specs.declared.placements.Placement.{Placement}
use Rattle.opt_rows.proofs.checking.are_few.Given as goal

abbrev pub invariant-loop-placement : goal.invariant-loop-placement
invariant-loop-placement l = record {
  some : 0 < l.left;
  left : l.left + sum_by (λ (placement : Placement). length placement.inserted) (take l.placement-index l.placements) ≡ 2 ^ 28;
}
