use Rattle.std.proofs.Common.{◌≡◌, ◌+◌, ◌-◌, ◌^◌, take}
use Rattle.certified.specs.Certified.{insertions}
use Rattle.optimise.proofs.choosing.are_few.Given as goal

abbrev pub invariant-loop-placement : goal.invariant-loop-placement
invariant-loop-placement l = l.left + insertions (take l.placement-index l.placements) ≡ 2 ^ 28 - 1
