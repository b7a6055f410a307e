use Rattle.std.proofs.Common.{◌≡◌, ◌^◌, ◌-◌, take, min, sum_by}
use Rattle.profile.specs.Counts.{total}
use Rattle.profile.proofs.checking.total_of.Given as goal

abbrev pub invariant-loop-own : goal.invariant-loop-own
invariant-loop-own l = l.all ≡ min (sum_by total (take l.own-index l.counts)) (2 ^ 128 - 1)
