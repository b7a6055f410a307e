use Rattle.std.proofs.Common.{◌≡◌, ◌^◌, ◌<◌, take, drop}
use Rattle.std.specs.List.{AllByRecursion}
use Rattle.optimise.proofs.choosing.inner_ranks.Given as goal

abbrev pub invariant-loop-rank : goal.invariant-loop-rank
invariant-loop-rank l = (l.inner.items ≡ take l.rank-index (drop 2 l.ranks)) × AllByRecursion (λ rank. rank < 2 ^ 32) l.inner.items
