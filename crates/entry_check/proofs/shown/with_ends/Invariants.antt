use Rattle.std.proofs.Common.{◌≡◌, ◌∷◌, take}
use Rattle.entry_check.proofs.shown.with_ends.Given as goal

abbrev pub invariant-loop-rank : goal.invariant-loop-rank
invariant-loop-rank l = l.all.items ≡ 0 ∷ 0 ∷ take l.rank-index l.ranks
