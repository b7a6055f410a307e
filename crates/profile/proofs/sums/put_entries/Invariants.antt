use Rattle.std.proofs.Common.{◌≡◌, ℕ, ◌<◌, get_or}
use Rattle.profile.proofs.sums.put_entries.Given as goal

abbrev pub invariant-loop-sum : goal.invariant-loop-sum
invariant-loop-sum l = (b : ℕ) → b < l.sum-index → get_or l.sums b 0 ≡ 0
