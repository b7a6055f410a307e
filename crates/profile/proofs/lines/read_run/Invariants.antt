use Rattle.std.proofs.Common.{◌≡◌, ℕ, List, ◌++◌, length}
use Rattle.profile.specs.Forms.{Run}
use Rattle.profile.proofs.lines.read_run.Given as goal

abbrev pub invariant-loop-number : goal.invariant-loop-number
invariant-loop-number l = (ns : List ℕ) × (l.counts ≡ l.fn.counts ++ ns) × Run l.bytes ns l.rest

abbrev pub decreases-loop-number : goal.decreases-loop-number
decreases-loop-number l = length l.rest
