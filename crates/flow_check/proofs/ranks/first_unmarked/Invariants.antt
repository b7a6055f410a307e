use Rattle.std.proofs.Common.{◌<◌, ℕ}
use Rattle.flow_check.specs.Marks.{IsMarked, rank_at}
use Rattle.flow_check.proofs.ranks.first_unmarked.Given as goal

abbrev pub invariant-loop-node : goal.invariant-loop-node
invariant-loop-node l = (v : ℕ) → v < l.node → 0 < rank_at l.ranks v → IsMarked l.marks v
