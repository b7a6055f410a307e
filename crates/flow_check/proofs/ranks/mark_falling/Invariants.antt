use Rattle.std.proofs.Common.{ℕ}
use Rattle.std.specs.Prelude.{◌↔◌}
use Rattle.flow_net.specs.Network.{loads}
use Rattle.flow_check.specs.Marks.{IsMarked, FallsBefore}
use Rattle.flow_check.proofs.ranks.mark_falling.Given as goal

abbrev pub invariant-loop-index : goal.invariant-loop-index
invariant-loop-index l = (v : ℕ) → IsMarked l.marks v ↔ FallsBefore (loads l.net l.flow) l.ranks l.index v
