use Rattle.std.proofs.Common.{◌≡◌, ℕ, ◌<◌, false, get_or}
use Rattle.max_flow.specs.Marking.{HasMarks}
use Rattle.max_flow.specs.Path.{is_dead}
use Rattle.max_flow.proofs.blocking.Marks.reset.Given as goal

abbrev pub invariant-loop-node : goal.invariant-loop-node
invariant-loop-node l = record {
  marks : HasMarks l.nodes l.self;
  dead : (v : ℕ) → v < l.node → is_dead l.self.dead.items v ≡ false;
  next : (v : ℕ) → v < l.node → get_or l.self.next.items v 0 ≡ 0;
}
