use Rattle.std.proofs.Common.{◌≡◌, ◌+◌, ◌∷◌, length, map, take, None}
use Rattle.std.specs.List.{range_with_len}
use Rattle.expressions.specs.Tracking.{Tracks}
use Rattle.expressions.specs.Walking.{AddsAll, IsFit, place_expr, seen_of}
use Rattle.expressions.proofs.walk.Found.pass_block.Given as goal

abbrev pub invariant-loop-k : goal.invariant-loop-k
invariant-loop-k l = record {
  adds : AddsAll (None ∷ map (place_expr l.module l.block) (range_with_len 0 l.k)) (seen_of l.fn.self) (seen_of l.self);
  tracks : Tracks l.module (take l.k l.block.instrs) l.first l.self.changes;
  fit : IsFit (seen_of l.self);
  point : length l.self.occurring.items ≡ l.first + l.k;
  first : l.first ≡ length l.fn.self.occurring.items + 1;
}
