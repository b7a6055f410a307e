use Rattle.std.proofs.Common.{[], length, map, take}
use Rattle.point_graph.specs.Numbers.{all_points}
use Rattle.expressions.specs.Expressions.{expr_at}
use Rattle.expressions.specs.Tracking.{IsUpTo}
use Rattle.expressions.specs.Walking.{AddsAll, IsFit, seen_of}
use Rattle.expressions.proofs.walk.walk.Given as goal

abbrev pub invariant-loop-block : goal.invariant-loop-block
invariant-loop-block l = record {
  adds : AddsAll (map (expr_at l.module l.function) (all_points l.function (take l.block-index l.blocks))) (record { exprs = []; occurring = [] }) (seen_of l.found);
  up_to : IsUpTo l.found.changes (length l.found.occurring.items);
  fit : IsFit (seen_of l.found);
}
