use Rattle.std.proofs.Common.{◌≡◌}
use Rattle.std.specs.Prelude.{All}
use Rattle.flow_graph.specs.Paths.{is_marked}
use Rattle.point_graph.specs.Building.{IsSmall, start_of, starts_of}
use Rattle.point_graph.proofs.starts.block_starts.Given as goal

abbrev pub invariant-loop-index : goal.invariant-loop-index
invariant-loop-index l = record {
  starts : l.starts.items ≡ starts_of l.function (is_marked l.reached) l.index;
  next : l.next ≡ start_of l.function (is_marked l.reached) l.index;
  small : All IsSmall l.starts.items;
}
