use Rattle.std.proofs.Common.{◌≡◌, ◌++◌, map}
use Rattle.std.specs.List.{range_with_len}
use Rattle.point_graph.specs.Building.{slot_edge}
use Rattle.point_graph.proofs.lists.push_slots.Given as goal

abbrev pub invariant-loop-slot : goal.invariant-loop-slot
invariant-loop-slot l =
    l.edges.items ≡ l.initial.edges.items ++ map (slot_edge l.starts l.block l.from l.term) (range_with_len 0 l.slot)
