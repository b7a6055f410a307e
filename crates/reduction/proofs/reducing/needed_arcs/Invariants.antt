use Rattle.std.proofs.Common.{◌≡◌, filter, filter_map, take}
use Rattle.std.specs.List.{range_with_len}
use Rattle.reduction.specs.Reduced.{is_renumbered, renumbered}
use Rattle.reduction.proofs.reducing.needed_arcs.Given as goal

abbrev pub invariant-loop-number : goal.invariant-loop-number
invariant-loop-number l = record {
  kept : l.kept.items ≡ filter_map (renumbered l.numbers) (take l.number l.arcs);
  numbers : l.arc_of.items ≡ filter (is_renumbered l.numbers l.arcs) (range_with_len 0 l.number);
}
