use Rattle.std.proofs.Common.{map}
use Rattle.flow_paths.specs.Searching.{AreEnds}
use Rattle.flow_paths.proofs.spreading.passing_ends.Given as goal

abbrev pub invariant-loop-arc : goal.invariant-loop-arc
invariant-loop-arc l = AreEnds l.arcs l.passes l.points l.arc (map (λ list. list.items) l.lists.items)
