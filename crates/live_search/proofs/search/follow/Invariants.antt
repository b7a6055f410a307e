use Rattle.std.proofs.Common.{◌-◌}
use Rattle.live_search.specs.Searching.{IsSearch}
use Rattle.live_search.proofs.search.follow.Given as goal

abbrev pub invariant-loop-next : goal.invariant-loop-next
invariant-loop-next l = IsSearch l.graph l.barred_points.keys l.barred_arcs.keys l.goals l.found.keys l.next

abbrev pub decreases-loop-next : goal.decreases-loop-next
decreases-loop-next l = l.graph.points - l.next
