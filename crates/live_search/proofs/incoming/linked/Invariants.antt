use Rattle.std.proofs.Common.{◌≡◌, length}
use Rattle.live_search.specs.Searching.{AreLinked}
use Rattle.live_search.proofs.incoming.linked.Given as goal

abbrev pub invariant-loop-arc : goal.invariant-loop-arc
invariant-loop-arc l = record { count : length l.last.items ≡ l.points; linked : AreLinked l.arcs l.arc l.last.items l.before.items }
