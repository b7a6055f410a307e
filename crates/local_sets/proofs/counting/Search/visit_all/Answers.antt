use Rattle.std.proofs.Common.{arith}
use Rattle.std.proofs.lemmas.List.{nil_from_length}
use Rattle.std.proofs.lemmas.List.Elements.{Contains-push}
use Rattle.local_sets.proofs.CountLemmas.{Counting-end}
use Rattle.local_sets.proofs.counting.Search.visit_all.Goals as goal

pub visit-requires-clause-point : goal.visit-requires-clause-point
visit-requires-clause-point c =
    (c.loop-point.invariant.waiting c.in-Some.point (rw c.in-Some.ensures.items (Contains-push c.pop.new.self.items c.in-Some.point))).0

pub returns-clause-bits : goal.returns-clause-bits
returns-clause-bits c =
    Counting-end c.args.arcs.now c.args.events.now c.loop-point.self.bits.items c.loop-point.self.left.items c.loop-point.self.pending.items
    (nil_from_length c.loop-point.self.pending.items (omega (arith, c.in_default.ensures.cases.0, c.loop-point.self.pending.ok.0)))
    c.loop-point.invariant c.requires.within
