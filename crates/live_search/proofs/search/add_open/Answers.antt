use Rattle.std.proofs.Common.{◌≡◌, ◌<◌, ◌≤◌, ◌+◌, Contains, Some, inl, inr, length, sym, subst, ◌∙◌, arith}
use Rattle.flow_paths.specs.Paths.{target}
use Rattle.live_search.specs.Searching.{past, AddsOpen}
use Rattle.live_search.proofs.Keys.{Inserted, inserted, absent}
use Rattle.live_search.proofs.Steps.{arc_passed, arc_followed}
use Rattle.live_search.proofs.search.add_open.Goals as goal
use Rattle.live_search.proofs.search.add_open.Goals.{then-not-has+then-not-has-2+in_ok-insert, else-not-has, else-not-has-via-then-not-has+else-not-has-2, else-not-has-via-else-not-has}

pub loop-next-preserved : goal.loop-next-preserved
loop-next-preserved c =
    let points = c.args.barred_points.now.keys in
    let arcs = c.args.barred_arcs.now.keys in
    let all = c.args.graph.now.arcs in
    let arc = c.in-Some.arc in
    let is : c.loop-next.next ≡ Some arc = c.in-Some.is in
    let ends : target all arc ≡ c.args.point = c.loop-next.invariant.ends arc is in
    let inside : arc < length all = let h : past c.loop-next.next ≤ length all = c.loop-next.invariant.inside in omega (arith, subst (λ o. past o ≤ length all) is h) in
    let before = rw ends at c.arc_before-next.ensures in
    let adds : AddsOpen all (arc + 1) c.args.point points arcs c.args.found.now.keys c.loop-next.found.keys = subst (λ o. AddsOpen all (past o) c.args.point points arcs c.args.found.now.keys c.loop-next.found.keys) is c.loop-next.invariant.adds in
    record {
      inside = let h = c.arc_before-next.ensures.inside in omega (arith, h, inside);
      ends = λ e here. c.arc_before-next.ensures.ends e here ∙ ends;
      adds = elim c.if-not-has.branch [
        | then-not-has+then-not-has-2+in_ok-insert w ↦ rw w.found-is
            (arc_followed all c.args.point points arcs arc c.arc_before-next.result before c.begin_of-from.result c.args.found.now.keys c.loop-next.found.keys w.insert.new.self.keys c.begin_of-from.ensures inside ends
            (absent _ c.has.ensures w.if-not-has.true) (absent _ w.has-then-not-has.ensures w.if-not-has-2.true)
            (subst (Inserted c.loop-next.found.keys c.begin_of-from.result) (sym w.in_ok-insert.ensures.keys) (inserted c.loop-next.found.keys c.begin_of-from.result)) adds)
        | else-not-has w ↦ rw w.found-is (arc_passed all c.args.point points arcs arc c.arc_before-next.result before c.args.found.now.keys c.loop-next.found.keys
            (elim w.else-not-has.branch [
              | else-not-has-via-then-not-has+else-not-has-2 w' ↦ inr (subst (Contains points) c.begin_of-from.ensures (w'.has-then-not-has.ensures.0 w'.if-not-has-2.false))
              | else-not-has-via-else-not-has w' ↦ inl (c.has.ensures.0 w'.if-not-has.false)
            ]) adds)
      ];
    }
