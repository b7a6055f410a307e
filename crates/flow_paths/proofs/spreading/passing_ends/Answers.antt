use Rattle.std.proofs.Common.{◌≡◌, ◌<◌, sym, subst, map, length, arith, set, ap, ◌∙◌}
use Rattle.flow_paths.specs.Searching.{AreEnds}
use Rattle.flow_paths.proofs.SearchSteps.{AreEnds-start, AreEnds-skip, AreEnds-more}
use Rattle.flow_paths.proofs.spreading.passing_ends.Goals as goal
use Rattle.flow_paths.proofs.spreading.passing_ends.Goals.{then-passes-arc+in_ok-push, else-passes-arc}

pub loop-arc-init : goal.loop-arc-init
loop-arc-init c = AreEnds-start _ _ _ _ c.in_ok-lists.ensures

pub loop-arc-preserved : goal.loop-arc-preserved
loop-arc-preserved c =
    elim c.if-passes-arc.branch [
      | then-passes-arc+in_ok-push w ↦ rw w.lists-is
          (AreEnds-more (λ list. list.items) c.args.arcs.now c.args.passes.now c.args.points c.loop-arc.arc c.loop-arc.lists.items w.index_mut.result.now w.push.new.self
          (c.requires.within c.loop-arc.arc c.loop-arc-test.true).0 w.if-passes-arc.true (sym w.index_mut.ensures.value) w.in_ok-push.ensures.items c.loop-arc.invariant)
      | else-passes-arc w ↦ rw w.lists-is
          (AreEnds-skip _ _ _ _ _ (λ s. let f = w.if-passes-arc.false in cc (s, f)) c.loop-arc.invariant)
    ]

pub returns : goal.returns
returns c = subst (λ n. AreEnds c.args.arcs.now c.args.passes.now c.args.points n (map (λ list. list.items) c.loop-arc.lists.items)) (omega (arith, c.loop-arc-test.false, c.loop-arc.auto.arc-end)) c.loop-arc.invariant
