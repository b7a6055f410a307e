use Rattle.std.proofs.Common.{subst}
use Rattle.std.proofs.lemmas.List.{take_all}
use Rattle.placement.specs.Marking.{PointMarks}
use Rattle.placement.proofs.MarkLemmas.{PointMarks-start, PointMarks-more, PointMarks-other}
use Rattle.placement.proofs.marking.mark_points.Goals as goal
use Rattle.placement.proofs.marking.mark_points.Goals.{in-Occurs, in_default}

pub loop-point-init : goal.loop-point-init
loop-point-init c = PointMarks-start _ _ c.in_ok-marks.ensures

pub loop-point-preserved : goal.loop-point-preserved
loop-point-preserved c =
    elim c.match-events-point.branch [
      | in-Occurs w ↦ rw w.marks-is (PointMarks-more _ _ _ _ c.loop-point-test.true c.loop-point.invariant (c.requires c.loop-point.point-index 0 c.loop-point-test.true) w.in-Occurs.is)
      | in_default w ↦ rw w.marks-is (PointMarks-other _ _ _ _ c.loop-point-test.true c.loop-point.invariant w.in_default.not-Occurs)
    ]

pub returns : goal.returns
returns c = subst (λ xs. PointMarks c.args.events.now xs c.loop-point.marks.items) (take_all c.loop-point.point-index c.args.kept.now c.loop-point-test.false) c.loop-point.invariant
