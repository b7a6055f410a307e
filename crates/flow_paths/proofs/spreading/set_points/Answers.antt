use Rattle.flow_paths.proofs.SearchSteps.{AreSet-start, AreSet-push, AreSet-skip}
use Rattle.flow_paths.proofs.spreading.set_points.Goals as goal
use Rattle.flow_paths.proofs.spreading.set_points.Goals.{then-bits-point+in_ok-push, else-bits-point}

pub loop-point-init : goal.loop-point-init
loop-point-init c = rw c.new-points.ensures.items (AreSet-start c.args.bits.now)

pub loop-point-preserved : goal.loop-point-preserved
loop-point-preserved c =
    elim c.if-bits-point.branch [
      | then-bits-point+in_ok-push w ↦ rw (w.points-is, w.in_ok-push.ensures.items) (AreSet-push _ _ _ w.if-bits-point.true c.loop-point.invariant)
      | else-bits-point w ↦ rw w.points-is (AreSet-skip _ _ _ (λ s. let f = w.if-bits-point.false in cc (s, f)) c.loop-point.invariant)
    ]
