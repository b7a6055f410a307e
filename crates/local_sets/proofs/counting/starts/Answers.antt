use Rattle.std.proofs.Common.{subst, arith}
use Rattle.local_sets.specs.Counting.{AreStarts}
use Rattle.local_sets.proofs.CountLemmas.{AreStarts-start, AreStarts-push, AreStarts-skip}
use Rattle.local_sets.proofs.counting.starts.Goals as goal
use Rattle.local_sets.proofs.counting.starts.Goals.{then-is_start+in_ok-push, else-is_start}

pub loop-point-init : goal.loop-point-init
loop-point-init c = rw c.new-points.ensures.items (AreStarts-start c.args.events.now)

pub loop-point-preserved : goal.loop-point-preserved
loop-point-preserved c =
    elim c.if-is_start.branch [
      | then-is_start+in_ok-push w ↦ rw (w.points-is, w.in_ok-push.ensures.items) (AreStarts-push c.args.events.now c.loop-point.point _ (c.is_start.ensures.0 w.if-is_start.true) c.loop-point.invariant)
      | else-is_start w ↦ rw w.points-is (AreStarts-skip c.args.events.now c.loop-point.point _ (λ s. let t = c.is_start.ensures.1 s in let f = w.if-is_start.false in cc (t, f)) c.loop-point.invariant)
    ]

pub returns : goal.returns
returns c = subst (λ n. AreStarts c.args.events.now n c.loop-point.points.items) (omega (arith, c.loop-point-test.false, c.loop-point.auto.point-end)) c.loop-point.invariant
