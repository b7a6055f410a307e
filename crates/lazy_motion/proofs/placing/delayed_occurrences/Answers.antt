use Rattle.std.proofs.Common.{◌≡◌, ◌<◌, false, get_or, arith}
use Rattle.expressions.specs.declared.syntax.Event.TheVariants.{Occurs}
use Rattle.lazy_motion.proofs.BitLemmas.{Gathered-push, Gathered-skip}
use Rattle.lazy_motion.proofs.placing.delayed_occurrences.Goals as goal
use Rattle.lazy_motion.proofs.placing.delayed_occurrences.Goals.{then-is_kept+in_ok-push, else-is_kept}

pub loop-point-preserved : goal.loop-point-preserved
loop-point-preserved c =
    elim c.if-is_kept.branch [
      | then-is_kept+in_ok-push w ↦
          rw (w.kept-is, w.in_ok-push.ensures.items)
          (Gathered-push (λ v. (get_or c.args.events.now v Occurs ≡ Occurs) × (get_or c.args.undelayed.now v false ≡ false)) c.loop-point.point c.loop-point.kept.items (c.is_kept.ensures.0 w.if-is_kept.true) c.loop-point.invariant)
      | else-is_kept w ↦
          rw w.kept-is
          (Gathered-skip (λ v. (get_or c.args.events.now v Occurs ≡ Occurs) × (get_or c.args.undelayed.now v false ≡ false)) c.loop-point.point c.loop-point.kept.items
          (λ p. let t = c.is_kept.ensures.1 p in let f = w.if-is_kept.false in cc (t, f))
          c.loop-point.invariant)
    ]

pub returns-clause-items : goal.returns-clause-items
returns-clause-items c v = (
  λ x. let h = (c.loop-point.invariant.collected v).0 x in let l : v < c.loop-point.point = h.0 in (omega arith, h.1.0, h.1.1),
  λ h. let l = h.0 in (c.loop-point.invariant.collected v).1 (omega arith, (h.1, h.2)),
)
