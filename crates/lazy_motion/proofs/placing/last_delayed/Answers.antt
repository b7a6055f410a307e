use Rattle.std.proofs.Common.{◌<◌, arith}
use Rattle.flow_paths.specs.Paths.{target}
use Rattle.flow_paths.specs.Spreads.{IsSet}
use Rattle.lazy_motion.proofs.BitLemmas.{Gathered-push, Gathered-skip}
use Rattle.lazy_motion.proofs.placing.last_delayed.Goals as goal
use Rattle.lazy_motion.proofs.placing.last_delayed.Goals.{then-delayed-arc+then-undelayed-to+in_ok-push, else-delayed-arc, else-delayed-arc-via-then-delayed-arc+else-undelayed-to, else-delayed-arc-via-else-delayed-arc}

pub loop-arc-preserved : goal.loop-arc-preserved
loop-arc-preserved c =
    elim c.if-delayed-arc.branch [
      | then-delayed-arc+then-undelayed-to+in_ok-push w ↦
          rw (w.edges-is, w.in_ok-push.ensures.items)
          (Gathered-push (λ e. IsSet c.args.delayed.now e × IsSet c.args.undelayed.now (target c.args.arcs.now e)) c.loop-arc.arc c.loop-arc.edges.items (w.if-delayed-arc.true, w.if-undelayed-to.true) c.loop-arc.invariant)
      | else-delayed-arc w ↦
          rw w.edges-is
          (Gathered-skip (λ e. IsSet c.args.delayed.now e × IsSet c.args.undelayed.now (target c.args.arcs.now e)) c.loop-arc.arc c.loop-arc.edges.items
          (λ p. elim w.else-delayed-arc.branch [
            | else-delayed-arc-via-then-delayed-arc+else-undelayed-to w' ↦ let t = p.1 in let f = w'.if-undelayed-to.false in cc (t, f)
            | else-delayed-arc-via-else-delayed-arc w' ↦ let t = p.0 in let f = w'.if-delayed-arc.false in cc (t, f)
          ])
          c.loop-arc.invariant)
    ]

pub returns-clause-items : goal.returns-clause-items
returns-clause-items c e = (
  λ x. let h = (c.loop-arc.invariant.collected e).0 x in let l : e < c.loop-arc.arc = h.0 in (omega arith, h.1.0, h.1.1),
  λ h. let l = h.0 in (c.loop-arc.invariant.collected e).1 (omega arith, (h.1, h.2)),
)
