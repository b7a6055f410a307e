use Rattle.std.proofs.Common.{◌≡◌, ◌<◌, length, subst, arith}
use Rattle.placement.proofs.EventLemmas.{one_event}
use Rattle.places_check.specs.Walked.{GoesSteps}
use Rattle.places_check.proofs.Passing.{steps_none, steps_more}
use Rattle.places_check.proofs.walking.pass_steps.Goals as goal

pub loop-step-init : goal.loop-step-init
loop-step-init c = (omega arith, λ event edge its. steps_none event c.args.head edge c.args.kept.now)

pub event_at-event-requires-clause-point : goal.event_at-event-requires-clause-point
event_at-event-requires-clause-point c = let n = c.loop-step.invariant.0 in let r = c.requires.points in let t = c.loop-step-test.true in omega arith

pub pass-requires : goal.pass-requires
pass-requires c = let n = c.loop-step.invariant.0 in let r = c.requires.points in let few = c.requires.few in let t = c.loop-step-test.true in omega arith

pub loop-step-preserved : goal.loop-step-preserved
loop-step-preserved c =
    let n = c.loop-step.invariant.0 in
    let x = c.args.expression.now in
    let v = c.loop-step.kept.next in
    let inside : v < length x.points.now.points = let r = c.requires.points in let t = c.loop-step-test.true in omega arith in (
      let m = c.pass.ensures.next in omega arith,
      λ event edge its. steps_more event c.args.head edge c.loop-step._step c.args.kept.now c.loop-step.kept c.pass.new.self c.loop-step.before c.event_at-event.result c.event_after-before.result c.is_kept.result n
          (one_event x.function.now x.points.now x.table.now x.number v c.event_at-event.result (event v) c.event_at-event.ensures (its.at_points v inside))
          (c.loop-step.invariant.1 event edge its) c.is_kept.ensures c.pass.ensures c.event_after-before.ensures,
    )

pub returns-clause-steps : goal.returns-clause-steps
returns-clause-steps c event edge its =
    let f = c.loop-step-test.false in
    let m = c.loop-step.auto._step-end in
    let all : c.loop-step._step ≡ c.args.instructions = omega arith in
    subst (λ n. GoesSteps event c.args.head edge n c.args.kept.now c.loop-step.kept c.loop-step.before) all (c.loop-step.invariant.1 event edge its)
