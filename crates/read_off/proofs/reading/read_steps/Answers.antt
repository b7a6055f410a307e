use Rattle.std.proofs.Common.{length, get_or, ◌<◌, arith}
use Rattle.std.proofs.lemmas.List.{get_or_default}
use Rattle.expressions.specs.declared.syntax.Event.TheVariants.{Occurs, Passes}
use Rattle.read_off.specs.Bits.{event_at}
use Rattle.read_off.proofs.Adding.{reads_none, reads_step}
use Rattle.read_off.proofs.reading.read_steps.Goals as goal

pub loop-step-init : goal.loop-step-init
loop-step-init c = reads_none (event_at c.args.events.now) c.args.head c.args.inserted.now c.args.kept.now

pub loop-step-preserved : goal.loop-step-preserved
loop-step-preserved c =
    let v = c.loop-step.kept.next in
    let inside : v < length c.args.events.now = let n = c.loop-step.invariant.next_point in let r = c.requires.events in let t = c.loop-step-test.true in omega arith in
    reads_step (event_at c.args.events.now) c.args.head c.loop-step._step c.args.inserted.now c.loop-step.inserted c.add.new.self c.args.kept.now c.loop-step.kept c.add-in-loop-step.new.self c.loop-step.before
    (get_or c.args.events.now v Occurs) c.event_after-before.result c.is_kept.result (get_or_default c.args.events.now v Occurs Passes inside)
    c.loop-step.invariant c.in_ok-add.ensures c.is_kept.ensures c.in_ok-add-2.ensures c.event_after-before.ensures
