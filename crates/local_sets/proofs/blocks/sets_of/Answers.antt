use Rattle.std.proofs.Common.{ap, sym, ◌∙◌, get_or, take, arith, length-take}
use Rattle.std.proofs.lemmas.List.{take_more, take_all}
use Rattle.expressions.specs.declared.syntax.Event.TheVariants.{Occurs, Passes}
use Rattle.local_sets.specs.Blocks.{sets_of}
use Rattle.local_sets.specs.Stepping.{with_event}
use Rattle.local_sets.proofs.BlockLemmas.{sets_more, forced_most}
use Rattle.local_sets.proofs.blocks.sets_of.Goals as goal

pub then_event-sets-requires : goal.then_event-sets-requires
then_event-sets-requires c =
    let same = ap (λ s. s.forced) c.loop-event.invariant in
    omega (arith, same, forced_most Passes (take c.loop-event.event-index c.args.events.now), length-take c.loop-event.event-index c.args.events.now, c.loop-event-test.true, c.requires)

pub loop-event-preserved : goal.loop-event-preserved
loop-event-preserved c =
    c.then_event-sets.ensures
    ∙ ap (λ s. with_event s (get_or c.args.events.now c.loop-event.event-index Occurs)) c.loop-event.invariant
    ∙ sym (sets_more (get_or c.args.events.now c.loop-event.event-index Occurs) (take c.loop-event.event-index c.args.events.now))
    ∙ ap sets_of (sym (take_more c.args.events.now c.loop-event.event-index Occurs c.loop-event-test.true))

pub returns : goal.returns
returns c = c.loop-event.invariant ∙ ap sets_of (take_all c.loop-event.event-index c.args.events.now c.loop-event-test.false)
