use Rattle.std.proofs.Common.{length, sym}
use Rattle.placement.specs.declared.placements.Placement.{Placement}
use Rattle.best_placement.specs.Blocks.{HasEvent}
use Rattle.lazy_motion.specs.Motion.{IsLazy}
use Rattle.lazy_motion.specs.Steps.{event_at}
use Rattle.lazy_motion.proofs.MotionBits.{lazy_is, kept_listed, event_listed, occurrence_listed}
use Rattle.lazy_motion.proofs.LazyLemmas.{Graph, Decided, Given, lazy_correct, lazy_safe, lazy_placed}
use Rattle.lazy_motion.proofs.Counting.{lazy_best}
use Rattle.lazy_motion.proofs.LeastLives.{live_wherever}
use Rattle.lazy_motion.proofs.placing.lazy_with.Goals as goal

pub returns : goal.returns
returns c =
    let arcs = c.args.arcs.now in
    let events = c.args.events.now in
    let n = length c.args.events.now in
    let event = event_at c.args.events.now in
    let ahead = c.args.inevitable.now in
    let early = c.in_ok-early.early.items in
    let delayed = c.in_ok-delayed.delayed.items in
    let undelayed = c.in_ok-undelayed.undelayed.items in
    let p : Placement = record { inserted = c.from.result; kept = c.from-2.result } in
    let graph : Graph arcs n event = record {
      start = c.requires.start;
      passes = c.requires.passes;
      inside = occurrence_listed events;
      within = c.requires.within;
      reached = c.requires.reached;
    } in
    let bits : Decided arcs n event ahead early delayed undelayed = record {
      ahead_is = c.requires.inevitable;
      early_is = c.in_ok-early.ensures.bits;
      delayed_is = c.in_ok-delayed.ensures.bits;
      undelayed_is = c.in_ok-undelayed.ensures.bits;
    } in
    let given : Given arcs n event = record { graph = graph; ahead = ahead; early = early; delayed = delayed; undelayed = undelayed; bits = bits } in
    let lazy : IsLazy arcs (HasEvent event) p = lazy_is arcs event n delayed bits.delayed_is p undelayed c.requires.within bits.undelayed_is (occurrence_listed events)
    (rw (c.deref-3.ensures.value, c.deref-4.ensures.value, sym c.from.ensures) at c.in_ok-inserted.ensures.items)
    (kept_listed events event (event_listed events) p.kept undelayed (rw (c.deref-5.ensures.value, sym c.from-2.ensures) at c.in_ok-kept.ensures.items)) in
    record {
      lazy = lazy;
      placement = lazy_placed arcs n event given p lazy (rw (sym c.from.ensures) at c.in_ok-inserted.ensures.ascending) (rw (sym c.from-2.ensures) at c.in_ok-kept.ensures.ascending);
      correct = lazy_correct arcs n event given p lazy;
      safe = lazy_safe arcs n event given p lazy;
      best = λ q correct safe. lazy_best arcs n event given q correct safe p lazy;
      lives = λ q correct safe as_few. live_wherever arcs n event given p lazy q correct safe as_few;
    }
