use Rattle.std.proofs.Common.{length, ℕ, ◌<◌, ◌↔◌}
use Rattle.std.proofs.lemmas.Result.{IfOk-weaker}
use Rattle.lazy_motion.specs.Motion.{IsDelayedOn}
use Rattle.flow_paths.specs.Spreads.{IsSet}
use Rattle.best_placement.specs.Blocks.{HasEvent}
use Rattle.lazy_motion.specs.Steps.{event_at, DelayedBits}
use Rattle.lazy_motion.proofs.MotionBits.{event_listed, delayed_are}
use Rattle.lazy_motion.proofs.delayed.delayed_edges.Goals as goal

pub returns-clause-bits : goal.returns-clause-bits
returns-clause-bits c =
    let arcs = c.args.arcs.now in
    let events = c.args.events.now in
    let undelayed = c.in_ok-undelayed.undelayed.items in
    IfOk-weaker c.delayed_bits.result
    (λ bits. DelayedBits arcs events c.args.early.now undelayed (length arcs) bits.items)
    (λ bits. (e : ℕ) → e < length arcs → IsSet bits.items e ↔ IsDelayedOn arcs (HasEvent (event_at events)) e)
    (λ bits is. delayed_are arcs events (event_at events) (event_listed events) c.requires.within c.requires.reached
    c.args.early.now c.requires.early c.requires.len
    c.in_ok-at_point.at_point.items c.in_ok-at_edge.at_edge.items c.in_ok-at_point.ensures c.in_ok-at_edge.ensures
    undelayed bits.items
    (rw (c.deref.ensures.value, c.deref-2.ensures.value) at c.in_ok-undelayed.ensures.bits)
    is)
    (rw c.deref-3.ensures.value at c.delayed_bits.ensures)
