use Rattle.std.proofs.Common.{length, ℕ, ◌<◌, ◌↔◌}
use Rattle.std.proofs.lemmas.Result.{IfOk-weaker}
use Rattle.lazy_motion.specs.Motion.{IsEarly}
use Rattle.flow_paths.specs.Spreads.{IsSet}
use Rattle.best_placement.specs.Blocks.{HasEvent}
use Rattle.lazy_motion.specs.Steps.{event_at, EarlyBits}
use Rattle.lazy_motion.proofs.MotionBits.{event_listed, early_are}
use Rattle.lazy_motion.proofs.early.early_edges.Goals as goal

pub returns-clause-bits : goal.returns-clause-bits
returns-clause-bits c =
    let arcs = c.args.arcs.now in
    let events = c.args.events.now in
    let uncomputed = c.in_ok-uncomputed.uncomputed.items in
    IfOk-weaker c.early_bits.result
    (λ bits. EarlyBits arcs events c.args.inevitable.now uncomputed (length arcs) bits.items)
    (λ bits. (e : ℕ) → e < length arcs → IsSet bits.items e ↔ IsEarly arcs (HasEvent (event_at events)) e)
    (λ bits is. early_are arcs events (event_at events) (event_listed events) c.requires.within c.requires.reached
    c.in_ok-at_point.at_point.items c.in_ok-at_edge.at_edge.items c.in_ok-at_point.ensures c.in_ok-at_edge.ensures
    c.args.inevitable.now uncomputed bits.items c.requires.inevitable
    (rw (c.deref.ensures.value, c.deref-2.ensures.value) at c.in_ok-uncomputed.ensures.bits)
    is)
    (rw c.deref-3.ensures.value at c.early_bits.ensures)
