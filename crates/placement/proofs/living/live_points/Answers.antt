use Rattle.std.proofs.Common.{◌≡◌, ◌<◌, ◌↔◌, ◌∙◌, ℕ, ap, length, vec_len}
use Rattle.std.proofs.lemmas.Result.{IfOk-weaker}
use Rattle.expressions.specs.Tables.{IsEventOf}
use Rattle.flow_paths.specs.Spreads.{IsSet}
use Rattle.placement.specs.Placements.{arcs_of, IsLiveAt}
use Rattle.placement.specs.Marked.{LiveBy}
use Rattle.placement.proofs.GraphLemmas.{has_marks, live_of}
use Rattle.placement.proofs.living.live_points.Goals as goal

pub live_marked-requires : goal.live_marked-requires
live_marked-requires c =
    has_marks c.args.function.now c.args.points.now c.args.table.now c.args.e c.args.placement.now c.in_ok-events.events.items c.in_ok-marked.marked c.requires.points c.in_ok-events.ensures
    (rw c.as_slice.ensures at c.in_ok-marked.ensures)

pub returns-clause-len : goal.returns-clause-len
returns-clause-len c =
    let marked = rw c.as_slice.ensures at c.in_ok-marked.ensures in
    IfOk-weaker c.live_marked.result
    (λ bits. vec_len bits ≡ length c.in_ok-marked.marked.events.items)
    (λ bits. vec_len bits ≡ length c.args.points.now.points)
    (λ bits h. h ∙ ap length marked.events_are ∙ c.in_ok-events.ensures.len)
    c.live_marked.ensures.len

pub returns-clause-bits : goal.returns-clause-bits
returns-clause-bits c =
    IfOk-weaker c.live_marked.result
    (λ bits. (v : ℕ) → IsSet bits.items v ↔ LiveBy c.in_ok-marked.marked v)
    (λ bits. (v : ℕ) → v < length c.args.points.now.points → IsSet bits.items v ↔ IsLiveAt (arcs_of c.args.points.now.edges) (IsEventOf c.args.function.now c.args.points.now c.args.table.now c.args.e) c.args.placement.now v)
    (λ bits h v inside.
    let l = live_of c.args.function.now c.args.points.now c.args.table.now c.args.e c.args.placement.now c.in_ok-events.events.items c.in_ok-marked.marked c.requires.points c.in_ok-events.ensures (rw c.as_slice.ensures at c.in_ok-marked.ensures) v inside in
    (λ s. l.0 ((h v).0 s), λ k. (h v).1 (l.1 k)))
    c.live_marked.ensures.bits
