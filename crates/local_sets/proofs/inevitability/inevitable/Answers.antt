use Rattle.std.proofs.Common.{◌≡◌, ◌<◌, ◌↔◌, ◌∙◌, ℕ, arith, length, vec_len}
use Rattle.std.proofs.lemmas.Result.{IfOk-weaker}
use Rattle.expressions.specs.Tables.{IsEventOf}
use Rattle.flow_paths.specs.Spreads.{IsSet}
use Rattle.placement.specs.Placements.{arcs_of, IsInevitable}
use Rattle.placement.proofs.EventLemmas.{one_event}
use Rattle.placement.proofs.GraphLemmas.{arcs_length, arcs_within}
use Rattle.local_sets.specs.Counting.{EventAt}
use Rattle.local_sets.proofs.Words.{inevitable_told}
use Rattle.local_sets.proofs.inevitability.inevitable.Goals as goal

pub inevitable_points-requires-clause-within : goal.inevitable_points-requires-clause-within
inevitable_points-requires-clause-within c =
    rw (c.deref.ensures.value, c.deref-2.ensures.value, c.in_ok-arcs.ensures, c.as_slice.ensures, c.in_ok-events.ensures.len) (arcs_within c.args.function.now c.args.points.now c.requires.points)

pub inevitable_points-requires-clause-numbered : goal.inevitable_points-requires-clause-numbered
inevitable_points-requires-clause-numbered c = rw c.deref-2.ensures.value (omega (arith, c.in_ok-events.ensures.len, c.requires.points.few))

pub inevitable_points-requires-clause-few : goal.inevitable_points-requires-clause-few
inevitable_points-requires-clause-few c =
    rw (c.deref.ensures.value, c.in_ok-arcs.ensures, c.as_slice.ensures) (omega (arith, arcs_length c.args.points.now.edges, c.requires.points.few))

pub returns-clause-len : goal.returns-clause-len
returns-clause-len c =
    IfOk-weaker c.inevitable_points.result
    (λ bits. vec_len bits ≡ length c.in_ok-events.events.items)
    (λ bits. vec_len bits ≡ length c.args.points.now.points)
    (λ bits h. h ∙ c.in_ok-events.ensures.len)
    (rw c.deref-2.ensures.value at c.inevitable_points.ensures.len)

pub returns-clause-bits : goal.returns-clause-bits
returns-clause-bits c =
    IfOk-weaker c.inevitable_points.result
    (λ bits. (v : ℕ) → v < length c.in_ok-events.events.items → IsSet bits.items v ↔ IsInevitable (arcs_of c.args.points.now.edges) (EventAt c.in_ok-events.events.items) v)
    (λ bits. (v : ℕ) → v < length c.args.points.now.points → IsSet bits.items v ↔ IsInevitable (arcs_of c.args.points.now.edges) (IsEventOf c.args.function.now c.args.points.now c.args.table.now c.args.e) v)
    (λ bits h v inside.
    let there : v < length c.in_ok-events.events.items = omega (arith, inside, c.in_ok-events.ensures.len) in
    let l = inevitable_told (arcs_of c.args.points.now.edges) (length c.args.points.now.points) (IsEventOf c.args.function.now c.args.points.now c.args.table.now c.args.e) c.in_ok-events.events.items
    (arcs_within c.args.function.now c.args.points.now c.requires.points) c.in_ok-events.ensures (one_event c.args.function.now c.args.points.now c.args.table.now c.args.e) v inside in
    (λ s. l.0 ((h v there).0 s), λ k. (h v there).1 (l.1 k)))
    (rw (c.deref.ensures.value, c.deref-2.ensures.value, c.in_ok-arcs.ensures, c.as_slice.ensures) at c.inevitable_points.ensures.bits)
