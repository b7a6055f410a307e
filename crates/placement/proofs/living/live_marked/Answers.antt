use Rattle.std.proofs.Common.{◌↔◌, ℕ}
use Rattle.std.proofs.lemmas.Result.{IfOk-weaker}
use Rattle.flow_paths.specs.Spreads.{IsSet}
use Rattle.flow_paths.specs.Marks.{mark_at, MeetsUnwritten}
use Rattle.placement.specs.Marked.{LiveBy}
use Rattle.placement.proofs.PathLemmas.{live_by_goals}
use Rattle.placement.proofs.living.live_marked.Goals as goal

pub returns-clause-bits : goal.returns-clause-bits
returns-clause-bits c =
    let goals = c.in_ok-deleted.deleted.items in
    let are = rw (c.deref.ensures.value, c.deref-2.ensures.value) at c.in_ok-deleted.ensures in
    IfOk-weaker c.meets_unwritten.result
    (λ bits. (v : ℕ) → IsSet bits.items v ↔ MeetsUnwritten c.args.marked.now.arcs.items (mark_at c.args.marked.now.at_point.items c.args.marked.now.at_edge.items) c.in_ok-deleted.deleted.items v)
    (λ bits. (v : ℕ) → IsSet bits.items v ↔ LiveBy c.args.marked.now v)
    (λ bits h v. let g = live_by_goals c.args.marked.now goals are v in (λ s. g.0 ((h v).0 s), λ l. (h v).1 (g.1 l)))
    (rw (c.deref-3.ensures.value, c.deref-4.ensures.value, c.deref-5.ensures.value) at c.meets_unwritten.ensures.bits)
