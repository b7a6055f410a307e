use Rattle.std.proofs.Common.{◌≡◌, ◌↔◌, ℕ, length}
use Rattle.std.proofs.lemmas.Result.{IfOk-weaker}
use Rattle.flow_paths.specs.Paths.{flipped_arcs}
use Rattle.flow_paths.specs.Spreads.{IsSet, SpreadsTo}
use Rattle.flow_paths.specs.Marks.{mark_at, MeetsUnwritten}
use Rattle.flow_paths.proofs.LiveLemmas.{flipped_within, meets_spread}
use Rattle.flow_paths.proofs.lives.meets_unwritten.Goals as goal

pub spread-requires-clause-within : goal.spread-requires-clause-within
spread-requires-clause-within c =
    rw (c.deref.ensures.value, c.in_ok-backward.ensures, c.requires.goals) (flipped_within c.args.arcs.now (length c.args.at_point.now) c.requires.within)

pub returns-clause-bits : goal.returns-clause-bits
returns-clause-bits c =
    IfOk-weaker c.spread.result
    (λ bits. (v : ℕ) → IsSet bits.items v ↔ SpreadsTo (flipped_arcs c.args.arcs.now) c.in_ok-passes.passes.items c.args.goals.items v)
    (λ bits. (v : ℕ) → IsSet bits.items v ↔ MeetsUnwritten c.args.arcs.now (mark_at c.args.at_point.now c.args.at_edge.now) c.args.goals.items v)
    (λ bits h v.
    let m = meets_spread c.args.arcs.now c.args.at_point.now c.args.at_edge.now c.in_ok-passes.passes.items c.in_ok-passes.ensures c.args.goals.items v in
    (λ s. m.0 ((h v).0 s), λ l. (h v).1 (m.1 l)))
    (rw (c.deref.ensures.value, c.in_ok-backward.ensures, c.deref-2.ensures.value) at c.spread.ensures.spread)
