use Rattle.std.proofs.Common.{◌≡◌, ◌↔◌, ℕ, length}
use Rattle.std.proofs.lemmas.Result.{IfOk-weaker}
use Rattle.flow_paths.specs.Spreads.{IsSet, SpreadsTo}
use Rattle.flow_paths.specs.Marks.{mark_at, ReachedInvalid}
use Rattle.flow_paths.proofs.Validity.{found_is, reached_from_start, seeds_from_start, none_set}
use Rattle.flow_paths.proofs.stretches.unwritten.Goals as goal

pub find_stretches-passes-requires-clause-none_pass : goal.find_stretches-passes-requires-clause-none_pass
find_stretches-passes-requires-clause-none_pass c e = rw c.in_ok-none.ensures (none_set (length c.args.arcs.now) e)

pub returns-clause-bits : goal.returns-clause-bits
returns-clause-bits c =
    let arcs = c.args.arcs.now in
    let mark = mark_at c.args.at_point.now c.args.at_edge.now in
    let reached = c.in_ok-reached.reached.items in
    let passes = c.find_stretches-passes.result.passes.items in
    let seeds = c.find_stretches-passes.result.seeds.items in
    IfOk-weaker c.spread-2.result
    (λ bits. (v : ℕ) → IsSet bits.items v ↔ SpreadsTo c.args.arcs.now c.find_stretches-passes.result.passes.items c.find_stretches-passes.result.seeds.items v)
    (λ bits. (v : ℕ) → IsSet bits.items v ↔ ReachedInvalid c.args.arcs.now (mark_at c.args.at_point.now c.args.at_edge.now) v)
    (λ bits h. found_is mark arcs reached passes seeds bits.items
    (record {
      reached_is = reached_from_start _ c.in_ok-every.every.items c.in_ok-start.start.items _ c.in_ok-every.ensures c.in_ok-start.ensures.bits (rw c.deref.ensures.value at c.in_ok-reached.ensures.spread);
      passes_is = c.find_stretches-passes.ensures.passes;
      seeds_is = seeds_from_start _ _ _ c.in_ok-start-2.start.items _ c.in_ok-start-2.ensures.bits (rw c.deref-2.ensures.value at c.find_stretches-passes.ensures.seeds);
      bits_is = h;
    }))
    (rw c.deref-3.ensures.value at c.spread-2.ensures.spread)
