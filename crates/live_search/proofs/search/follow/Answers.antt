use Rattle.std.proofs.Common.{◌≡◌, ◌≤◌, length, sym, subst, arith}
use Rattle.std.proofs.lemmas.Option.{get_or_from_slice_get}
use Rattle.std.proofs.lemmas.Map.Steps.{length-le_from_distinct_below}
use Rattle.live_search.specs.Searching.{IsSearch}
use Rattle.live_search.proofs.Keys.{has_key}
use Rattle.live_search.proofs.Steps.{search_follows}
use Rattle.live_search.proofs.search.follow.Goals as goal

pub add_open-requires : goal.add_open-requires
add_open-requires c =
    let count : c.len.result ≡ length c.loop-next.found.keys = c.len.ensures.len in
    c.loop-next.invariant.below c.index-point.result.now
    (c.loop-next.next, omega (arith, count, c.loop-next-test.true), get_or_from_slice_get c.loop-next.found.keys c.loop-next.next c.index-point.result.now c.index-point.result.now c.index-point.ensures)

pub loop-next-smaller : goal.loop-next-smaller
loop-next-smaller c =
    let few : length c.loop-next.found.keys ≤ c.args.graph.now.points =
    length-le_from_distinct_below c.loop-next.found.keys c.args.graph.now.points c.len.ensures.unique (λ q h. c.loop-next.invariant.below q ((has_key c.loop-next.found.keys q).0 h)) in
    let count : c.len.result ≡ length c.loop-next.found.keys = c.len.ensures.len in
    omega (arith, few, count, c.loop-next-test.true)

pub loop-next-preserved : goal.loop-next-preserved
loop-next-preserved c =
    let count : c.len.result ≡ length c.loop-next.found.keys = c.len.ensures.len in
    search_follows c.args.graph.now c.args.barred_points.now.keys c.args.barred_arcs.now.keys c.args.goals.now c.loop-next.next c.index-point.result.now
    c.loop-next.found.keys c.add_open.new.found.keys c.arcs_join_points.ensures (omega (arith, count, c.loop-next-test.true))
    (sym (get_or_from_slice_get c.loop-next.found.keys c.loop-next.next c.index-point.result.now c.index-point.result.now c.index-point.ensures)) c.in_ok-add_open.ensures c.loop-next.invariant

pub returns : goal.returns
returns c =
    let count : c.len.result ≡ length c.loop-next.found.keys = c.len.ensures.len in
    subst (IsSearch c.args.graph.now c.args.barred_points.now.keys c.args.barred_arcs.now.keys c.args.goals.now c.loop-next.found.keys)
    (omega (arith, count, c.loop-next-test.false, c.loop-next.invariant.within)) c.loop-next.invariant
