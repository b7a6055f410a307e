use Rattle.std.proofs.Common.{sym, arith}
use Rattle.std.proofs.lemmas.List.{length-map, take_all}
use Rattle.local_sets.proofs.CountLemmas.{AreSources-start, AreSources-more}
use Rattle.local_sets.proofs.counting.sources.Goals as goal

pub loop-from-init : goal.loop-from-init
loop-from-init c = AreSources-start c.args.points _ c.in_ok-lists.ensures

pub index_mut-requires : goal.index_mut-requires
index_mut-requires c =
    let inside = (c.requires c.loop-from.from-index c.loop-from-test.true).1 in
    omega (arith, inside, c.loop-from.invariant.len, length-map c.loop-from.lists.items (λ list. list.items))

pub loop-from-preserved : goal.loop-from-preserved
loop-from-preserved c =
    AreSources-more (λ list. list.items) c.args.points c.args.arcs.now c.loop-from.from-index c.loop-from.lists.items c.index_mut.result.now c.push.new.self
    c.loop-from-test.true (c.requires c.loop-from.from-index c.loop-from-test.true).1 (sym c.index_mut.ensures.value) c.in_ok-push.ensures.items c.loop-from.invariant

pub returns : goal.returns
returns c = rw (take_all c.loop-from.from-index c.args.arcs.now c.loop-from-test.false) at c.loop-from.invariant
