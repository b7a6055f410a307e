use Rattle.std.proofs.Common.{◌<◌, ◌+◌, ap, length, arith, take, length-take}
use Rattle.std.proofs.lemmas.List.{take_all, get_or_read}
use Rattle.flow_paths.specs.Paths.{source}
use Rattle.local_sets.proofs.CountLemmas.{AreCounts-start, AreCounts-more, counts_most}
use Rattle.local_sets.proofs.counting.counts.Goals as goal

pub loop-from-init : goal.loop-from-init
loop-from-init c = AreCounts-start c.args.points c.in_ok-counts.counts.items c.in_ok-counts.ensures

pub index_mut-requires : goal.index_mut-requires
index_mut-requires c =
    let inside = (c.requires.within c.loop-from.from-index c.loop-from-test.true).0 in
    omega (arith, inside, c.loop-from.invariant.len)

pub overflow_add-index_mut : goal.overflow_add-index_mut
overflow_add-index_mut c =
    let inside = (c.requires.within c.loop-from.from-index c.loop-from-test.true).0 in
    let there : source c.args.arcs.now c.loop-from.from-index < length c.loop-from.counts.items = omega (arith, inside, c.loop-from.invariant.len) in
    let read = get_or_read c.loop-from.counts.items (source c.args.arcs.now c.loop-from.from-index) c.index_mut.result.now there c.index_mut.ensures.value 0 in
    let most = counts_most c.args.points (take c.loop-from.from-index c.args.arcs.now) c.loop-from.counts.items (source c.args.arcs.now c.loop-from.from-index) inside c.loop-from.invariant in
    omega (arith, read, most, length-take c.loop-from.from-index c.args.arcs.now, c.loop-from-test.true, c.requires.few)

pub loop-from-preserved : goal.loop-from-preserved
loop-from-preserved c =
    let i = c.loop-from.from-index in
    let inside = (c.requires.within c.loop-from.from-index c.loop-from-test.true).0 in
    let there : source c.args.arcs.now c.loop-from.from-index < length c.loop-from.counts.items = omega (arith, inside, c.loop-from.invariant.len) in
    let read = get_or_read c.loop-from.counts.items (source c.args.arcs.now c.loop-from.from-index) c.index_mut.result.now there c.index_mut.ensures.value 0 in
    AreCounts-more c.args.points c.args.arcs.now c.loop-from.from-index c.loop-from.counts.items (c.index_mut.result.now + 1) c.loop-from-test.true inside (ap (λ n. n + 1) read) c.loop-from.invariant

pub returns : goal.returns
returns c = rw (take_all c.loop-from.from-index c.args.arcs.now c.loop-from-test.false) at c.loop-from.invariant
