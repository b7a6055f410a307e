use Rattle.std.proofs.Common.{◌≡◌, ◌<◌, length, arith}
use Rattle.std.proofs.lemmas.Slice.Zip.{length-zip}
use Rattle.flow_net.specs.Network.{loads}
use Rattle.flow_check.proofs.Adding.{load_there}
use Rattle.flow_check.proofs.Falling.{falls_more, falls_all}
use Rattle.flow_check.proofs.ranks.mark_falling.Goals as goal

pub loop-index-preserved : goal.loop-index-preserved
loop-index-preserved c =
    let arcs = c.args.net.now.arcs.items in
    let amounts = c.args.flow.now.amounts.items in
    let ls = loads c.args.net.now c.args.flow.now in
    let index = c.loop-index.index in
    let amount = c.index-amount.result.now in
    let inside : index < length ls = omega (arith, length-zip arcs amounts, c.requires.within.len, c.deref-arc-items.ensures.len, c.args.net.now.arcs.ok.0, c.loop-index-test.true) in
    let read = load_there c.deref-arc-items.result.now arcs amounts index _ amount c.deref-arc-items.ensures.value c.requires.within.len c.loop-index-test.true c.index-amount.ensures in
    falls_more ls c.args.ranks.now index _ amount c.falls_by.result c.falls_by-in-loop-index.result c.loop-index.marks c.mark_if.new.marks c.mark_if-in-loop-index.new.marks inside read
    c.falls_by.ensures c.falls_by-in-loop-index.ensures c.mark_if.ensures c.mark_if-in-loop-index.ensures c.loop-index.invariant

pub returns : goal.returns
returns c = λ v.
    let net = c.args.net.now in
    let flow = c.args.flow.now in
    let all : c.loop-index.index ≡ length (loads net flow) =
    omega (arith, length-zip net.arcs.items flow.amounts.items, c.requires.within.len, c.deref-arc-items.ensures.len, net.arcs.ok.0, c.loop-index-test.false, c.loop-index.auto.index-end) in
    let falls = falls_all net flow c.args.ranks.now c.loop-index.index v all in
    let marked = c.loop-index.invariant v in
    (λ m. falls.0 (marked.0 m), λ f. marked.1 (falls.1 f))
