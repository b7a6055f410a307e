use Rattle.std.proofs.Common.{◌<◌, ◌≤◌, ℕ, length, get_or, arith, below_more}
use Rattle.std.proofs.lemmas.Slice.Zip.{length-zip}
use Rattle.flow_net.specs.declared.Arc.{Arc}
use Rattle.flow_net.specs.Network.{loads}
use Rattle.flow_check.proofs.Adding.{first_above, first_room, load_there, within_more, sums_more, sums_all}
use Rattle.flow_check.proofs.flow.add_amounts.Goals as goal

pub returns-then-arc-amount : goal.returns-then-arc-amount
returns-then-arc-amount c =
    let arcs = c.args.net.now.arcs.items in
    let amounts = c.args.flow.now.amounts.items in
    let read = load_there c.deref-arc-items.result.now arcs amounts c.loop-index.index _ c.index-amount.result.now c.deref-arc-items.ensures.value c.requires.amounts c.loop-index-test.true c.index-amount.ensures in
    first_above c.args.net.now c.args.flow.now c.loop-index.index _ c.index-amount.result.now
    (omega (arith, length-zip arcs amounts, c.requires.amounts, c.deref-arc-items.ensures.len, c.args.net.now.arcs.ok.0, c.loop-index-test.true))
    read c.if-arc-amount.true c.loop-index.invariant.within

pub add_amount-requires-clause-room : goal.add_amount-requires-clause-room
add_amount-requires-clause-room c =
    first_room c.args.net.now.arcs.items c.args.flow.now.amounts.items c.loop-index.index c.loop-index.sums c.requires.amounts c.requires.valid.total
    c.loop-index.invariant.within c.loop-index.invariant.sums

pub loop-index-preserved : goal.loop-index-preserved
loop-index-preserved c =
    let arcs = c.args.net.now.arcs.items in
    let amounts = c.args.flow.now.amounts.items in
    let ls = loads c.args.net.now c.args.flow.now in
    let index = c.loop-index.index in
    let amount = c.index-amount.result.now in
    let inside : index < length ls = omega (arith, length-zip arcs amounts, c.requires.amounts, c.deref-arc-items.ensures.len, c.args.net.now.arcs.ok.0, c.loop-index-test.true) in
    let read = load_there c.deref-arc-items.result.now arcs amounts index _ amount c.deref-arc-items.ensures.value c.requires.amounts c.loop-index-test.true c.index-amount.ensures in
    record {
      within = below_more (λ (i : ℕ). (d : Arc × ℕ) → (get_or ls i d).1 ≤ (get_or ls i d).0.cap) _ c.loop-index.invariant.within (within_more ls index _ amount inside read c.if-arc-amount.false);
      sums = sums_more ls index _ amount c.loop-index.sums c.add_amount.new.sums inside read c.add_amount.auto.sums c.loop-index.invariant.sums c.add_amount.ensures;
    }

pub returns : goal.returns
returns c =
    let arcs = c.args.net.now.arcs.items in
    let amounts = c.args.flow.now.amounts.items in
    let ls = loads c.args.net.now c.args.flow.now in
    let past : length ls ≤ c.loop-index.index = omega (arith, length-zip arcs amounts, c.deref-arc-items.ensures.len, c.args.net.now.arcs.ok.0, c.loop-index-test.false) in (
      record {
        len = c.requires.amounts;
        below = λ i d h. c.loop-index.invariant.within i (omega (arith, h)) d;
      },
      sums_all ls c.loop-index.index c.loop-index.sums past c.loop-index.invariant.sums,
    )
