use Rattle.std.proofs.Common.{arith, sym, refl, ℕ, ◌≤◌, below_more, get_or}
use Rattle.std.proofs.lemmas.Bool.{true≢false}
use Rattle.std.proofs.lemmas.Slice.Zip.{length-zip}
use Rattle.flow_net.specs.declared.Arc.{Arc}
use Rattle.flow_net.specs.Network.{loads}
use Rattle.flow_net.proofs.Loads.{load_below, below_load}
use Rattle.flow_net.proofs.validity.are_amounts_below.Goals as goal

pub loop-index-preserved : goal.loop-index-preserved
loop-index-preserved c =
    let ls = loads c.args.net.now c.args.flow.now in
    below_more (λ (k : ℕ). (d : Arc × ℕ) → (get_or ls k d).1 ≤ (get_or ls k d).0.cap) _ c.loop-index.invariant
    (load_below c.args.net.now.arcs.items c.args.flow.now.amounts.items c.loop-index.index c.index.result.now c.index-in-loop-index.result.now c.requires
    (omega (arith, c.len-index-end.ensures, c.args.net.now.arcs.ok.0, c.loop-index-test.true)) c.index.ensures c.index-in-loop-index.ensures c.if-index.false)

pub returns-then-index : goal.returns-then-index
returns-then-index c = (
  (λ h. absurd (true≢false (sym h))),
  (λ all. absurd (omega (
    arith,
    c.if-index.true,
    below_load c.args.net.now.arcs.items c.args.flow.now.amounts.items c.loop-index.index c.index.result.now c.index-in-loop-index.result.now c.requires
        (omega (arith, c.len-index-end.ensures, c.args.net.now.arcs.ok.0, c.loop-index-test.true)) c.index.ensures c.index-in-loop-index.ensures all,
  ))),
)

pub returns : goal.returns
returns c = (
  (λ h k d inside. c.loop-index.invariant k (omega (arith, length-zip c.args.net.now.arcs.items c.args.flow.now.amounts.items, c.len-index-end.ensures, c.args.net.now.arcs.ok.0, c.loop-index-test.false)) d),
  (λ all. refl),
)
