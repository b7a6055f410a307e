use Rattle.std.proofs.Common.{◌≡◌, get_or, replicate, refl, sym, subst, rules}
use Rattle.mc_solve.proofs.Amounts.{SpreadsTo, spread_none, spread_one, spread_all}
use Rattle.mc_solve.proofs.flows.spread.Goals as goal

pub loop-index-init : goal.loop-index-init
loop-index-init c =
    let zeros : c.in_ok-whole.whole.items ≡ replicate c.args.count 0 = search rules in
    subst (SpreadsTo c.args.count c.args.arc_of.now c.args.amounts.now 0) (sym zeros) (spread_none c.args.count c.args.arc_of.now c.args.amounts.now)

pub loop-index-preserved : goal.loop-index-preserved
loop-index-preserved c =
    spread_one c.args.count c.args.arc_of.now c.args.amounts.now c.loop-index.index (get_or c.args.arc_of.now c.loop-index.index 0) (get_or c.args.amounts.now c.loop-index.index 0) c.loop-index.whole.items
    c.requires.ascending c.loop-index-test.true refl refl (c.requires.within c.loop-index.index 0 c.loop-index-test.true) c.loop-index.invariant

pub returns : goal.returns
returns c = spread_all c.args.count c.args.arc_of.now c.args.amounts.now c.loop-index.index c.loop-index.whole.items c.loop-index-test.false c.loop-index.invariant
