use Rattle.block_text.proofs.Steps.{groups_more, groups_end}
use Rattle.block_text.proofs.grouping.push_groups.Goals as goal

pub loop-temp-preserved : goal.loop-temp-preserved
loop-temp-preserved c =
    groups_more c.args.source.now c.args.p c.loop-temp.temp-index c.args.temps.now c.number-x.result c.prefix.result c.variable-variable.result c.expr.result.now
    c.loop-temp.instrs.items c.push_group.new.instrs.items _ c.loop-temp-test.true c.number-x.ensures.there c.expr.ensures c.prefix.ensures c.variable-variable.ensures
    c.loop-temp.invariant c.in_ok-push_group.ensures

pub returns : goal.returns
returns c =
    groups_end c.args.source.now c.args.p c.loop-temp.temp-index c.args.temps.now c.loop-temp.instrs.items _ c.loop-temp-test.false c.loop-temp.invariant
