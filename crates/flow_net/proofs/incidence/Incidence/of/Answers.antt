use Rattle.std.proofs.Common.{arith}
use Rattle.flow_net.proofs.IncidenceSteps.{hold_none, hold_more, hold_all}
use Rattle.flow_net.proofs.incidence.Incidence.of.Goals as goal

pub loop-index-init : goal.loop-index-init
loop-index-init c = hold_none c.args.net.now.nodes c.args.net.now.arcs.items c.in_ok-no_arcs.field-0.items c.in_ok-no_arcs.ensures.len c.in_ok-no_arcs.ensures.none

pub loop-index-preserved : goal.loop-index-preserved
loop-index-preserved c =
    hold_more c.args.net.now.nodes c.args.net.now.arcs.items c.loop-index.index c.index-arc.result.now c.loop-index.incidence c.add.new.self c.add-in-loop-index.new.self
    (omega (arith, c.len-index-end.ensures, c.args.net.now.arcs.ok.0, c.loop-index-test.true)) c.index-arc.ensures c.in_ok-add.ensures c.in_ok-add-2.ensures c.loop-index.invariant

pub returns : goal.returns
returns c =
    hold_all c.args.net.now.nodes c.args.net.now.arcs.items c.loop-index.index c.loop-index.incidence.arcs_at.items
    (omega (arith, c.len-index-end.ensures, c.args.net.now.arcs.ok.0, c.loop-index-test.false)) c.loop-index.invariant
