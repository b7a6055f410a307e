use Rattle.std.proofs.Common.{arith, ap, refl, subst, length, ◌≡◌, ◌≤◌}
use Rattle.flow_net.specs.Network.{loads}
use Rattle.flow_net.specs.Incidence.{arcs_in}
use Rattle.flow_net.proofs.Visits.{arcs_in_read}
use Rattle.max_flow.specs.Path.{IsStuck}
use Rattle.max_flow.proofs.Passed.{stuck_at_end}
use Rattle.max_flow.proofs.blocking.step_nearer.Goals as goal

pub returns-clause-none : goal.returns-clause-none
returns-clause-none c =
    let net = c.args.net.now in
    let lists = c.args.incidence.now.arcs_at.items in
    let inv = c.loop-place.invariant in
    let around = c.index-around.result.now in
    let same : arcs_in c.args.incidence.now.arcs_at.items c.args.node ≡ c.index-around.result.now.items =
    arcs_in_read lists c.args.node around (omega (arith, c.requires.node, c.requires.incidence.len)) c.index-around.ensures in
    let all : length (arcs_in c.args.incidence.now.arcs_at.items c.args.node) ≤ c.loop-place.place =
    omega (arith, ap length same, c.len-place-end.ensures, c.index-around.result.now.ok.0, c.loop-place-test.false) in
    subst (λ dead. IsStuck (loads c.args.net.now c.args.flow.now) c.args.found.now dead.items c.args.node) inv.dead
    (stuck_at_end net c.args.flow.now c.args.incidence.now c.requires.within c.requires.incidence c.args.found.now c.loop-place.marks.dead.items c.args.node c.loop-place.place (arcs_in lists c.args.node) refl all inv.here)
