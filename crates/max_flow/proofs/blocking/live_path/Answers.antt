use Rattle.std.proofs.Common.{arith, ◌≡◌, ◌∙◌, ◌+◌, ◌-◌, ◌<◌, ◌≤◌, true, false, ap, sym, subst, refl, [], ◌∷◌, ◌++◌, take, set, get_or, not, count_by, length}
use Rattle.std.proofs.lemmas.List.Elements.{All-push, All-same}
use Rattle.std.proofs.lemmas.List.{take_more_set}
use Rattle.flow_net.specs.Network.{loads}
use Rattle.flow_net.specs.Levels.{is_reached, distance_of}
use Rattle.flow_net.proofs.Visits.{reached_inside}
use Rattle.max_flow.specs.Path.{AreDead, HasRoom, start_of, is_dead}
use Rattle.max_flow.proofs.Carry.{arcs_in_net}
use Rattle.max_flow.proofs.Passed.{passed_dead}
use Rattle.max_flow.proofs.Phases.{dead_set}
use Rattle.max_flow.specs.declared.pushing.Step.{Step}
use Rattle.max_flow.proofs.Trail.{IsTrail, trail_push, trail_path, trail_steps, steps_back, room_back}
use Rattle.max_flow.proofs.blocking.live_path.Goals as goal

pub bounds-path-steps : goal.bounds-path-steps
bounds-path-steps c =
    let inv = c.loop-node.invariant in
    let depth : distance_of c.args.found.now 0 ≡ distance_of c.args.found.now c.loop-node.node + c.loop-node.steps =
    trail_steps c.args.net.now.arcs.items c.args.found.now c.loop-node.marks.dead.items c.loop-node.path c.loop-node.steps 0 c.loop-node.node (omega (arith, inv.fits, c.loop-node.auto.path, c.requires.path)) inv.trail in
    omega (arith, c.requires.small 0, c.in-Some.ensures.step.nearer.1, c.loop-node.auto.path, c.requires.path)

pub loop-node-smaller-in-Some : goal.loop-node-smaller-in-Some
loop-node-smaller-in-Some c =
    let inv = c.loop-node.invariant in
    let depth : distance_of c.args.found.now 0 ≡ distance_of c.args.found.now c.loop-node.node + c.loop-node.steps =
    trail_steps c.args.net.now.arcs.items c.args.found.now c.loop-node.marks.dead.items c.loop-node.path c.loop-node.steps 0 c.loop-node.node (omega (arith, inv.fits, c.loop-node.auto.path, c.requires.path)) inv.trail in
    let same : count_by not c.step_nearer.new.marks.dead.items ≡ count_by not c.loop-node.marks.dead.items = ap (λ d. count_by not d.items) c.in-Some.ensures.dead in
    omega (arith, c.requires.small 0, c.in-Some.ensures.step.nearer.1)

pub loop-node-preserved-in-Some : goal.loop-node-preserved-in-Some
loop-node-preserved-in-Some c =
    let arcs = c.args.net.now.arcs.items in
    let found = c.args.found.now in
    let inv = c.loop-node.invariant in
    let steps = c.loop-node.steps in
    let path = c.loop-node.path in
    let step = c.in-Some.ensures.step in
    let fits : c.loop-node.steps ≤ length c.loop-node.path = omega (arith, inv.fits, c.loop-node.auto.path, c.requires.path) in
    let depth : distance_of c.args.found.now 0 ≡ distance_of c.args.found.now c.loop-node.node + c.loop-node.steps =
    trail_steps arcs found c.loop-node.marks.dead.items path steps 0 c.loop-node.node fits inv.trail in
    let small : distance_of c.args.found.now 0 < c.args.net.now.nodes = c.requires.small 0 in
    let items = take_more_set path steps c.in-Some.step (omega (arith, step.nearer.1, c.loop-node.auto.path, c.requires.path)) in
    let same : c.step_nearer.new.marks.dead.items ≡ c.loop-node.marks.dead.items = ap (λ d. d.items) c.in-Some.ensures.dead in
    let there = ap (is_reached found) c.end-node.ensures ∙ step.nearer.0 in
    record {
      inside = omega (arith, reached_inside found c.end-node.result there, c.requires.levels.reached_len);
      alive = ap (λ d. is_dead d c.end-node.result) same ∙ ap (is_dead c.loop-node.marks.dead.items) c.end-node.ensures ∙ c.in-Some.ensures.alive;
      dead = subst (λ d. AreDead c.args.net.now.nodes (loads c.args.net.now c.args.flow.now) found d) (sym same) inv.dead;
      passed = c.in-Some.ensures.passed;
      fits = omega (arith, step.nearer.1);
      trail = subst (λ d. IsTrail arcs found d 0 (take (steps + 1) (set path steps c.in-Some.step)) c.end-node.result) (sym same)
          (subst (λ xs. IsTrail arcs found c.loop-node.marks.dead.items 0 xs c.end-node.result) (sym items)
          (subst (λ w. IsTrail arcs found c.loop-node.marks.dead.items 0 (take steps path ++ c.in-Some.step ∷ []) w) (sym c.end-node.ensures)
          (trail_push arcs found c.loop-node.marks.dead.items (take steps path) 0 c.loop-node.node c.in-Some.step inv.trail inv.alive step)));
      room = All-same (HasRoom arcs c.args.flow.now.amounts.items) (take (steps + 1) (set path steps c.in-Some.step)) (take steps path ++ c.in-Some.step ∷ []) items
          (All-push (HasRoom arcs c.args.flow.now.amounts.items) (take steps path) c.in-Some.step inv.room c.in-Some.ensures.room);
    }

abbrev no_step : Step
no_step = record { arc = 0; forward = false }

pub start-node-requires : goal.start-node-requires
start-node-requires c =
    let inv = c.loop-node.invariant in
    let path = c.loop-node.path in
    let n = c.loop-node.steps - 1 in
    let fits : c.loop-node.steps ≤ length c.loop-node.path = omega (arith, inv.fits, c.loop-node.auto.path, c.requires.path) in
    (steps_back c.args.net.now.nodes c.args.net.now.arcs.items c.args.found.now c.loop-node.marks.dead.items path n c.loop-node.steps c.loop-node.node no_step
    (arcs_in_net c.args.net.now c.requires.valid) (omega (arith, c.if-steps-eq0.false)) fits inv.trail).step.inside

pub loop-node-preserved : goal.loop-node-preserved
loop-node-preserved c =
    let net = c.args.net.now in
    let arcs = c.args.net.now.arcs.items in
    let found = c.args.found.now in
    let ls = loads c.args.net.now c.args.flow.now in
    let inv = c.loop-node.invariant in
    let path = c.loop-node.path in
    let node = c.loop-node.node in
    let fits : c.loop-node.steps ≤ length c.loop-node.path = omega (arith, inv.fits, c.loop-node.auto.path, c.requires.path) in
    let same : c.step_nearer.new.marks.dead.items ≡ c.loop-node.marks.dead.items = ap (λ d. d.items) c.in_default.ensures.dead in
    let back = steps_back net.nodes arcs found c.loop-node.marks.dead.items path (c.loop-node.steps - 1) c.loop-node.steps node no_step
    (arcs_in_net net c.requires.valid) (omega (arith, c.if-steps-eq0.false)) fits inv.trail in
    let at : c.start-node.result ≡ start_of arcs (get_or path (c.loop-node.steps - 1) no_step) = c.start-node.ensures in
    let here : c.loop-node.node < length c.step_nearer.new.marks.dead.items = omega (arith, ap length same, inv.dead.len, inv.inside) in
    record {
      inside = subst (λ v. v < net.nodes) (sym at) back.inside;
      alive = ap (λ d. is_dead (set d node true) c.start-node.result) same ∙ ap (is_dead (set c.loop-node.marks.dead.items node true)) at ∙ back.alive;
      dead = subst (λ d. AreDead net.nodes ls found (set d node true)) (sym same)
          (dead_set net.nodes ls found c.loop-node.marks.dead.items node inv.inside c.loop-node-test.true c.in_default.ensures.none inv.dead);
      passed = passed_dead net.nodes ls found c.args.incidence.now c.step_nearer.new.marks _ node here refl refl c.in_default.ensures.passed;
      fits = omega (arith, inv.fits);
      trail = subst (λ d. IsTrail arcs found (set d node true) 0 (take (c.loop-node.steps - 1) path) c.start-node.result) (sym same)
          (subst (λ w. IsTrail arcs found (set c.loop-node.marks.dead.items node true) 0 (take (c.loop-node.steps - 1) path) w) (sym at) back.trail);
      room = room_back path (HasRoom arcs c.args.flow.now.amounts.items) (c.loop-node.steps - 1) c.loop-node.steps (omega arith) inv.room;
    }

pub returns-then-steps-eq0-clause-dead : goal.returns-then-steps-eq0-clause-dead
returns-then-steps-eq0-clause-dead c =
    let inv = c.loop-node.invariant in
    let same : c.step_nearer.new.marks.dead.items ≡ c.loop-node.marks.dead.items = ap (λ d. d.items) c.in_default.ensures.dead in
    subst (λ d. AreDead c.args.net.now.nodes (loads c.args.net.now c.args.flow.now) c.args.found.now (set d c.loop-node.node true)) (sym same)
    (dead_set c.args.net.now.nodes (loads c.args.net.now c.args.flow.now) c.args.found.now c.loop-node.marks.dead.items c.loop-node.node inv.inside c.loop-node-test.true c.in_default.ensures.none inv.dead)

pub returns-clause-path : goal.returns-clause-path
returns-clause-path c =
    let inv = c.loop-node.invariant in
    (trail_path c.args.net.now.arcs.items c.args.found.now c.loop-node.marks.dead.items (take c.loop-node.steps c.loop-node.path) 0 c.loop-node.node inv.trail c.loop-node-test.false, inv.room)
