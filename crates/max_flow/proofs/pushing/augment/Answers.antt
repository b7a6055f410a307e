use Rattle.std.proofs.Common.{arith, ◌≡◌, ◌≤◌, false, get_or, sym, subst}
use Rattle.max_flow.specs.declared.pushing.Step.{Step}
use Rattle.max_flow.specs.Path.{end_of, room_of}
use Rattle.max_flow.proofs.Carry.{Carrying, carry_first, carry_step, carry_within, carry_balanced, room_kept, arcs_in_net, path_next, path_end, farther}
use Rattle.max_flow.proofs.pushing.augment.Goals as goal

abbrev no_step : Step
no_step = record { arc = 0; forward = false }

pub loop-step-init : goal.loop-step-init
loop-step-init c = (
  0,
  carry_first c.args.net.now c.args.flow.now c.args.found.now c.bottleneck-amount.result c.requires.within c.requires.balanced,
  c.requires.path.0,
)

pub loop-step-preserved : goal.loop-step-preserved
loop-step-preserved c =
    let net = c.args.net.now in
    let arcs = net.arcs.items in
    let old = c.args.flow.now.amounts.items in
    let now = c.loop-step.flow.amounts.items in
    let found = c.args.found.now in
    let amount = c.bottleneck-amount.result in
    let steps = c.args.path.now in
    let i = c.loop-step.step-index in
    let inv = c.loop-step.invariant in
    let next = path_next arcs found steps i inv.0 no_step c.loop-step-test.true inv.2 in
    let least : amount ≤ room_of arcs old (get_or steps i no_step) = c.bottleneck-amount.ensures.least i no_step c.loop-step-test.true in
    let more = carry_step net.nodes arcs (arcs_in_net net c.requires.valid) old now found amount (get_or steps i no_step) inv.0 next.0 inv.1 least c.bottleneck-amount.ensures.some in (
      end_of arcs (get_or steps i no_step),
      subst (λ xs. Carrying net.nodes arcs old xs found amount (end_of arcs (get_or steps i no_step))) (sym c.push.ensures) more,
      next.1,
    )

pub push-requires-clause-within : goal.push-requires-clause-within
push-requires-clause-within c =
    carry_within c.args.net.now c.args.flow.now c.loop-step.flow c.args.found.now c.bottleneck-amount.result c.loop-step.invariant.0 c.loop-step.invariant.1

pub push-requires-clause-room : goal.push-requires-clause-room
push-requires-clause-room c =
    let net = c.args.net.now in
    let arcs = net.arcs.items in
    let old = c.args.flow.now.amounts.items in
    let now = c.loop-step.flow.amounts.items in
    let found = c.args.found.now in
    let amount = c.bottleneck-amount.result in
    let steps = c.args.path.now in
    let i = c.loop-step.step-index in
    let inv = c.loop-step.invariant in
    let next = path_next arcs found steps i inv.0 no_step c.loop-step-test.true inv.2 in
    let least : amount ≤ room_of arcs old (get_or steps i no_step) = c.bottleneck-amount.ensures.least i no_step c.loop-step-test.true in
    let kept : room_of arcs now (get_or steps i no_step) ≡ room_of arcs old (get_or steps i no_step) =
    room_kept net.nodes arcs (arcs_in_net net c.requires.valid) old now found amount (get_or steps i no_step) inv.0 next.0 inv.1 in
    omega arith

pub returns-clause-within : goal.returns-clause-within
returns-clause-within c =
    carry_within c.args.net.now c.args.flow.now c.loop-step.flow c.args.found.now c.bottleneck-amount.result c.loop-step.invariant.0 c.loop-step.invariant.1

pub returns-clause-farther : goal.returns-clause-farther
returns-clause-farther c =
    farther c.args.net.now c.args.flow.now c.loop-step.flow c.args.found.now c.bottleneck-amount.result c.loop-step.invariant.0 c.requires.within c.loop-step.invariant.1

pub returns-clause-balanced : goal.returns-clause-balanced
returns-clause-balanced c =
    let net = c.args.net.now in
    let inv = c.loop-step.invariant in
    let last : inv.0 ≡ 1 = path_end net.arcs.items c.args.found.now c.args.path.now c.loop-step.step-index inv.0 c.loop-step-test.false inv.2 in
    carry_balanced net.nodes net.arcs.items (arcs_in_net net c.requires.valid) c.args.flow.now.amounts.items c.loop-step.flow.amounts.items c.args.found.now c.bottleneck-amount.result
    (subst (λ v. Carrying net.nodes net.arcs.items c.args.flow.now.amounts.items c.loop-step.flow.amounts.items c.args.found.now c.bottleneck-amount.result v) last inv.1)

pub returns-clause-more : goal.returns-clause-more
returns-clause-more c =
    let net = c.args.net.now in
    let inv = c.loop-step.invariant in
    let last : inv.0 ≡ 1 = path_end net.arcs.items c.args.found.now c.args.path.now c.loop-step.step-index inv.0 c.loop-step-test.false inv.2 in
    let done = subst (λ v. Carrying net.nodes net.arcs.items c.args.flow.now.amounts.items c.loop-step.flow.amounts.items c.args.found.now c.bottleneck-amount.result v) last inv.1 in
    omega (arith, done.source, c.bottleneck-amount.ensures.some)
