use Rattle.std.proofs.Common.{arith, ◌∙◌, ◌+◌, refl}
use Rattle.flow_net.specs.Network.{loads}
use Rattle.max_flow.proofs.Phases.{source_far}
use Rattle.max_flow.proofs.max_flow.Goals as goal

pub loop-round-init : goal.loop-round-init
loop-round-init g c = record {
  ticks = omega arith;
  room = c.in_ok-room.ensures;
  within = c.in_ok-flow.ensures.within;
  balanced = c.in_ok-flow.ensures.balanced;
  rounds = omega (arith, c.requires.valid.nodes);
  far = source_far (loads c.args.net.now c.in_ok-flow.flow);
}

pub loop-round-preserved : goal.loop-round-preserved
loop-round-preserved g c =
    let inv = c.loop-round.invariant in
    let near = c.if-not-phase.ensures.near refl in
    record {
      ticks = omega (arith, c.phase.ensures.tick, inv.ticks);
      room = c.phase.ensures.room ∙ inv.room;
      within = c.phase.ensures.within;
      balanced = c.phase.ensures.balanced;
      rounds = omega (arith, inv.far near.0 near.2, near.1);
      far = λ n walk. c.if-not-phase.ensures.farther refl (c.loop-round._round + 1) (λ k before. omega (arith, inv.far k before)) n walk;
    }
