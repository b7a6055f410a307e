use Rattle.std.proofs.Common.{subst, arith}
use Rattle.local_sets.specs.Counting.{AreFree}
use Rattle.local_sets.proofs.counting.free_points.Goals as goal

pub returns : goal.returns
returns c = subst (λ n. AreFree c.args.events.now n c.loop-point.bits.items) (omega (arith, c.loop-point-test.false, c.loop-point.auto.point-end)) c.loop-point.invariant
