use Rattle.std.proofs.Common.{length}
use Rattle.lazy_motion.specs.Steps.{event_at}
use Rattle.lazy_motion.proofs.MotionBits.{undelayed_are}
use Rattle.lazy_motion.proofs.delayed.undelayed_points.Goals as goal

pub returns-clause-bits : goal.returns-clause-bits
returns-clause-bits c =
    undelayed_are c.args.arcs.now (event_at c.args.events.now) (length c.args.events.now) c.args.delayed.now c.requires.delayed
    c.in_ok-start.start.items c.end_delays.result.items c.in_ok-start.ensures.bits c.end_delays.ensures.bits
