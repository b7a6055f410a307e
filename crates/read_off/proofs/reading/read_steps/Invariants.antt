use Rattle.read_off.specs.Bits.{event_at, ReadsSteps}
use Rattle.read_off.proofs.reading.read_steps.Given as goal

abbrev pub invariant-loop-step : goal.invariant-loop-step
invariant-loop-step l = ReadsSteps (event_at l.events) l.head l._step l.fn.inserted l.inserted l.fn.kept l.kept l.before
