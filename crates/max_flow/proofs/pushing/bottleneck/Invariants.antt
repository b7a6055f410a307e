use Rattle.std.proofs.Common.{ℕ, ◌<◌, ◌≤◌, get_or}
use Rattle.max_flow.specs.declared.pushing.Step.{Step}
use Rattle.max_flow.specs.Path.{room_of}
use Rattle.max_flow.proofs.pushing.bottleneck.Given as goal

abbrev pub invariant-loop-step : goal.invariant-loop-step
invariant-loop-step l = record {
  some : 0 < l.least;
  least : (k : ℕ) (d : Step) → k < l.step-index → l.least ≤ room_of l.net.arcs.items l.flow.amounts.items (get_or l.path k d);
}
