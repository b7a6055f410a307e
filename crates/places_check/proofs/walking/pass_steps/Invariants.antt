use Rattle.std.proofs.Common.{ℕ, ◌≡◌, ◌+◌}
use Rattle.expressions.specs.declared.syntax.Event.{Event}
use Rattle.places_check.specs.Walked.{AreIts, GoesSteps}
use Rattle.places_check.proofs.walking.pass_steps.Given as goal

abbrev pub invariant-loop-step : goal.invariant-loop-step
invariant-loop-step l = (l.kept.next ≡ l.fn.kept.next + l._step)
    × ((event : ℕ → Event) (edge : ℕ) → AreIts l.expression event → GoesSteps event l.head edge l._step l.fn.kept l.kept l.before)
