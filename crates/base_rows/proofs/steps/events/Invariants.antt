use Rattle.std.proofs.Common.{◌≡◌, false}
use Rattle.base_rows.proofs.steps.events.Given as goal

abbrev pub invariant-loop : goal.invariant-loop
invariant-loop l = (l.machine.waits ≡ false) × (l.machine.ended ≡ false)
