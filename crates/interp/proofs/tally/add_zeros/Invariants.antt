use Rattle.std.proofs.Common.{◌≡◌, ◌++◌, replicate}
use Rattle.interp.proofs.tally.add_zeros.Given as goal

abbrev pub invariant-loop : goal.invariant-loop
invariant-loop l = l.slots ≡ l.fn.slots ++ replicate l.counter 0
