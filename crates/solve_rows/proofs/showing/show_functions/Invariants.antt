use Rattle.solve_rows.proofs.Counted.{AreLeft}
use Rattle.solve_rows.proofs.showing.show_functions.Given as goal

abbrev pub invariant-loop-function : goal.invariant-loop-function
invariant-loop-function l = AreLeft l.«module».functions l.function-index l.rest
