use Rattle.opt_rows.proofs.Checks.{each_placed}
use Rattle.opt_rows.proofs.checking.checked_apply.Goals as goal

pub apply-requires-clause-placed : goal.apply-requires-clause-placed
apply-requires-clause-placed c =
    rw c.deref.ensures.value (each_placed c.args.program.now c.in-Some.placed.items (rw c.in-Some.is at c.in_ok-placed.ensures))
