use Rattle.std.proofs.Common.{◌≡◌, ◌++◌, drop}
use Rattle.applied.specs.Applied.{Plan, temporaries}
use Rattle.changes.specs.Changed.{AreChanges}
use Rattle.function_text.proofs.function.new_vars.Given as goal

abbrev pub invariant-loop-x : goal.invariant-loop-x
invariant-loop-x l = (plan : Plan) → AreChanges plan l.table.exprs l.changes →
    l.vars ++ temporaries plan.naming (drop l.x-index plan.moves) ≡ l.function.vars ++ temporaries plan.naming plan.moves
