use Rattle.std.proofs.Common.{◌≡◌, ◌++◌, length, drop}
use Rattle.applied.specs.Applied.{Plan}
use Rattle.applied.specs.Built.{layout_of, new_blocks}
use Rattle.changes.specs.Changed.{AreChanges}
use Rattle.function_text.proofs.function.new_blocks.Given as goal

abbrev pub invariant-loop-index : goal.invariant-loop-index
invariant-loop-index l = (plan : Plan) → AreChanges plan l.table.exprs l.changes →
    l.blocks.items ++ new_blocks plan.naming plan.moves (length l.function.vars) (layout_of plan.moves l.function.blocks) l.index (drop l.index l.function.blocks)
    ≡ new_blocks plan.naming plan.moves (length l.function.vars) (layout_of plan.moves l.function.blocks) 0 l.function.blocks
