use Rattle.std.proofs.Common.{◌≡◌, ◌++◌, length, drop}
use Rattle.flow_graph.specs.Slots.{slots_of}
use Rattle.applied.specs.Applied.{Plan, is_single}
use Rattle.applied.specs.Built.{layout_of, split_blocks, splits_from}
use Rattle.changes.specs.Changed.{AreChanges}
use Rattle.function_text.proofs.splits.push_splits.Given as goal

abbrev pub invariant-loop-slot : goal.invariant-loop-slot
invariant-loop-slot l = (plan : Plan) → AreChanges plan l.table.exprs l.changes →
    l.blocks.items ++ splits_from plan.naming plan.moves (length l.function.vars) (layout_of plan.moves l.function.blocks) l.number (is_single l.term) l.slot (drop l.slot (slots_of l.term))
    ≡ l.initial.blocks.items ++ split_blocks plan.naming plan.moves (length l.function.vars) (layout_of plan.moves l.function.blocks) l.number l.term
