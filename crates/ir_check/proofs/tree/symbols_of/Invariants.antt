use Rattle.std.proofs.Common.{◌≡◌, ◌≤◌, length, drop}
use Rattle.ir_types.specs.Order.{items_in_order, merged}
use Rattle.ir_types.specs.Rules.{after_items, at_top}
use Rattle.ir_check.proofs.tree.symbols_of.Given as goal

abbrev pub invariant-loop-part : goal.invariant-loop-part
invariant-loop-part l = record {
  after : after_items l.passed (merged (drop l.passed.globals l.raw.globals) (drop l.passed.functions l.raw.functions)) ≡ after_items at_top (items_in_order l.raw);
  globals : l.passed.globals ≤ length l.raw.globals;
  functions : l.passed.functions ≤ length l.raw.functions;
}

abbrev pub decreases-loop-part : goal.decreases-loop-part
decreases-loop-part l = length (merged (drop l.passed.globals l.raw.globals) (drop l.passed.functions l.raw.functions))
