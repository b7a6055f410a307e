use Rattle.std.proofs.Common.{◌≡◌, ◌≤◌, ◌++◌, length, map, drop}
use Rattle.ir_types.specs.Order.{items_in_order, merged}
use Rattle.ir_types.specs.Rules.{at_top, items_problem}
use Rattle.ir_types.specs.ModuleOf.{function_of, global_of}
use Rattle.ir_check.proofs.tree.checked_parts.Given as goal

abbrev pub invariant-loop-each : goal.invariant-loop-each
invariant-loop-each l = record {
  problem : items_problem l.raw.functions l.symbols l.passed (merged (drop l.passed.globals l.raw.globals) (drop l.passed.functions l.raw.functions)) ≡ items_problem l.raw.functions l.symbols at_top (items_in_order l.raw);
  made_globals : l.parts.globals ++ map global_of (drop l.passed.globals l.raw.globals) ≡ map global_of l.raw.globals;
  made_functions : l.parts.functions ++ map (function_of l.raw.functions l.symbols) (drop l.passed.functions l.raw.functions) ≡ map (function_of l.raw.functions l.symbols) l.raw.functions;
  globals : l.passed.globals ≤ length l.raw.globals;
  functions : l.passed.functions ≤ length l.raw.functions;
}

abbrev pub decreases-loop-each : goal.decreases-loop-each
decreases-loop-each l = length (merged (drop l.passed.globals l.raw.globals) (drop l.passed.functions l.raw.functions))
