use Rattle.std.proofs.Common.{◌≡◌, ◌≤◌, ◌+◌, ◌++◌, drop}
use Rattle.ir_types.specs.Rules.{blocks_problem}
use Rattle.ir_types.specs.ModuleOf.{blocks_from, variables_from}
use Rattle.ir_check.specs.Room.{blocks_size}
use Rattle.ir_check.proofs.blocks.blocks.Given as goal

abbrev pub invariant-loop-each : goal.invariant-loop-each
invariant-loop-each l = record {
  problem : blocks_problem l.context l.reached (drop l.each-index l.blocks) ≡ blocks_problem l.context l.fn.reached l.blocks;
  variables : l.variables.items ++ variables_from l.reached (drop l.each-index l.blocks) ≡ l.fn.variables.items ++ variables_from l.fn.reached l.blocks;
  blocks : l.made.items ++ blocks_from l.context l.reached (drop l.each-index l.blocks) ≡ blocks_from l.context l.fn.reached l.blocks;
  room : l.reached.block + l.reached.variables + blocks_size (drop l.each-index l.blocks) ≤ l.fn.reached.block + l.fn.reached.variables + blocks_size l.blocks;
}
