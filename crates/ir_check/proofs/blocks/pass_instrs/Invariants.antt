use Rattle.std.proofs.Common.{◌≡◌, ◌+◌, drop}
use Rattle.ir_types.specs.Rules.{after_instrs}
use Rattle.ir_check.proofs.blocks.pass_instrs.Given as goal

abbrev pub invariant-loop-instr : goal.invariant-loop-instr
invariant-loop-instr l = record {
  after : after_instrs l.reached (drop l.instr-index l.instrs) ≡ after_instrs l.fn.reached l.instrs;
  count : l.reached.variables + l.reached.instrs ≡ l.fn.reached.variables + l.fn.reached.instrs + l.instr-index;
}
