use Rattle.std.proofs.Common.{◌≡◌, ◌++◌, drop, length}
use Rattle.applied.specs.Applied.{arg_operands}
use Rattle.block_text.specs.ByChanges.{loads}
use Rattle.block_text.proofs.grouping.push_operands.Given as goal

abbrev pub invariant-loop-index : goal.invariant-loop-index
invariant-loop-index l = record {
  loads : l.instrs.items ++ loads l.prefix l.x l.p l.index (drop l.index l.args) ≡ l.initial.instrs.items ++ loads l.prefix l.x l.p 0 l.args;
  operands : l.operands ++ arg_operands (length l.instrs.items) (drop l.index l.args) ≡ arg_operands (length l.initial.instrs.items) l.args;
}
