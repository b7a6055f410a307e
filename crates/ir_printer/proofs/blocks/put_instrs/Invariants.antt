use Rattle.std.proofs.Common.{◌≡◌, ◌++◌, take}
use Rattle.std.specs.List.{flat_map}
use Rattle.ir_printer.specs.Text.{instr_line}
use Rattle.ir_printer.proofs.blocks.put_instrs.Given as goal

abbrev pub invariant-loop-instr : goal.invariant-loop-instr
invariant-loop-instr l = l.out.written ≡ l.fn.out.written ++ flat_map (instr_line l.program l.function l.block) (take l.instr-index l.instr-items)
