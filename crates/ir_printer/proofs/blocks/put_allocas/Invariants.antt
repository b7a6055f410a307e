use Rattle.std.proofs.Common.{◌≡◌, ◌++◌, take}
use Rattle.std.specs.List.{flat_map}
use Rattle.ir_printer.specs.Text.{alloca_line}
use Rattle.ir_printer.proofs.blocks.put_allocas.Given as goal

abbrev pub invariant-loop-variable : goal.invariant-loop-variable
invariant-loop-variable l = l.out.written ≡ l.fn.out.written ++ flat_map alloca_line (take l.variable-index l.variables)
