use Rattle.std.proofs.Common.{◌≡◌, ◌++◌, take}
use Rattle.std.specs.List.{flat_map}
use Rattle.ir_printer.specs.Text.{global_line}
use Rattle.ir_printer.proofs.printing.put_globals.Given as goal

abbrev pub invariant-loop-global : goal.invariant-loop-global
invariant-loop-global l = l.out.written ≡ l.fn.out.written ++ flat_map global_line (take l.global-index l.globals)
