use Rattle.std.proofs.Common.{◌≡◌, ◌++◌, codes, map, drop, ◌==◌}
use Rattle.ir_printer.specs.Text.{separated, listed, type_of_param}
use Rattle.ir_printer.proofs.printing.put_types.Given as goal

abbrev pub invariant-loop-index : goal.invariant-loop-index
invariant-loop-index l = l.out.written ++ separated (codes ", ") (l.index == 0) (map type_of_param (drop l.index l.params)) ≡ l.fn.out.written ++ listed (map type_of_param l.params)
