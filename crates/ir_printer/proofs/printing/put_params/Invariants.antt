use Rattle.std.proofs.Common.{◌≡◌, ◌++◌, codes, map, drop, ◌==◌}
use Rattle.ir_printer.specs.Text.{separated, listed, param_text}
use Rattle.ir_printer.proofs.printing.put_params.Given as goal

abbrev pub invariant-loop-index : goal.invariant-loop-index
invariant-loop-index l = l.out.written ++ separated (codes ", ") (l.index == 0) (map param_text (drop l.index l.params)) ≡ l.fn.out.written ++ listed (map param_text l.params)
