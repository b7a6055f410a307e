use Rattle.std.proofs.Common.{◌≡◌, ◌++◌, codes, map, drop, ◌==◌, ◌&&◌, not}
use Rattle.ir_printer.specs.Text.{separated, function_text}
use Rattle.ir_printer.proofs.printing.put_functions.Given as goal

abbrev pub invariant-loop-index : goal.invariant-loop-index
invariant-loop-index l = l.out.written ++ separated (codes "\n") (not l.has_globals && l.index == 0) (map (function_text l.program) (drop l.index l.functions)) ≡ l.fn.out.written ++ separated (codes "\n") (not l.has_globals) (map (function_text l.program) l.functions)
