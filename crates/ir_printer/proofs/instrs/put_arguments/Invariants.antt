use Rattle.std.proofs.Common.{◌≡◌, ◌++◌, codes, drop, ◌==◌}
use Rattle.ir_printer.specs.Text.{separated, listed, arguments_texts}
use Rattle.ir_printer.proofs.instrs.put_arguments.Given as goal

abbrev pub invariant-loop-index : goal.invariant-loop-index
invariant-loop-index l = l.out.written ++ separated (codes ", ") (l.index == 0) (arguments_texts l.function l.block (drop l.index l.params) (drop l.index l.arguments)) ≡ l.fn.out.written ++ listed (arguments_texts l.function l.block l.params l.arguments)
