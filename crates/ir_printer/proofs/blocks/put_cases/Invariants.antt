use Rattle.std.proofs.Common.{◌≡◌, ◌++◌, take}
use Rattle.std.specs.List.{flat_map}
use Rattle.ir_printer.specs.Text.{case_text}
use Rattle.ir_printer.proofs.blocks.put_cases.Given as goal

abbrev pub invariant-loop-case : goal.invariant-loop-case
invariant-loop-case l = l.out.written ≡ l.fn.out.written ++ flat_map (case_text l.function l.width) (take l.case-index l.cases)
