use Rattle.std.proofs.Common.{◌≡◌, drop}
use Rattle.interp.specs.Main.{main_from}
use Rattle.interp.proofs.starts.main_of.Given as goal

abbrev pub invariant-loop-number : goal.invariant-loop-number
invariant-loop-number l = record {
  left : main_from 0 l.program.functions ≡ main_from l.number (drop l.number l.program.functions);
  items : l.function-items ≡ l.program.functions;
}
