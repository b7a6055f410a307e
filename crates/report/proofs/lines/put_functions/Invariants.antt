use Rattle.std.proofs.Common.{◌≡◌, ◌++◌, ◌≤◌, drop, length}
use Rattle.std.specs.Prelude.{filter}
use Rattle.profile.specs.Counts.{is_defined}
use Rattle.report.specs.Report.{functions_lines}
use Rattle.report.proofs.lines.put_functions.Given as goal

-- what is put and what is left to put are the whole
abbrev pub invariant-loop-function : goal.invariant-loop-function
invariant-loop-function l = record {
  within : l.place ≤ length l.tallies;
  count : length (drop l.place l.tallies) ≡ length (filter is_defined (drop l.function-index l.functions));
  whole : l.text.written ++ functions_lines l.program (filter is_defined (drop l.function-index l.functions)) (drop l.place l.tallies) ≡ l.fn.text.written ++ functions_lines l.program (filter is_defined l.functions) l.tallies;
}
