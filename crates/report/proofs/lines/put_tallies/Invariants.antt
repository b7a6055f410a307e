use Rattle.std.proofs.Common.{◌≡◌, ◌++◌, drop}
use Rattle.report.specs.Report.{tally_lines}
use Rattle.report.proofs.lines.put_tallies.Given as goal

-- what is put and what is left to put are the whole
abbrev pub invariant-loop-number : goal.invariant-loop-number
invariant-loop-number l = l.text.written ++ tally_lines l.program l.function l.number (drop l.number l.tallies) ≡ l.fn.text.written ++ tally_lines l.program l.function 0 l.tallies
