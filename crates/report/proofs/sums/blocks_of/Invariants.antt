use Rattle.std.proofs.Common.{◌≡◌, ◌≤◌, ◌*◌, ◌-◌, ◌^◌, take}
use Rattle.report.specs.Report.{blocks_of}
use Rattle.report.proofs.sums.blocks_of.Given as goal

abbrev pub invariant-loop-function : goal.invariant-loop-function
invariant-loop-function l = record {
  sum : l.blocks ≡ blocks_of (take l.function-index l.functions);
  small : l.blocks ≤ l.function-index * (2 ^ 64 - 1);
}
