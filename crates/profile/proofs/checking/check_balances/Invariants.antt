use Rattle.std.proofs.Common.{◌≡◌}
use Rattle.profile.specs.Counts.{IsBalanced}
use Rattle.profile.proofs.Walks.{Walking}
use Rattle.profile.proofs.checking.check_balances.Given as goal

abbrev pub invariant-loop-function : goal.invariant-loop-function
invariant-loop-function l = record {
  functions : l.function-items ≡ l.program.functions;
  walking : Walking IsBalanced l.function-items l.counts l.function-index l.number;
}
