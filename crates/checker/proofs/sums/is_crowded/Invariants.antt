use Rattle.std.proofs.Common.{◌≡◌, ◌+◌, ◌-◌, ◌^◌, take, sum_by}
use Rattle.checker.proofs.Inserting.{inserted_by}
use Rattle.checker.proofs.sums.is_crowded.Given as goal

abbrev pub invariant-loop-entry : goal.invariant-loop-entry
invariant-loop-entry l = l.left + sum_by inserted_by (take l.entry-index l.entries) ≡ 2 ^ 28 - 1
