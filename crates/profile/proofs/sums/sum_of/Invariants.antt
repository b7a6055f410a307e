use Rattle.std.proofs.Common.{◌≡◌, ◌≤◌, ◌*◌, take, sum}
use Rattle.profile.proofs.sums.sum_of.Given as goal

abbrev pub invariant-loop-count : goal.invariant-loop-count
invariant-loop-count l = record {
  is : l.sum ≡ sum (take l.count-index l.counts);
  small : l.sum ≤ 18446744073709551615 * l.count-index;
}
