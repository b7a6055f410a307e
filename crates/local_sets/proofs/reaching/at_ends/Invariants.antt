use Rattle.std.proofs.Common.{◌≡◌, ◌++◌, drop}
use Rattle.local_sets.specs.Heads.{bits_at_ends}
use Rattle.local_sets.proofs.reaching.at_ends.Given as goal

abbrev pub invariant-loop-number : goal.invariant-loop-number
invariant-loop-number l = l.flags.items ++ bits_at_ends (drop l.number l.points) (drop l.number l.bits) ≡ bits_at_ends l.points l.bits
