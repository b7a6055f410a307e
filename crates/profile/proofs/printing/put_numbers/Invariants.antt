use Rattle.std.proofs.Common.{◌≡◌, ◌++◌, take}
use Rattle.profile.specs.Text.{spaced}
use Rattle.profile.proofs.printing.put_numbers.Given as goal

abbrev pub invariant-loop-number : goal.invariant-loop-number
invariant-loop-number l = l.out.items ≡ l.fn.out.items ++ spaced (take l.number-index l.numbers)
