use Rattle.std.proofs.Common.{◌≡◌, take}
use Rattle.tallies.proofs.tally.copied.Given as goal

abbrev pub invariant-loop-arg : goal.invariant-loop-arg
invariant-loop-arg l = l.args ≡ take l.arg-index l.expr.args
