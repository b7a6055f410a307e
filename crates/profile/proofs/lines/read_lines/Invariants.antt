use Rattle.std.proofs.Common.{length}
use Rattle.profile.proofs.Runs.{LinesSoFar}
use Rattle.profile.proofs.lines.read_lines.Given as goal

abbrev pub invariant-loop-rest : goal.invariant-loop-rest
invariant-loop-rest l = LinesSoFar l.bytes l.lines l.rest

abbrev pub decreases-loop-rest : goal.decreases-loop-rest
decreases-loop-rest l = length l.rest
