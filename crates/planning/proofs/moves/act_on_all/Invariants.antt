use Rattle.std.proofs.Common.{take}
use Rattle.planning.specs.Moving.{ActsOn}
use Rattle.planning.proofs.moves.act_on_all.Given as goal

abbrev pub invariant-loop-point : goal.invariant-loop-point
invariant-loop-point l = ActsOn l.points l.marks (take l.point-index l.occurrences) l.temp l.initial.actions.items l.actions.items
