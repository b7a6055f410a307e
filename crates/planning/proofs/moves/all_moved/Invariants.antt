use Rattle.planning.specs.Moving.{IsMoved}
use Rattle.planning.proofs.moves.all_moved.Given as goal

abbrev pub invariant-loop-x : goal.invariant-loop-x
invariant-loop-x l = IsMoved l.function l.points l.table l.placements l.x l.moved
