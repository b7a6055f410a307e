use Rattle.reduction.specs.Reduced.{AreNumbers}
use Rattle.reduction.proofs.reducing.needed_nodes.Given as goal

abbrev pub invariant-loop-node : goal.invariant-loop-node
invariant-loop-node l = AreNumbers l.reach l.node l.kept.items l.numbers.items
