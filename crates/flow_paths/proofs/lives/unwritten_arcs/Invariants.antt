use Rattle.flow_paths.specs.Stretches.{AreUnwritten}
use Rattle.flow_paths.proofs.lives.unwritten_arcs.Given as goal

abbrev pub invariant-loop-arc : goal.invariant-loop-arc
invariant-loop-arc l = AreUnwritten l.arcs l.at_point l.at_edge l.arc l.passes.items
