use Rattle.flow_paths.specs.Marks.{mark_at}
use Rattle.flow_paths.proofs.Validity.{Sorted}
use Rattle.flow_paths.proofs.stretches.begin_invalid.Given as goal

abbrev pub invariant-loop-arc : goal.invariant-loop-arc
invariant-loop-arc l = Sorted (mark_at l.at_point l.at_edge) l.arcs l.reached l.initial.seeds l.passes l.seeds l.arc
