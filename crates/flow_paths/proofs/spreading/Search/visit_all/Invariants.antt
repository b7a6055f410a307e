use Rattle.flow_paths.specs.Searching.{Searching, work}
use Rattle.flow_paths.proofs.spreading.Search.visit_all.Given as goal

abbrev pub invariant-loop-point : goal.invariant-loop-point
invariant-loop-point l = Searching l.arcs l.passes l.fn.self.bits.items l.self

abbrev pub decreases-loop-point : goal.decreases-loop-point
decreases-loop-point l = work l.self
