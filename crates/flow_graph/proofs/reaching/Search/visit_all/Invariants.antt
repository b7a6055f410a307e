use Rattle.flow_graph.specs.Searching.{Searching, work}
use Rattle.flow_graph.proofs.reaching.Search.visit_all.Given as goal

abbrev pub invariant-loop-block : goal.invariant-loop-block
invariant-loop-block l = Searching l.function l.self

abbrev pub decreases-loop-block : goal.decreases-loop-block
decreases-loop-block l = work l.self
