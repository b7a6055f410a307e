use Rattle.flow_graph.specs.Paths.{is_marked}
use Rattle.profile.proofs.Balancing.{Comparing}
use Rattle.profile.proofs.sums.first_difference.Given as goal

abbrev pub invariant-loop-index : goal.invariant-loop-index
invariant-loop-index l = Comparing l.function l.counts (is_marked l.reached) l.sums l.blocks l.rest l.index
