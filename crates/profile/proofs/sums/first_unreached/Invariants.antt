use Rattle.flow_graph.specs.Paths.{is_marked}
use Rattle.profile.proofs.Balancing.{Looking}
use Rattle.profile.proofs.sums.first_unreached.Given as goal

abbrev pub invariant-loop-index : goal.invariant-loop-index
invariant-loop-index l = Looking l.function l.counts (is_marked l.reached) l.blocks l.rest l.index
