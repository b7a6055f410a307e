use Rattle.std.proofs.Common.{ℕ, ◌<◌, get_or}
use Rattle.flow_net.specs.declared.Arc.{Arc}
use Rattle.flow_net.specs.Network.{IsArcOf}
use Rattle.flow_net.proofs.validity.are_arcs_of.Given as goal

abbrev pub invariant-loop-arc : goal.invariant-loop-arc
invariant-loop-arc l = (k : ℕ) (a : Arc) → k < l.arc-index → IsArcOf l.nodes (get_or l.arcs k a)
