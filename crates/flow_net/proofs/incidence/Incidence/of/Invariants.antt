use Rattle.flow_net.specs.Incidence.{HoldFirst}
use Rattle.flow_net.proofs.incidence.Incidence.of.Given as goal

abbrev pub invariant-loop-index : goal.invariant-loop-index
invariant-loop-index l = HoldFirst l.net.nodes l.net.arcs.items l.index l.incidence.arcs_at.items
