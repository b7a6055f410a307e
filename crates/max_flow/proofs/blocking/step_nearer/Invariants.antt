use Rattle.std.proofs.Common.{◌≡◌, ℕ, ◌<◌, get_or, length}
use Rattle.flow_net.specs.Network.{loads}
use Rattle.flow_net.specs.Incidence.{arcs_in}
use Rattle.max_flow.specs.Path.{LeadsNowhere}
use Rattle.max_flow.specs.Marking.{ArePassed}
use Rattle.max_flow.proofs.blocking.step_nearer.Given as goal

abbrev pub invariant-loop-place : goal.invariant-loop-place
invariant-loop-place l = record {
  dead : l.marks.dead ≡ l.fn.marks.dead;
  passed : ArePassed l.net.nodes (loads l.net l.flow) l.found l.incidence l.marks;
  here : (k : ℕ) → k < l.place → k < length (arcs_in l.incidence.arcs_at.items l.node) → LeadsNowhere (loads l.net l.flow) l.found l.marks.dead.items l.node (get_or (arcs_in l.incidence.arcs_at.items l.node) k 0);
}
