use Rattle.std.specs.Prelude.{ℕ, List}
use Rattle.flow_net.specs.declared.Arc.{Arc}
use Rattle.flow_net.specs.declared.Net.{Net}

-- the network that a room was made for
pub record NetOfRoom : Type 0 where
  pub nodes : ℕ
  pub arcs : List Arc

-- the network as a room shows it
abbrev pub view_of : Net → NetOfRoom
view_of net = record { nodes = net.nodes; arcs = net.arcs.items }
