-- A part of a network whose maximum flows are flows of the whole.
use Rattle.std.specs.Prelude.{◌≡◌, ◌<◌, ◌≤◌, ◌+◌, ◌*◌, ℕ, List, All, filter, length}
use Rattle.std.specs.List.{range_with_len}
use Rattle.std.specs.List.Sorted.{IsStrictlyIncreasing}
use Rattle.flow_net.specs.declared.Net.{Net}
use Rattle.flow_net.specs.declared.Flow.{Flow}
use Rattle.flow_net.specs.Network.{IsMaximum}
use Rattle.local_sets.specs.declared.flags.Reach.{Reach}
use Rattle.reduction.specs.declared.reducing.Reduced.{Reduced}
use Rattle.reduction.specs.Reduced.{is_needed}
use Rattle.reduced_flows.specs.Flows.{IsSpread}

-- each arc of the part has its number in the whole, and a maximum flow of the part, with nothing on the other arcs, is one of the whole
pub record IsPartOf (whole : Net) (part : Reduced) : Type 0 where
  pub nodes : part.net.nodes ≤ whole.nodes
  pub named : length part.arc_of.items ≡ length part.net.arcs.items
  pub ascending : IsStrictlyIncreasing part.arc_of.items
  pub within : All (λ k. k < length whole.arcs.items) part.arc_of.items
  pub maximum : (small flow : Flow) → IsMaximum part.net small → IsSpread (length whole.arcs.items) part.arc_of.items small.amounts.items flow.amounts.items → IsMaximum whole flow

-- how many nodes of the network of these blocks are needed
abbrev pub needed_nodes : Reach → List ℕ → ℕ
needed_nodes reach blocks = length (filter (is_needed reach) (range_with_len 0 (2 + 2 * length blocks)))
