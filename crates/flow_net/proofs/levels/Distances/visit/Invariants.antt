use Rattle.std.proofs.Common.{◌≡◌, ◌<◌, ℕ, get_or}
use Rattle.flow_net.specs.Network.{loads}
use Rattle.flow_net.specs.Incidence.{arcs_in}
use Rattle.flow_net.specs.Levels.{Visiting, Answered, order_of}
use Rattle.flow_net.proofs.levels.Distances.visit.Given as goal

-- the arcs so far have reached what they lead from
abbrev pub invariant-loop-index : goal.invariant-loop-index
invariant-loop-index l = record {
  visiting : Visiting l.net.nodes (loads l.net l.flow) l.place l.self;
  place : l.place < l.self.count;
  node : l.node ≡ order_of l.self l.place;
  items : l.index-items ≡ arcs_in l.incidence.arcs_at.items l.node;
  passed : (k : ℕ) → k < l.index-index → Answered (loads l.net l.flow) (get_or l.index-items k 0) l.node l.self;
}
