use Rattle.std.proofs.Common.{◌≡◌, ◌+◌, ◌-◌, ◌*◌, ◌<◌, ◌≤◌, false, not, count_by, take, All}
use Rattle.flow_net.specs.Network.{loads}
use Rattle.max_flow.specs.Path.{AreDead, HasRoom, is_dead}
use Rattle.max_flow.specs.Marking.{ArePassed}
use Rattle.max_flow.proofs.Trail.{IsTrail}
use Rattle.max_flow.proofs.blocking.live_path.Given as goal

-- the path so far leads from the source to the node
abbrev pub invariant-loop-node : goal.invariant-loop-node
invariant-loop-node l = record {
  inside : l.node < l.net.nodes;
  alive : is_dead l.marks.dead.items l.node ≡ false;
  dead : AreDead l.net.nodes (loads l.net l.flow) l.found l.marks.dead.items;
  passed : ArePassed l.net.nodes (loads l.net l.flow) l.found l.incidence l.marks;
  fits : l.steps ≤ l.net.nodes;
  trail : IsTrail l.net.arcs.items l.found l.marks.dead.items 0 (take l.steps l.path) l.node;
  room : All (HasRoom l.net.arcs.items l.flow.amounts.items) (take l.steps l.path);
}

-- a step down, or a node that dies and a step back
abbrev pub decreases-loop-node : goal.decreases-loop-node
decreases-loop-node l = 2 * count_by not l.marks.dead.items + (l.net.nodes - l.steps)
