use Rattle.std.proofs.Common.{◌≡◌, ◌-◌, ◌^◌, false}
use Rattle.flow_net.specs.Network.{IsWithin, IsBalanced, flow_value, loads}
use Rattle.max_flow.specs.Path.{AreDead, AreLevels, is_dead}
use Rattle.max_flow.specs.Marking.{ArePassed}
use Rattle.max_flow.proofs.blocking.fill.Given as goal

abbrev pub invariant-loop : goal.invariant-loop
invariant-loop l = record {
  within : IsWithin l.net l.flow;
  balanced : IsBalanced l.net l.flow;
  levels : AreLevels l.net.nodes (loads l.net l.flow) l.found;
  dead : AreDead l.net.nodes (loads l.net l.flow) l.found l.marks.dead.items;
  passed : ArePassed l.net.nodes (loads l.net l.flow) l.found l.incidence l.marks;
  alive : is_dead l.marks.dead.items 0 ≡ false;
}

abbrev pub decreases-loop : goal.decreases-loop
decreases-loop l = 2 ^ 120 - flow_value l.net l.flow
