use Rattle.reduced_flows.specs.Flows.{IsReachOf}
use Rattle.mc_solve.proofs.Solving.{HasGraph, some_graph, node_count}
use Rattle.mc_solve.proofs.Amounts.{arcs_rise, arcs_within, arcs_named, nodes_few}
use Rattle.mc_solve.proofs.OneReach.{needed_count}
use Rattle.mc_solve.proofs.networks.networks_of.Goals as goal

pub network-requires-clause-sets : goal.network-requires-clause-sets
network-requires-clause-sets c = record {
  table = c.args.table.now;
  number = c.args.e;
  is_table = c.requires.table;
  known = c.requires.expression;
  are = rw c.deref.ensures.value c.in_ok-sets.ensures;
}

pub returns-clause-network : goal.returns-clause-network
returns-clause-network c reached event is =
    (c.in_ok-full.ensures.network c.args.table.now c.args.e reached event is (rw c.deref.ensures.value c.in_ok-sets.ensures)).network

pub returns-clause-nodes : goal.returns-clause-nodes
returns-clause-nodes c =
    node_count c.args.function.now c.args.points.now c.args.table.now c.args.e c.requires.defined c.requires.points c.requires.table c.requires.expression
    c.args.counts.now c.deref.result.now c.in_ok-full.full (rw c.deref.ensures.value c.in_ok-sets.ensures) c.in_ok-full.ensures.network

pub returns-clause-part : goal.returns-clause-part
returns-clause-part c =
    let f = c.args.function.now in
    let p = c.args.points.now in
    let t = c.args.table.now in
    let net = c.in_ok-full.full.net in
    let reach = c.in_ok-reach.reach in
    let is = c.in_ok-needed.ensures.reduced in
    let has : HasGraph f p t c.args.e = some_graph f p t c.args.e c.requires.defined c.requires.points c.requires.table c.requires.expression in
    let tells : IsReachOf f p t c.args.e reach = record {
      available = c.in_ok-reach.ensures.available t c.args.e c.requires.table c.requires.expression (rw c.deref-2.ensures.value c.in_ok-sets.ensures);
      wanted = c.in_ok-reach.ensures.wanted t c.args.e c.requires.table c.requires.expression (rw c.deref-2.ensures.value c.in_ok-sets.ensures);
    } in
    record {
      nodes = nodes_few net reach c.in_ok-needed.needed is;
      named = arcs_named net reach c.in_ok-needed.needed is;
      ascending = arcs_rise net reach c.in_ok-needed.needed is;
      within = arcs_within net reach c.in_ok-needed.needed is;
      maximum = λ small flow maximum spread.
          c.reduced_flows_are_maximum.ensures f p t c.args.e c.args.counts.now has.reached has.event net reach c.in_ok-needed.needed small flow has.is
          (returns-clause-network c has.reached has.event has.is) tells is maximum spread;
    }

pub returns-clause-needed : goal.returns-clause-needed
returns-clause-needed c reach told =
    let f = c.args.function.now in
    let p = c.args.points.now in
    let t = c.args.table.now in
    let has : HasGraph f p t c.args.e = some_graph f p t c.args.e c.requires.defined c.requires.points c.requires.table c.requires.expression in
    let tells : IsReachOf f p t c.args.e c.in_ok-reach.reach = record {
      available = c.in_ok-reach.ensures.available t c.args.e c.requires.table c.requires.expression (rw c.deref-2.ensures.value c.in_ok-sets.ensures);
      wanted = c.in_ok-reach.ensures.wanted t c.args.e c.requires.table c.requires.expression (rw c.deref-2.ensures.value c.in_ok-sets.ensures);
    } in
    needed_count f p t c.args.e c.args.counts.now has.reached has.event has.is c.in_ok-full.full.net c.in_ok-reach.reach reach c.in_ok-needed.needed
    (returns-clause-nodes c) tells told c.in_ok-needed.ensures.reduced
