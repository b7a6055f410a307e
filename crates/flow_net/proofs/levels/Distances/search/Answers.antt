use Rattle.flow_net.specs.Network.{loads}
use Rattle.flow_net.proofs.Visits.{visiting_first, distances_end, nearest_first, distance_small}
use Rattle.flow_net.proofs.levels.Distances.search.Goals as goal

pub loop-place-init : goal.loop-place-init
loop-place-init c =
    visiting_first c.args.net.now.nodes (loads c.args.net.now c.args.flow.now) c.clear.new.self c.reach.new.self c.clear.ensures.nodes c.clear.ensures.count c.clear.ensures.none c.reach.ensures

pub returns-clause-distances : goal.returns-clause-distances
returns-clause-distances c =
    distances_end c.args.net.now.nodes (loads c.args.net.now c.args.flow.now) c.loop-place.place c.loop-place.self c.loop-place-test.false c.loop-place.invariant

pub returns-clause-order : goal.returns-clause-order
returns-clause-order c =
    nearest_first c.args.net.now.nodes (loads c.args.net.now c.args.flow.now) c.loop-place.place c.loop-place.self c.loop-place.invariant

pub returns-clause-small : goal.returns-clause-small
returns-clause-small c =
    distance_small c.args.net.now.nodes (loads c.args.net.now c.args.flow.now) c.loop-place.place c.loop-place.self c.requires.valid.nodes c.loop-place.invariant
