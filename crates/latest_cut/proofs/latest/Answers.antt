use Rattle.std.proofs.Common.{◌≡◌, ℕ, List, true}
use Rattle.std.specs.Prelude.{◌↔◌}
use Rattle.flow_net.specs.declared.Arc.{Arc}
use Rattle.flow_net.specs.declared.levels.Distances.{Distances}
use Rattle.flow_net.specs.Network.{loads, IsSinkSet}
use Rattle.flow_net.specs.Levels.{AreDistances, is_reached, distance_of}
use Rattle.latest_cut.proofs.latest.Goals as goal

-- the reached nodes are those that reach the sink
sink_set : (nodes : ℕ) (ls : List (Arc × ℕ)) (found : Distances) → AreDistances nodes ls found → IsSinkSet ls (is_reached found)
sink_set nodes ls found d v = ((λ h. (distance_of found v, d.walk v h)), λ walk. (d.fewest walk.0 v walk.1).0)

pub returns-clause-side : goal.returns-clause-side
returns-clause-side c =
    let d = c.in_ok-found.ensures.distances in
    record {
      len = d.places.reached_len;
      exact = sink_set c.args.net.now.nodes (loads c.args.net.now c.args.flow.now) c.in_ok-found.found d;
    }

pub returns-clause-ranks : goal.returns-clause-ranks
returns-clause-ranks c =
    let d = c.in_ok-found.ensures.distances in
    record {
      len = d.places.distance_len;
      walk = d.walk;
      fewest = λ n v walk. (d.fewest n v walk).1;
      others = d.others;
    }

pub returns-clause-least : goal.returns-clause-least
returns-clause-least c =
    (c.sink_set_is_latest.ensures c.args.net.now c.args.flow.now c.requires.valid c.requires.maximum (is_reached c.in_ok-found.found)
    (sink_set c.args.net.now.nodes (loads c.args.net.now c.args.flow.now) c.in_ok-found.found c.in_ok-found.ensures.distances)).0

pub returns-clause-latest : goal.returns-clause-latest
returns-clause-latest c =
    (c.sink_set_is_latest.ensures c.args.net.now c.args.flow.now c.requires.valid c.requires.maximum (is_reached c.in_ok-found.found)
    (sink_set c.args.net.now.nodes (loads c.args.net.now c.args.flow.now) c.in_ok-found.found c.in_ok-found.ensures.distances)).1
