use Rattle.std.proofs.Common.{arith, ◌≡◌, ◌+◌, ap, ◌∙◌, ◌<◌, length}
use Rattle.std.proofs.lemmas.Grind.{get_or_default_zero}
use Rattle.flow_net.specs.Network.{loads}
use Rattle.flow_net.specs.Levels.{order_of, distance_of, is_reached}
use Rattle.flow_net.proofs.Loads.{load_read, loads_len}
use Rattle.flow_net.proofs.Visits.{pass_more, reached_inside}
use Rattle.flow_net.proofs.levels.Distances.pass.Goals as goal

pub returns : goal.returns
returns c =
    let s = c.requires.visiting in
    let old = c.args.self.now in
    let place = c.args.place in
    let node = c.index-node.result.now in
    let at : c.index-node.result.now ≡ order_of c.args.self.now c.args.place =
    c.index-node.ensures ∙ get_or_default_zero old.order.items place node (omega (arith, c.requires.place, s.ordered.room, s.sound.places.order_len)) in
    let short : c.index-node.result.now < length c.args.self.now.distance.items =
    omega (arith, reached_inside old node (ap (is_reached old) at ∙ s.ordered.inside place c.requires.place), s.sound.places.reached_len, s.sound.places.distance_len) in
    let far : c.index.result.now + 1 ≡ distance_of c.args.self.now (order_of c.args.self.now c.args.place) + 1 =
    ap (λ n. n + 1) (c.index.ensures ∙ get_or_default_zero old.distance.items node c.index.result.now short ∙ ap (distance_of old) at) in
    let read = load_read c.args.net.now c.args.flow.now c.args.index c.index-arc.result.now c.index-amount.result.now c.requires.within c.requires.index c.index-arc.ensures c.index-amount.ensures in
    let done = pass_more c.args.net.now.nodes (loads c.args.net.now c.args.flow.now) place c.args.index node (c.index.result.now + 1) old c.reach_by.new.self c.reach_by-2.new.self
    c.index-arc.result.now c.index-amount.result.now c.is_open_to.result c.is_taken_from.result c.requires.place
    (omega (arith, loads_len c.args.net.now c.args.flow.now c.requires.within, c.requires.index)) read.0 at far c.is_open_to.ensures c.is_taken_from.ensures c.reach_by.ensures c.reach_by-2.ensures s in
    record { visiting = done.0; answered = done.1; keeps = done.2 }
