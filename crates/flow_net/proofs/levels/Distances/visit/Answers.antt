use Rattle.std.proofs.Common.{arith, ◌≡◌, ◌∙◌, sym, ap, subst, ℕ, ◌<◌, get_or, length, true, below_more}
use Rattle.std.specs.Prelude.{All}
use Rattle.std.proofs.lemmas.Grind.{get_or_default_zero}
use Rattle.flow_net.specs.Network.{loads, ResidualArc}
use Rattle.flow_net.specs.Levels.{Answered, is_reached, order_of}
use Rattle.flow_net.proofs.Visits.{arcs_in_read, answered_kept, answered_all, visiting_next, reached_inside}
use Rattle.flow_net.proofs.levels.Distances.visit.Goals as goal

pub loop-index-init : goal.loop-index-init
loop-index-init c =
    let s = c.requires.visiting in
    let at : c.index-node.result.now ≡ order_of c.args.self.now c.args.place =
    c.index-node.ensures ∙ get_or_default_zero c.args.self.now.order.items c.args.place c.index-node.result.now (omega (arith, c.requires.place, s.ordered.room, s.sound.places.order_len)) in
    let there : is_reached c.args.self.now c.index-node.result.now ≡ true = ap (is_reached c.args.self.now) at ∙ s.ordered.inside c.args.place c.requires.place in
    let inside : c.index-node.result.now < length c.args.incidence.now.arcs_at.items =
    omega (arith, reached_inside c.args.self.now c.index-node.result.now there, s.sound.places.reached_len, c.requires.incidence.len) in
    record {
      visiting = s;
      place = c.requires.place;
      node = at;
      items = c.deref-index-items.ensures.value ∙ sym (arcs_in_read c.args.incidence.now.arcs_at.items c.index-node.result.now c.index.result.now inside c.index.ensures);
      passed = λ k h. absurd (omega arith);
    }

pub loop-index-preserved : goal.loop-index-preserved
loop-index-preserved c =
    let ls = loads c.args.net.now c.args.flow.now in
    let inv = c.loop-index.invariant in
    let k = c.pass.ensures.keeps in
    let node = c.index-node.result.now in
    let items = c.deref-index-items.result.now in
    record {
      visiting = c.pass.ensures.visiting;
      place = omega (arith, k.count, inv.place);
      node = inv.node ∙ sym (k.order c.args.place inv.place);
      items = inv.items;
      passed = below_more (λ (i : ℕ). Answered ls (get_or items i 0) node c.pass.new.self) _ (λ i h. answered_kept ls (get_or items i 0) node c.loop-index.self c.pass.new.self k (inv.passed i h))
          (subst (λ v. Answered ls (get_or items c.loop-index.index-index 0) v c.pass.new.self) (sym inv.node) c.pass.ensures.answered);
    }

pub pass-requires-clause-index : goal.pass-requires-clause-index
pass-requires-clause-index c =
    subst (λ list. All (λ e. e < length c.args.net.now.arcs.items) list) (sym c.loop-index.invariant.items) (c.requires.incidence.inside c.index-node.result.now) c.loop-index.index-index 0 c.loop-index-test.true

pub returns : goal.returns
returns c =
    let inv = c.loop-index.invariant in
    let ls = loads c.args.net.now c.args.flow.now in
    visiting_next c.args.net.now.nodes ls c.args.place c.loop-index.self inv.place
    (subst (λ v. (u : ℕ) → ResidualArc ls u v → is_reached c.loop-index.self u ≡ true) inv.node
    (answered_all c.args.net.now c.args.flow.now c.args.incidence.now c.requires.within c.requires.incidence c.index-node.result.now c.loop-index.index-index c.deref-index-items.result.now c.loop-index.self inv.items c.loop-index-test.false inv.passed))
    inv.visiting
