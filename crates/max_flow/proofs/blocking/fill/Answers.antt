use Rattle.std.proofs.Common.{rules, arith, refl, sym, subst, get_or, length, Bool, true, false, ◌∙◌, ◌≡◌, ◌<◌, ◌^◌, ◌==◌}
use Rattle.std.proofs.lemmas.List.{get_or_default}
use Rattle.flow_net.specs.declared.levels.Distances.{Distances}
use Rattle.flow_net.specs.Network.{loads, flow_value}
use Rattle.flow_net.specs.Levels.{is_reached, distance_of}
use Rattle.flow_net.proofs.Loads.{amount_fits}
use Rattle.max_flow.proofs.Phases.{levels_first, rises}
use Rattle.max_flow.proofs.blocking.fill.Goals as goal

pub returns-then-not-index-clause-last : goal.returns-then-not-index-clause-last
returns-then-not-index-clause-last c =
    let found = c.search.new.self in
    let d = c.search.ensures.distances in
    λ more. (
      refl,
      c.no_way_is_maximum.ensures c.args.net.now c.args.flow.now c.requires.valid c.requires.within c.requires.balanced (is_reached found)
          (λ v. ((λ h. (distance_of found v, d.walk v h)), λ walk. (d.fewest walk.0 v walk.1).0))
          (subst (λ b. get_or c.search.new.self.reached.items 0 b ≡ b) c.if-not-index.true (sym c.index.ensures)),
    )

reached_first : (found : Distances) (b : Bool) → 0 < length found.reached.items → b ≡ get_or found.reached.items 0 b → b ≡ true → is_reached found 0 ≡ true
reached_first found b some read yes' = get_or_default found.reached.items 0 false b some ∙ sym read ∙ yes'

pub returns-then-not-advance-clause-farther : goal.returns-then-not-advance-clause-farther
returns-then-not-advance-clause-farther c = λ more.
    rises c.args.net.now.nodes (loads c.args.net.now c.args.flow.now) (loads c.args.net.now c.advance.new.flow) c.search.new.self c.advance.new.marks.dead.items c.search.ensures.distances
    (reached_first c.search.new.self c.index.result.now (omega (arith, c.search.ensures.distances.places.reached_len, c.requires.valid.nodes)) c.index.ensures c.if-not-index.false) c.advance.ensures.levels c.advance.ensures.dead (c.if-not-advance.ensures.over refl)

pub returns-then-not-advance-clause-near : goal.returns-then-not-advance-clause-near
returns-then-not-advance-clause-near c = λ more. (
  distance_of c.search.new.self 0,
  c.search.ensures.small 0,
  c.search.ensures.distances.walk 0 (reached_first c.search.new.self c.index.result.now (omega (arith, c.search.ensures.distances.places.reached_len, c.requires.valid.nodes)) c.index.ensures c.if-not-index.false),
)

pub loop-smaller : goal.loop-smaller
loop-smaller c =
    let fits : flow_value c.args.net.now c.advance.new.flow < 2 ^ 120 = amount_fits c.args.net.now c.advance.new.flow (λ a. a.from == 0) c.requires.valid c.advance.ensures.within in
    omega (arith, fits, (c.if-not-advance.ensures.more refl).0)

pub loop-init : goal.loop-init
loop-init c = record {
  within = c.requires.within;
  balanced = c.requires.balanced;
  levels = levels_first c.args.net.now.nodes (loads c.args.net.now c.args.flow.now) c.search.new.self c.search.ensures.distances;
  dead = search rules;
  passed = search rules;
  alive = c.reset.ensures.dead 0;
}
