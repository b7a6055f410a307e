-- The laws of cheapest placements, for the placements of a function.
use Rattle.std.proofs.Common.{◌≡◌, ◌≤◌, ℕ, Bool, length, subst}
use Rattle.ir_types.specs.declared.syntax.Function.{Function}
use Rattle.point_graph.specs.declared.graph.Points.{Points}
use Rattle.expressions.specs.declared.syntax.Event.{Event}
use Rattle.expressions.specs.Kept.{Kept}
use Rattle.expressions.specs.Tables.{IsEventOf}
use Rattle.profile.specs.declared.counts.FnCounts.{FnCounts}
use Rattle.profile.proofs.Balancing.{alike}
use Rattle.placement.specs.declared.placements.Placement.{Placement}
use Rattle.placement.specs.Placements.{arcs_of}
use Rattle.placement.specs.Costs.{cost_of}
use Rattle.best_choice.specs.Best.{IsPlacementOn, LivesWithin, IsBestBy, IsBestIn}
use Rattle.best_placement.specs.Laws.{ExpressionGraph, IsPlacement, IsCorrectOn, cost_on}
use Rattle.best_placement.specs.Laws as graphs
use Rattle.best_placement.proofs.Optimum as laws
use Rattle.function_graphs.specs.Graphs.{graph_of, IsIn, Agrees}
use Rattle.function_graphs.specs.Best.{LatestIsBest, CertifiedIsBest}
use Rattle.function_graphs.proofs.Agreeing.{placements_agree}
use Rattle.function_graphs.proofs.Suiting.{functions_have_graphs}
use Rattle.function_graphs.proofs.Capacities.{networks_are_valid}

module _ (f : Function) (p : Points) (t : Kept) (e : ℕ) (c : FnCounts) (reached : ℕ → Bool) (event : ℕ → Event) (is : IsIn f p t e reached event) where
  abbrev graph : ExpressionGraph
  graph = graph_of f p c reached event

  told : (placement : Placement) → Agrees f p t e c reached event placement
  told placement = placements_agree f p t e c reached event placement is

  lives_within : (one other : Placement) → graphs.LivesWithin graph one other → LivesWithin (arcs_of p.edges) (length p.points) (IsEventOf f p t e) one other
  lives_within one other h = (
    (λ v lt l. ((told other).live_at v).0 (h.0 v lt (((told one).live_at v).1 l))),
    (λ n lt l. ((told other).live_on n).0 (h.1 n lt (((told one).live_on n).1 l))),
  )

  -- what is best on the graph is best in the function
  pub best : (placement : Placement) → IsPlacementOn (arcs_of p.edges) (length p.points) (IsEventOf f p t e) placement → IsCorrectOn graph placement
      → ((other : Placement) → IsPlacement graph other → IsCorrectOn graph other → (cost_on graph placement ≤ cost_on graph other) × (cost_on graph other ≡ cost_on graph placement → graphs.LivesWithin graph placement other))
      → IsBestIn f p t e c placement
  best placement own correct others test tells =
      let here : IsBestBy (arcs_of p.edges) (length p.points) (IsEventOf f p t e) (cost_of f c reached p) placement = record {
        placement = own;
        correct = (told placement).correct.0 correct;
        cheapest = λ other h k. (others other ((told other).is_placement.1 h) ((told other).correct.1 k)).0;
        lives_least = λ other h k same. lives_within placement other ((others other ((told other).is_placement.1 h) ((told other).correct.1 k)).1 same);
      } in
      let same : reached ≡ test = λ i b. alike f reached test is.blocks tells b i in
      subst (λ (r : ℕ → Bool). IsBestBy (arcs_of p.edges) (length p.points) (IsEventOf f p t e) (cost_of f c r p) placement) same here

pub latest_is_best : LatestIsBest
latest_is_best f p t e c reached event net nodes placement is n least latest h read =
    let g = graph_of f p c reached event in
    let whole = functions_have_graphs f p t e c reached event is in
    let own = (placements_agree f p t e c reached event placement is).is_placement.1 h in
    best f p t e c reached event is placement h (laws.read_off_is_correct g net nodes placement whole n least.0 own read).0
    (λ other k correct. (laws.read_off_is_cheapest g net nodes placement other whole n least own read k correct, λ same. laws.read_off_lives_least g net nodes placement other whole n least latest own read k correct same))

pub certified_is_best : CertifiedIsBest
certified_is_best f p t e c reached event net flow rank placement is fits n h shown =
    let g = graph_of f p c reached event in
    let whole = functions_have_graphs f p t e c reached event is in
    let own = (placements_agree f p t e c reached event placement is).is_placement.1 h in
    let certified = laws.certified_is_best g net flow rank placement whole n (networks_are_valid f p t e c reached event net is fits n) own shown in
    best f p t e c reached event is placement h certified.0 certified.1
