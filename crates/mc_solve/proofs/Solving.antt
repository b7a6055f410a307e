-- The placement that is read off the latest side is the best one, and the flow and the side show it.
use Rattle.std.proofs.Common.{◌≡◌, ◌+◌, ◌*◌, ◌<◌, ℕ, suc, Bool, List, [], ◌∷◌, length, map, zip, refl, sym, ap, ◌∙◌, subst}
use Rattle.std.specs.List.{AllZip}
use Rattle.std.proofs.lemmas.List.{length-map}
use Rattle.ir_types.specs.declared.syntax.Function.{Function}
use Rattle.profile.specs.declared.counts.FnCounts.{FnCounts}
use Rattle.point_graph.specs.declared.graph.Points.{Points}
use Rattle.point_graph.specs.Numbers.{ArePoints}
use Rattle.expressions.specs.declared.syntax.Event.{Event}
use Rattle.expressions.specs.Kept.{Kept}
use Rattle.expressions.specs.Tables.{IsTable}
use Rattle.local_sets.specs.declared.blocks.BlockSets.{BlockSets}
use Rattle.local_sets.specs.Blocks.{IsBlockSets}
use Rattle.flow_net.specs.declared.Net.{Net}
use Rattle.flow_net.specs.declared.Arc.{Arc}
use Rattle.flow_net.specs.Network.{IsValid, IsMaximum, IsLeastSide, IsLatestSide, loads, outflow}
use Rattle.latest_cut.specs.Cut.{sink_side_of, IsSinkSide, AreRanks}
use Rattle.placement.specs.Costs.{cost_of}
use Rattle.best_choice.specs.Best.{IsBestIn}
use Rattle.best_placement.specs.BlockNetwork.{constant}
use Rattle.best_placement.specs.Shapes.{Shape, blocks_from, next_point, next_edge}
use Rattle.best_placement.specs.Laws.{ExpressionGraph, IsBlockNetwork, IsPlacement, IsReadOffOn}
use Rattle.best_placement.proofs.Optimum.{read_off_costs_the_flow}
use Rattle.function_graphs.specs.Graphs.{graph_of, shape_at, IsIn}
use Rattle.function_graphs.proofs.Existing.{events_exist}
use Rattle.function_graphs.proofs.Suiting.{functions_have_graphs}
use Rattle.function_graphs.proofs.Agreeing.{placements_agree}
use Rattle.function_graphs.proofs.Cheapest.{latest_is_best}
use Rattle.reduction.specs.declared.building.BlockNet.{BlockNet}
use Rattle.reduction.specs.Networks.{IsFullNetwork}
use Rattle.mc_solve.specs.declared.Solved.{Solved}
use Rattle.mc_solve.specs.Solved.{IsSolved}
use Rattle.mc_solve.proofs.SameNets.{maximum_too, least_too, latest_too}

-- ---- nodes

blocks_counted : (index point edge : ℕ) (shapes : List Shape) → length (blocks_from index point edge shapes) ≡ length shapes
blocks_counted index point edge [] = refl
blocks_counted index point edge (s ∷ shapes) = ap suc (blocks_counted (suc index) (next_point point s) (next_edge edge s) shapes)

-- what the graph of an expression needs to be spoken of
pub record HasGraph (f : Function) (p : Points) (t : Kept) (e : ℕ) : Type 0 where
  pub reached : ℕ → Bool
  pub event : ℕ → Event
  pub is : IsIn f p t e reached event

module _ (f : Function) (p : Points) (t : Kept) (e : ℕ) (defined : 0 < length f.blocks) (points : ArePoints f p) (table : IsTable f p t) (known : e < length t.exprs) where
  pub some_graph : HasGraph f p t e
  some_graph =
      let events = events_exist f p t e table known in
      record {
        reached = points.blocks.test;
        event = events.0;
        is = record { defined = defined; points = points; table = table; blocks = points.blocks.told; events = events.1 };
      }

  pub node_count : (c : FnCounts) (sets : List BlockSets) (full : BlockNet) → AllZip (IsBlockSets f t e) p.blocks sets → IsFullNetwork f p c sets full → full.net.nodes ≡ 2 + 2 * length p.blocks
  node_count c sets full are network =
      let g = some_graph in
      let shapes : List Shape = map (shape_at f c g.reached p.blocks) p.blocks in
      let n = (network t e g.reached g.event g.is are).network.nodes in
      n ∙ ap (λ k. 2 + 2 * k) (blocks_counted 0 1 1 shapes ∙ length-map p.blocks (shape_at f c g.reached p.blocks))

-- ---- the placement

module _ (f : Function) (p : Points) (t : Kept) (e : ℕ) (c : FnCounts) (reached : ℕ → Bool) (event : ℕ → Event) (is : IsIn f p t e reached event) (s : Solved) where
  abbrev graph : ExpressionGraph
  graph = graph_of f p c reached event

  -- what is read off costs the flow and the constant
  pub shown : (net : Net) → IsBlockNetwork graph net → IsValid net → IsMaximum net s.flow → IsSinkSide net.nodes (loads net s.flow) s.cut → AreRanks net.nodes (loads net s.flow) s.cut
      → IsLeastSide net (sink_side_of s.cut) → IsLatestSide net (sink_side_of s.cut) → IsPlacement graph s.placement → IsReadOffOn graph (sink_side_of s.cut) s.placement
      → IsSolved f p c reached event net s
  shown net n valid maximum side ranks least latest placed read = record {
    maximum = maximum;
    side = side;
    ranks = ranks;
    least = least;
    latest = latest;
    placement = placed;
    read = read;
    cost = read_off_costs_the_flow graph net s.flow (sink_side_of s.cut) s.placement (functions_have_graphs f p t e c reached event is) n valid maximum least placed read;
  }

  -- the network is one by its nodes and arcs
  pub on_each : (net other : Net) → IsBlockNetwork graph net → IsBlockNetwork graph other → IsSolved f p c reached event net s → IsSolved f p c reached event other s
  on_each net other n m h =
      let nodes : net.nodes ≡ other.nodes = n.nodes ∙ sym m.nodes in
      let arcs : net.arcs.items ≡ other.arcs.items = n.arcs ∙ sym m.arcs in
      record {
        maximum = maximum_too net other nodes arcs s.flow h.maximum;
        side = subst (λ k. IsSinkSide k (loads other s.flow) s.cut) nodes (subst (λ (l : List Arc). IsSinkSide net.nodes (zip l s.flow.amounts.items) s.cut) arcs h.side);
        ranks = subst (λ k. AreRanks k (loads other s.flow) s.cut) nodes (subst (λ (l : List Arc). AreRanks net.nodes (zip l s.flow.amounts.items) s.cut) arcs h.ranks);
        least = least_too net other nodes arcs (sink_side_of s.cut) h.least;
        latest = latest_too net other nodes arcs (sink_side_of s.cut) h.latest;
        placement = h.placement;
        read = h.read;
        cost = subst (λ (l : List Arc). cost_of f c reached p s.placement ≡ outflow (zip l s.flow.amounts.items) 0 + constant event graph.blocks) arcs h.cost;
      }

  pub best : (net : Net) → IsBlockNetwork graph net → IsSolved f p c reached event net s → IsBestIn f p t e c s.placement
  best net n h =
      latest_is_best f p t e c reached event net (sink_side_of s.cut) s.placement is n h.least h.latest
      ((placements_agree f p t e c reached event s.placement is).is_placement.0 h.placement) h.read
