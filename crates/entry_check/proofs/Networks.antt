-- The block network of an expression: that there is one, and that what is wrong in one is wrong in each.
use Rattle.std.proofs.Common.{◌≡◌, ◌≤◌, ◌<◌, ◌+◌, ◌*◌, ℕ, suc, Bool, List, [], ◌∷◌, Some, length, map, zip, All, refl, sym, ap, ◌∙◌, subst}
use Rattle.std.specs.Prelude.{slice_get, ◌^◌, IfOk, Result, Ok, Err}
use Rattle.std.specs.List.{AllZip}
use Rattle.std.proofs.lemmas.List.{length-map}
use Rattle.ir_types.specs.declared.syntax.Function.{Function}
use Rattle.profile.specs.declared.counts.FnCounts.{FnCounts}
use Rattle.point_graph.specs.declared.graph.Points.{Points}
use Rattle.point_graph.specs.Numbers.{ArePoints}
use Rattle.expressions.specs.declared.syntax.Event.{Event}
use Rattle.expressions.specs.Kept.{Kept}
use Rattle.expressions.specs.Tables.{IsTable}
use Rattle.local_sets.specs.declared.blocks.BlockSets.{BlockSets}
use Rattle.local_sets.specs.Blocks.{IsBlockSets}
use Rattle.flow_net.specs.declared.Net.{Net}
use Rattle.flow_net.specs.declared.Arc.{Arc}
use Rattle.flow_net.specs.declared.Flow.{Flow}
use Rattle.flow_net.specs.Network.{IsValid, IsWithin, IsBalanced, ResidualArc, inflow, outflow}
use Rattle.flow_check.specs.Faults.{IsAbove, IsFirstAbove, IsFirstUnbalanced, FallsFrom, IsFirstStuck}
use Rattle.placement.specs.declared.placements.Placement.{Placement}
use Rattle.best_placement.specs.BlockNetwork.{constant}
use Rattle.best_placement.specs.Shapes.{Shape, blocks_from, next_point, next_edge}
use Rattle.best_placement.specs.Laws.{ExpressionGraph, IsBlockNetwork, cost_on}
use Rattle.function_graphs.specs.Graphs.{EventsExist, shape_at, IsIn}
use Rattle.reduction.specs.declared.building.BlockNet.{BlockNet}
use Rattle.reduction.specs.Networks.{IsFullNetwork}
use Rattle.certificate.specs.declared.types.Entry.{Entry}
use Rattle.certified.specs.Entries.{HasProof}
use Rattle.entry_check.specs.declared.fault.Fault.{Fault}
use Rattle.entry_check.specs.declared.fault.Fault.TheVariants.{Lists, Missing, Incorrect, Unsafe, Capacity, Balance, Value, Rank, Places}
use Rattle.entry_check.specs.Faults.{CostsTheFlow, FailsBy}
use Rattle.entry_check.specs.Parts.{IsNetworkIn}

-- ---- there is a graph

-- what the graph of an expression needs to be spoken of
pub record HasGraph (f : Function) (p : Points) (t : Kept) (x : ℕ) : Type 0 where
  pub reached : ℕ → Bool
  pub event : ℕ → Event
  pub is : IsIn f p t x reached event

blocks_counted : (index point edge : ℕ) (shapes : List Shape) → length (blocks_from index point edge shapes) ≡ length shapes
blocks_counted index point edge [] = refl
blocks_counted index point edge (s ∷ shapes) = ap suc (blocks_counted (suc index) (next_point point s) (next_edge edge s) shapes)

pub some_graph : EventsExist → (f : Function) (p : Points) (t : Kept) (x : ℕ) → 0 < length f.blocks → ArePoints f p → IsTable f p t → x < length t.exprs → HasGraph f p t x
some_graph exist f p t x defined points table known =
    let events = exist f p t x table known in
    record {
      reached = points.blocks.test;
      event = events.0;
      is = record { defined = defined; points = points; table = table; blocks = points.blocks.told; events = events.1 };
    }

pub node_count : (f : Function) (p : Points) (t : Kept) (x : ℕ) (c : FnCounts) (sets : List BlockSets) (full : BlockNet) → HasGraph f p t x → AllZip (IsBlockSets f t x) p.blocks sets → IsFullNetwork f p c sets full
    → full.net.nodes ≡ 2 + 2 * length p.blocks
node_count f p t x c sets full g are network =
    let shapes : List Shape = map (shape_at f c g.reached p.blocks) p.blocks in
    let n = (network t x g.reached g.event g.is are).network.nodes in
    n ∙ ap (λ k. 2 + 2 * k) (blocks_counted 0 1 1 shapes ∙ length-map p.blocks (shape_at f c g.reached p.blocks))

-- ---- networks with the same nodes and the same arcs

module _ (one other : Net) (nodes : one.nodes ≡ other.nodes) (arcs : one.arcs.items ≡ other.arcs.items) (flow : Flow) where
  within_too : IsWithin one flow → IsWithin other flow
  within_too w = record {
    len = w.len ∙ ap length arcs;
    below = subst (λ (l : List Arc). All (λ (a : Arc × ℕ). a.1 ≤ a.0.cap) (zip l flow.amounts.items)) arcs w.below;
  }

  balanced_at : (v : ℕ) → inflow (zip one.arcs.items flow.amounts.items) v ≡ outflow (zip one.arcs.items flow.amounts.items) v → inflow (zip other.arcs.items flow.amounts.items) v ≡ outflow (zip other.arcs.items flow.amounts.items) v
  balanced_at v b = subst (λ (l : List Arc). inflow (zip l flow.amounts.items) v ≡ outflow (zip l flow.amounts.items) v) arcs b

  balanced_too : IsBalanced one flow → IsBalanced other flow
  balanced_too b v low lt = balanced_at v (b v low (subst (λ n. v < n) (sym nodes) lt))

  above_too : (k : ℕ) → IsAbove one flow k → IsAbove other flow k
  above_too k h = record {
    load = h.load;
    there = subst (λ (l : List Arc). slice_get (zip l flow.amounts.items) k ≡ Some h.load) arcs h.there;
    above = h.above;
  }

  falls_too : (rank : ℕ → ℕ) (v : ℕ) → FallsFrom one flow rank v → FallsFrom other flow rank v
  falls_too rank v h = (h.0, subst (λ (l : List Arc). ResidualArc (zip l flow.amounts.items) v h.0) arcs h.1, h.2)

  costs_too : (g : ExpressionGraph) (placement : Placement) → CostsTheFlow g one flow placement → CostsTheFlow g other flow placement
  costs_too g placement h = subst (λ (l : List Arc). cost_on g placement ≡ outflow (zip l flow.amounts.items) 0 + constant g.event g.blocks) arcs h

  sum_too : (g : ExpressionGraph) (sum : ℕ) → sum ≡ outflow (zip one.arcs.items flow.amounts.items) 0 + constant g.event g.blocks → sum ≡ outflow (zip other.arcs.items flow.amounts.items) 0 + constant g.event g.blocks
  sum_too g sum h = subst (λ (l : List Arc). sum ≡ outflow (zip l flow.amounts.items) 0 + constant g.event g.blocks) arcs h

  pub has_too : (entry : Entry) (ranks : List ℕ) → HasProof one entry flow ranks → HasProof other entry flow ranks
  has_too entry ranks h = record {
    flow_there = h.flow_there;
    ranks_there = h.ranks_there;
    arcs = h.arcs ∙ ap length arcs;
    nodes = h.nodes ∙ nodes;
  }

module _ (one other : Net) (nodes : one.nodes ≡ other.nodes) (arcs : one.arcs.items ≡ other.arcs.items) (flow : Flow) where
  first_above_too : (k : ℕ) → IsFirstAbove one flow k → IsFirstAbove other flow k
  first_above_too k h = record {
    is_above = above_too one other nodes arcs flow k h.is_above;
    first = λ i lt above. h.first i lt (above_too other one (sym nodes) (sym arcs) flow i above);
  }

  first_unbalanced_too : (v : ℕ) → IsFirstUnbalanced one flow v → IsFirstUnbalanced other flow v
  first_unbalanced_too v h = record {
    inner = h.inner;
    node = subst (λ n. v < n) nodes h.node;
    unbalanced = λ same. h.unbalanced (balanced_at other one (sym nodes) (sym arcs) flow v same);
    first = λ w low lt. balanced_at one other nodes arcs flow w (h.first w low lt);
  }

  first_stuck_too : (rank : ℕ → ℕ) (v : ℕ) → IsFirstStuck one flow rank v → IsFirstStuck other flow rank v
  first_stuck_too rank v h = record {
    ranked = h.ranked;
    stuck = λ falls. h.stuck (falls_too other one (sym nodes) (sym arcs) flow rank v falls);
    first = λ w lt on. falls_too one other nodes arcs flow rank w (h.first w lt on);
  }

  pub fails_too : (g : ExpressionGraph) (rank : ℕ → ℕ) (placement : Placement) (fault : Fault) → FailsBy g one flow rank placement fault → FailsBy g other flow rank placement fault
  fails_too g rank placement Lists h = absurd h
  fails_too g rank placement Missing h = absurd h
  fails_too g rank placement (Incorrect point) h = absurd h
  fails_too g rank placement (Unsafe edge) h = absurd h
  fails_too g rank placement (Capacity arc) h = first_above_too arc h
  fails_too g rank placement (Balance node) h = (within_too one other nodes arcs flow h.0, first_unbalanced_too node h.1)
  fails_too g rank placement (Value cost sum) h = (within_too one other nodes arcs flow h.0, balanced_too one other nodes arcs flow h.1, h.2, sum_too one other nodes arcs flow g sum h.3, h.4)
  fails_too g rank placement (Rank node) h = (within_too one other nodes arcs flow h.0, balanced_too one other nodes arcs flow h.1, costs_too one other nodes arcs flow g placement h.2, first_stuck_too rank node h.3)
  fails_too g rank placement Places h =
      (within_too one other nodes arcs flow h.0, balanced_too one other nodes arcs flow h.1, costs_too one other nodes arcs flow g placement h.2, (λ v on. falls_too one other nodes arcs flow rank v (h.3 v on)), h.4)

-- two block networks of a graph have the same nodes and arcs
pub same_nodes : (g : ExpressionGraph) (one other : Net) → IsBlockNetwork g one → IsBlockNetwork g other → one.nodes ≡ other.nodes
same_nodes g one other n m = n.nodes ∙ sym m.nodes

pub same_arcs : (g : ExpressionGraph) (one other : Net) → IsBlockNetwork g one → IsBlockNetwork g other → one.arcs.items ≡ other.arcs.items
same_arcs g one other n m = n.arcs ∙ sym m.arcs

-- ---- the network that was built

module _ (f : Function) (p : Points) (t : Kept) (counts : FnCounts) (x : ℕ) (sets : List BlockSets) (graph : HasGraph f p t x) (are : AllZip (IsBlockSets f t x) p.blocks sets) where
  pub network_in : {E : Type 0} (r : Result BlockNet E) → IfOk r (λ full. IsFullNetwork f p counts sets full) → IfOk r (λ full. IsValid full.net) → IfOk r (λ full. length full.net.arcs.items < 2 ^ 32) → IfOk r (λ full. full.constant < 2 ^ 104)
      → IfOk r (λ full. IsNetworkIn f p t counts x full)
  network_in (Ok full) network valid few bounded = record {
    each = λ reached event is. network t x reached event is are;
    nodes = node_count f p t x counts sets full graph are network;
    valid = valid;
    few = few;
    bounded = bounded;
  }
  network_in (Err e) network valid few bounded = tt
