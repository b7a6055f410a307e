-- What shows that a placement is the best one of an expression.
use Rattle.std.specs.Prelude.{◌≡◌, ℕ, ◌+◌, Bool, length}
use Rattle.ir_types.specs.declared.syntax.Function.{Function}
use Rattle.profile.specs.declared.counts.FnCounts.{FnCounts}
use Rattle.point_graph.specs.declared.graph.Points.{Points}
use Rattle.expressions.specs.declared.syntax.Event.{Event}
use Rattle.expressions.specs.Kept.{Kept}
use Rattle.flow_net.specs.declared.Net.{Net}
use Rattle.flow_net.specs.Network.{IsValid, IsWithin, IsMaximum, IsLeastSide, IsLatestSide, loads, flow_value}
use Rattle.latest_cut.specs.Cut.{sink_side_of, rank_of, IsSinkSide, AreRanks}
use Rattle.placement.specs.Costs.{cost_of}
use Rattle.best_placement.specs.BlockNetwork.{constant}
use Rattle.best_placement.specs.Laws.{Certifies, IsBlockNetwork, IsPlacement, IsReadOffOn}
use Rattle.function_graphs.specs.Graphs.{graph_of, IsIn}
use Rattle.mc_solve.specs.declared.Solved.{Solved}

-- a maximum flow of the block network, its latest side with the ranks, and the placement that is read off that side, which costs the flow and the constant
pub record IsSolved (f : Function) (p : Points) (c : FnCounts) (reached : ℕ → Bool) (event : ℕ → Event) (net : Net) (s : Solved) : Type 0 where
  pub maximum : IsMaximum net s.flow
  pub side : IsSinkSide net.nodes (loads net s.flow) s.cut
  pub ranks : AreRanks net.nodes (loads net s.flow) s.cut
  pub least : IsLeastSide net (sink_side_of s.cut)
  pub latest : IsLatestSide net (sink_side_of s.cut)
  pub placement : IsPlacement (graph_of f p c reached event) s.placement
  pub read : IsReadOffOn (graph_of f p c reached event) (sink_side_of s.cut) s.placement
  pub cost : cost_of f c reached p s.placement ≡ flow_value net s.flow + constant event (graph_of f p c reached event).blocks

-- in the block network of expression e of a function the flow and the ranks show that the placement is the best
pub record IsShown (f : Function) (p : Points) (t : Kept) (e : ℕ) (c : FnCounts) (s : Solved) : Type 0 where
  pub net : Net
  pub valid : IsValid net
  pub within : IsWithin net s.flow
  pub ranks : length s.cut.rank.items ≡ net.nodes
  pub ends : (rank_of s.cut 0 ≡ 0) × (rank_of s.cut 1 ≡ 0)
  pub network : (reached : ℕ → Bool) (event : ℕ → Event) → IsIn f p t e reached event → IsBlockNetwork (graph_of f p c reached event) net
  pub certifies : (reached : ℕ → Bool) (event : ℕ → Event) → IsIn f p t e reached event → Certifies (graph_of f p c reached event) net s.flow (rank_of s.cut) s.placement
