-- The best placement of an expression by the counts of a function, told by its block network.
use Rattle.std.specs.Prelude.{◌<◌, ◌^◌, ℕ, Bool, length}
use Rattle.ir_types.specs.declared.syntax.Function.{Function}
use Rattle.point_graph.specs.declared.graph.Points.{Points}
use Rattle.expressions.specs.declared.syntax.Event.{Event}
use Rattle.expressions.specs.Kept.{Kept}
use Rattle.expressions.specs.Tables.{IsEventOf}
use Rattle.profile.specs.declared.counts.FnCounts.{FnCounts}
use Rattle.profile.specs.Counts.{total}
use Rattle.flow_net.specs.declared.Net.{Net}
use Rattle.flow_net.specs.declared.Flow.{Flow}
use Rattle.flow_net.specs.Network.{IsLeastSide, IsLatestSide}
use Rattle.placement.specs.declared.placements.Placement.{Placement}
use Rattle.placement.specs.Placements.{arcs_of}
use Rattle.best_choice.specs.Best.{IsPlacementOn, IsBestIn}
use Rattle.best_placement.specs.Laws.{IsBlockNetwork, IsReadOffOn, Certifies}
use Rattle.function_graphs.specs.Graphs.{graph_of, IsIn}

-- what is read off the latest least side of the block network is best
abbrev pub LatestIsBest : Type 0
LatestIsBest = (f : Function) (p : Points) (t : Kept) (e : ℕ) (c : FnCounts) (reached : ℕ → Bool) (event : ℕ → Event) (net : Net) (nodes : ℕ → Bool) (placement : Placement) → IsIn f p t e reached event
    → IsBlockNetwork (graph_of f p c reached event) net → IsLeastSide net nodes → IsLatestSide net nodes
    → IsPlacementOn (arcs_of p.edges) (length p.points) (IsEventOf f p t e) placement → IsReadOffOn (graph_of f p c reached event) nodes placement
    → IsBestIn f p t e c placement

-- a certified placement is best
abbrev pub CertifiedIsBest : Type 0
CertifiedIsBest = (f : Function) (p : Points) (t : Kept) (e : ℕ) (c : FnCounts) (reached : ℕ → Bool) (event : ℕ → Event) (net : Net) (flow : Flow) (rank : ℕ → ℕ) (placement : Placement) → IsIn f p t e reached event
    → total c < 2 ^ 64 → IsBlockNetwork (graph_of f p c reached event) net
    → IsPlacementOn (arcs_of p.edges) (length p.points) (IsEventOf f p t e) placement → Certifies (graph_of f p c reached event) net flow rank placement
    → IsBestIn f p t e c placement
