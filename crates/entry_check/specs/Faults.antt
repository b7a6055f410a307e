-- What is wrong with an entry of a certificate.
use Rattle.std.specs.Prelude.{◌≡◌, ◌≢◌, ◌+◌, ◌<◌, ℕ, Bool, List, Contains}
use Rattle.ir_types.specs.declared.syntax.Function.{Function}
use Rattle.point_graph.specs.declared.graph.Points.{Points}
use Rattle.expressions.specs.declared.syntax.Event.{Event}
use Rattle.expressions.specs.Kept.{Kept}
use Rattle.expressions.specs.Tables.{IsEventOf}
use Rattle.profile.specs.declared.counts.FnCounts.{FnCounts}
use Rattle.flow_net.specs.declared.Net.{Net}
use Rattle.flow_net.specs.declared.Flow.{Flow}
use Rattle.flow_net.specs.Network.{IsWithin, IsBalanced, flow_value}
use Rattle.flow_check.specs.Faults.{IsFirstAbove, IsFirstUnbalanced, IsFirstStuck, RanksFall}
use Rattle.flow_paths.specs.Paths.{target}
use Rattle.placement.specs.declared.placements.Placement.{Placement}
use Rattle.placement.specs.Placements.{arcs_of, IsInevitable, IsFirstInvalid}
use Rattle.best_placement.specs.BlockNetwork.{constant}
use Rattle.best_placement.specs.Laws.{ExpressionGraph, IsBlockNetwork, IsReadOffOn, cost_on, ranked}
use Rattle.function_graphs.specs.Graphs.{graph_of, IsIn}
use Rattle.certificate.specs.declared.types.Entry.{Entry}
use Rattle.certified.specs.Entries.{HasProof, IsPlain, CanTrap, IsListed, IsRight, rank_in}
use Rattle.entry_check.specs.declared.fault.Fault.{Fault}
use Rattle.entry_check.specs.declared.fault.Fault.TheVariants.{Lists, Missing, Incorrect, Unsafe, Capacity, Balance, Value, Rank, Places}

-- the smallest inserted edge that leads to a point that isn't inevitable
pub record IsFirstUnsafe (f : Function) (p : Points) (t : Kept) (x : ℕ) (placement : Placement) (e : ℕ) : Type 0 where
  pub inserted : Contains placement.inserted e
  pub unsafe : ¬ (IsInevitable (arcs_of p.edges) (IsEventOf f p t x) (target (arcs_of p.edges) e))
  pub first : (d : ℕ) → Contains placement.inserted d → d < e → IsInevitable (arcs_of p.edges) (IsEventOf f p t x) (target (arcs_of p.edges) d)

-- the entry has a flow and ranks, one amount for each arc and one rank for each node from node 2 on
abbrev pub IsWhole : Net → Entry → Type 0
IsWhole net entry = (flow : Flow) × (ranks : List ℕ) × HasProof net entry flow ranks

-- the placement costs the value of the flow and the constant
abbrev pub CostsTheFlow : ExpressionGraph → Net → Flow → Placement → Type 0
CostsTheFlow g net flow placement = cost_on g placement ≡ flow_value net flow + constant g.event g.blocks

-- what the flow and the ranks of an entry don't show: the first of these that fails
abbrev pub FailsBy : ExpressionGraph → Net → Flow → (rank : ℕ → ℕ) → Placement → Fault → Type 0
FailsBy g net flow rank placement (Capacity arc) = IsFirstAbove net flow arc
FailsBy g net flow rank placement (Balance node) = IsWithin net flow × IsFirstUnbalanced net flow node
FailsBy g net flow rank placement (Value cost sum) =
    IsWithin net flow × IsBalanced net flow × (cost ≡ cost_on g placement) × (sum ≡ flow_value net flow + constant g.event g.blocks) × (cost ≢ sum)
FailsBy g net flow rank placement (Rank node) =
    IsWithin net flow × IsBalanced net flow × CostsTheFlow g net flow placement × IsFirstStuck net flow rank node
FailsBy g net flow rank placement Places =
    IsWithin net flow × IsBalanced net flow × CostsTheFlow g net flow placement × RanksFall net flow rank × ¬ (IsReadOffOn g (ranked rank) placement)
FailsBy g net flow rank placement _ = ⊥

-- the entry has a flow and ranks, which fail so
pub record HasFailure (g : ExpressionGraph) (net : Net) (entry : Entry) (fault : Fault) : Type 0 where
  pub flow : Flow
  pub ranks : List ℕ
  pub has : HasProof net entry flow ranks
  pub fails : FailsBy g net flow (rank_in ranks) entry.placement fault

-- P holds of the graph and of the block network of expression x of a function with these counts
abbrev pub InNetwork : (ExpressionGraph → Net → Type 0) → Function → Points → Kept → FnCounts → ℕ → Type 0
InNetwork P f p t counts x = (reached : ℕ → Bool) (event : ℕ → Event) (net : Net) → IsIn f p t x reached event
    → IsBlockNetwork (graph_of f p counts reached event) net → P (graph_of f p counts reached event) net

-- what is wrong with the entry of expression x of a function: the first of these, in this order
abbrev pub IsFault : Function → Points → Kept → FnCounts → ℕ → Entry → Fault → Type 0
IsFault f p t counts x entry Lists = ¬ (IsListed f p t x entry)
IsFault f p t counts x entry Missing = IsListed f p t x entry × IsPlain t x × InNetwork (λ g net. ¬ (IsWhole net entry)) f p t counts x
IsFault f p t counts x entry (Incorrect point) =
    IsListed f p t x entry
    × (IsPlain t x → InNetwork (λ g net. IsWhole net entry) f p t counts x)
    × IsFirstInvalid (arcs_of p.edges) (IsEventOf f p t x) entry.placement point
IsFault f p t counts x entry (Unsafe edge) = IsListed f p t x entry × CanTrap t x × IsRight f p t x entry × IsFirstUnsafe f p t x entry.placement edge
IsFault f p t counts x entry fault =
    IsListed f p t x entry × IsPlain t x × IsRight f p t x entry × InNetwork (λ g net. HasFailure g net entry fault) f p t counts x
