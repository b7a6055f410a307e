-- The cheapest placements of an expression are those read off the least sides of its block network.
use Rattle.std.specs.Prelude.{◌≡◌, ℕ, ◌+◌, ◌*◌, ◌<◌, ◌≤◌, ◌==◌, nat_lt, ◌||◌, ◌↔◌, Bool, true, false, List, [], ◌∷◌, length, All, sum_by, ◌^◌}
use Rattle.std.specs.List.Sorted.{IsStrictlyIncreasing}
use Rattle.flow_net.specs.declared.Net.{Net}
use Rattle.flow_net.specs.declared.Flow.{Flow}
use Rattle.flow_net.specs.Network.{IsValid, IsWithin, IsBalanced, IsMaximum, IsSide, IsLeastSide, IsLatestSide, capacity_into, flow_value}
use Rattle.flow_net.specs.Laws.{AreFallingRanks}
use Rattle.expressions.specs.declared.syntax.Event.{Event}
use Rattle.expressions.specs.declared.syntax.Event.TheVariants.{Occurs}
use Rattle.placement.specs.declared.placements.Placement.{Placement}
use Rattle.placement.specs.Placements.{IsCorrect, IsLiveAt, IsLiveOn}
use Rattle.best_placement.specs.Blocks.{HasEvent, Block, IsFlowGraph}
use Rattle.best_placement.specs.BlockNetwork.{head_node, terminator_node, network_arcs, constant}
use Rattle.best_placement.specs.ReadOff.{IsReadOff}

-- the point graph of a function, with the events of an expression and the weights of a profile
pub record ExpressionGraph : Type 0 where
  pub arcs : List (ℕ × ℕ)
  pub points : ℕ
  pub blocks : List Block
  pub event : ℕ → Event
  pub edge_weight : ℕ → ℕ
  pub point_weight : ℕ → ℕ

abbrev pub IsExpressionGraph : ExpressionGraph → Type 0
IsExpressionGraph g = IsFlowGraph g.arcs g.points g.blocks g.event g.edge_weight g.point_weight

-- ascending lists of edges and of occurrences
pub record IsPlacement (g : ExpressionGraph) (p : Placement) : Type 0 where
  pub inserted_order : IsStrictlyIncreasing p.inserted
  pub edges : All (λ e. e < length g.arcs) p.inserted
  pub kept_order : IsStrictlyIncreasing p.kept
  pub points : All (λ v. v < g.points) p.kept
  pub occurrences : All (λ v. g.event v ≡ Occurs) p.kept

abbrev pub IsCorrectOn : ExpressionGraph → Placement → Type 0
IsCorrectOn g p = IsCorrect g.arcs (HasEvent g.event) p

abbrev pub cost_on : ExpressionGraph → Placement → ℕ
cost_on g p = sum_by g.edge_weight p.inserted + sum_by g.point_weight p.kept

-- whether a list has a number
abbrev pub has : List ℕ → ℕ → Bool
has [] v = false
has (x ∷ xs) v = (x == v) || has xs v

abbrev pub IsReadOffOn : ExpressionGraph → (ℕ → Bool) → Placement → Type 0
IsReadOffOn g nodes p = IsReadOff g.event (has p.inserted) (has p.kept) nodes g.blocks

-- the block network of the expression
pub record IsBlockNetwork (g : ExpressionGraph) (net : Net) : Type 0 where
  pub nodes : net.nodes ≡ 2 + 2 * length g.blocks
  pub arcs : net.arcs.items ≡ network_arcs g.event g.edge_weight g.blocks

-- a side of the block nodes whose points are live
pub record IsLiveSide (g : ExpressionGraph) (p : Placement) (nodes : ℕ → Bool) : Type 0 where
  pub side : IsSide nodes
  pub heads : All (λ b. (nodes (head_node b.index) ≡ true) ↔ IsLiveAt g.arcs (HasEvent g.event) p b.head) g.blocks
  pub terminators : All (λ b. (nodes (terminator_node b.index) ≡ true) ↔ IsLiveAt g.arcs (HasEvent g.event) p b.terminator) g.blocks

-- the live nodes of a correct placement are a side, and what it lets in, with the constant, is at most the cost
abbrev pub LiveIsASide : Type 0
LiveIsASide = (g : ExpressionGraph) (net : Net) (p : Placement) → IsExpressionGraph g → IsBlockNetwork g net → IsPlacement g p → IsCorrectOn g p →
    ((nodes : ℕ → Bool) × IsLiveSide g p nodes) ×
    ((nodes : ℕ → Bool) → IsLiveSide g p nodes → capacity_into net nodes + constant g.event g.blocks ≤ cost_on g p)

-- what is read off a side is correct, and costs what the side lets in and the constant
abbrev pub ReadOffIsCorrect : Type 0
ReadOffIsCorrect = (g : ExpressionGraph) (net : Net) (nodes : ℕ → Bool) (p : Placement) → IsExpressionGraph g → IsBlockNetwork g net → IsSide nodes → IsPlacement g p → IsReadOffOn g nodes p →
    IsCorrectOn g p × (cost_on g p ≡ capacity_into net nodes + constant g.event g.blocks)

-- what is read off a least side costs no more than any correct placement
abbrev pub ReadOffIsCheapest : Type 0
ReadOffIsCheapest = (g : ExpressionGraph) (net : Net) (nodes : ℕ → Bool) (p q : Placement) → IsExpressionGraph g → IsBlockNetwork g net → IsLeastSide net nodes → IsPlacement g p → IsReadOffOn g nodes p →
    IsPlacement g q → IsCorrectOn g q → cost_on g p ≤ cost_on g q

-- a placement is live wherever another is
abbrev pub LivesWithin : ExpressionGraph → Placement → Placement → Type 0
LivesWithin g p q = ((v : ℕ) → v < g.points → IsLiveAt g.arcs (HasEvent g.event) p v → IsLiveAt g.arcs (HasEvent g.event) q v)
    × ((e : ℕ) → e < length g.arcs → IsLiveOn g.arcs (HasEvent g.event) p e → IsLiveOn g.arcs (HasEvent g.event) q e)

-- what is read off the latest least side lives least: each correct placement as cheap is live wherever it is
abbrev pub ReadOffLivesLeast : Type 0
ReadOffLivesLeast = (g : ExpressionGraph) (net : Net) (nodes : ℕ → Bool) (p q : Placement) → IsExpressionGraph g → IsBlockNetwork g net → IsLeastSide net nodes → IsLatestSide net nodes → IsPlacement g p → IsReadOffOn g nodes p →
    IsPlacement g q → IsCorrectOn g q → cost_on g q ≡ cost_on g p → LivesWithin g p q

-- what is read off a least side costs the value of a maximum flow and the constant
abbrev pub ReadOffCostsTheFlow : Type 0
ReadOffCostsTheFlow = (g : ExpressionGraph) (net : Net) (flow : Flow) (nodes : ℕ → Bool) (p : Placement) → IsExpressionGraph g → IsBlockNetwork g net → IsValid net → IsMaximum net flow → IsLeastSide net nodes → IsPlacement g p → IsReadOffOn g nodes p →
    cost_on g p ≡ flow_value net flow + constant g.event g.blocks

-- the nodes that have a rank above 0, with the sink
abbrev pub ranked : (ℕ → ℕ) → ℕ → Bool
ranked rank v = (v == 1) || nat_lt 0 (rank v)

-- what a certificate of one expression shows: a flow whose value is the placement's cost but for the constant, and ranks that fall to the sink
pub record Certifies (g : ExpressionGraph) (net : Net) (flow : Flow) (rank : ℕ → ℕ) (p : Placement) : Type 0 where
  pub source : rank 0 ≡ 0
  pub read : IsReadOffOn g (ranked rank) p
  pub within : IsWithin net flow
  pub balanced : IsBalanced net flow
  pub value : flow_value net flow + constant g.event g.blocks ≡ cost_on g p
  pub falls : AreFallingRanks net flow (ranked rank) rank

-- a certified placement is correct, no correct one costs less, and each as cheap is live wherever it is
abbrev pub CertifiedIsBest : Type 0
CertifiedIsBest = (g : ExpressionGraph) (net : Net) (flow : Flow) (rank : ℕ → ℕ) (p : Placement) → IsExpressionGraph g → IsBlockNetwork g net → IsValid net → IsPlacement g p → Certifies g net flow rank p →
    IsCorrectOn g p × ((q : Placement) → IsPlacement g q → IsCorrectOn g q → (cost_on g p ≤ cost_on g q) × (cost_on g q ≡ cost_on g p → LivesWithin g p q))

-- each set of nodes has a placement that is read off it
abbrev pub ReadOffExists : Type 0
ReadOffExists = (g : ExpressionGraph) (nodes : ℕ → Bool) → IsExpressionGraph g → (p : Placement) × IsPlacement g p × IsReadOffOn g nodes p

-- the block network is valid, where its capacities stay below the bound
abbrev pub NetworkIsValid : Type 0
NetworkIsValid = (g : ExpressionGraph) (net : Net) → IsExpressionGraph g → IsBlockNetwork g net → sum_by (λ a. a.cap) net.arcs.items < 2 ^ 120 → IsValid net
