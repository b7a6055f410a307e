-- What the entry of an expression in a certificate shows.
use Rattle.std.specs.Prelude.{◌≡◌, ◌+◌, ℕ, Bool, true, false, List, ◌∷◌, Some, length, slice_get, slice_index_or}
use Rattle.ir_types.specs.declared.syntax.Function.{Function}
use Rattle.point_graph.specs.declared.graph.Points.{Points}
use Rattle.expressions.specs.declared.syntax.Event.{Event}
use Rattle.expressions.specs.declared.syntax.Expr.{Expr}
use Rattle.expressions.specs.Expressions.{expr_traps}
use Rattle.expressions.specs.Kept.{Kept}
use Rattle.expressions.specs.Tables.{IsEventOf}
use Rattle.profile.specs.declared.counts.FnCounts.{FnCounts}
use Rattle.flow_net.specs.declared.Net.{Net}
use Rattle.flow_net.specs.declared.Flow.{Flow}
use Rattle.placement.specs.Placements.{arcs_of, IsCorrect, IsSafe}
use Rattle.best_choice.specs.Best.{IsPlacementOn}
use Rattle.best_placement.specs.Laws.{ExpressionGraph, Certifies, IsBlockNetwork}
use Rattle.function_graphs.specs.Graphs.{graph_of, IsIn}
use Rattle.certificate.specs.declared.types.Entry.{Entry}

-- the rank of a node. The ranks are listed from node 2 on; the source and the sink have rank 0
abbrev pub rank_in : List ℕ → ℕ → ℕ
rank_in ranks v = slice_index_or (0 ∷ 0 ∷ ranks) v 0

-- the entry has this flow and these ranks: one amount for each arc, and one rank for each node from node 2 on
pub record HasProof (net : Net) (entry : Entry) (flow : Flow) (ranks : List ℕ) : Type 0 where
  pub flow_there : entry.flow ≡ Some flow.amounts.items
  pub ranks_there : entry.ranks ≡ Some ranks
  pub arcs : length flow.amounts.items ≡ length net.arcs.items
  pub nodes : 2 + length ranks ≡ net.nodes

-- the flow and the ranks of the entry show that its placement is the best
pub record Shows (g : ExpressionGraph) (net : Net) (entry : Entry) : Type 0 where
  pub flow : Flow
  pub ranks : List ℕ
  pub has : HasProof net entry flow ranks
  pub certifies : Certifies g net flow (rank_in ranks) entry.placement

-- they do so in the block network of expression x of a function, by the counts of the function
pub record CertifiesIn (f : Function) (p : Points) (t : Kept) (counts : FnCounts) (x : ℕ) (entry : Entry) : Type 0 where
  pub net : Net
  pub network : (reached : ℕ → Bool) (event : ℕ → Event) → IsIn f p t x reached event → IsBlockNetwork (graph_of f p counts reached event) net
  pub shows : (reached : ℕ → Bool) (event : ℕ → Event) → IsIn f p t x reached event → Shows (graph_of f p counts reached event) net entry

-- expression x of the table can't trap, or can
abbrev pub IsPlain : Kept → ℕ → Type 0
IsPlain t x = (expr : Expr) → slice_get t.exprs x ≡ Some expr → expr_traps expr ≡ false

abbrev pub CanTrap : Kept → ℕ → Type 0
CanTrap t x = (expr : Expr) → slice_get t.exprs x ≡ Some expr → expr_traps expr ≡ true

-- the lists of the entry are a placement of expression x of a function
abbrev pub IsListed : Function → Points → Kept → ℕ → Entry → Type 0
IsListed f p t x entry = IsPlacementOn (arcs_of p.edges) (length p.points) (IsEventOf f p t x) entry.placement

abbrev pub IsRight : Function → Points → Kept → ℕ → Entry → Type 0
IsRight f p t x entry = IsCorrect (arcs_of p.edges) (IsEventOf f p t x) entry.placement

-- the placement is correct. If the expression can't trap, the entry certifies it; if it can, the placement is safe
pub record IsGood (f : Function) (p : Points) (t : Kept) (counts : FnCounts) (x : ℕ) (entry : Entry) : Type 0 where
  pub listed : IsListed f p t x entry
  pub correct : IsRight f p t x entry
  pub certifies : IsPlain t x → CertifiesIn f p t counts x entry
  pub safe : CanTrap t x → IsSafe (arcs_of p.edges) (IsEventOf f p t x) entry.placement
