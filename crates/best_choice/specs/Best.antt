-- The best placements of an expression, and that there is one at most.
use Rattle.std.specs.Prelude.{◌≡◌, ◌<◌, ◌≤◌, ◌+◌, ℕ, Bool, List, All, length, sum_by}
use Rattle.std.specs.List.Sorted.{IsStrictlyIncreasing}
use Rattle.ir_types.specs.declared.syntax.Function.{Function}
use Rattle.flow_graph.specs.Paths.{AreReached}
use Rattle.flow_paths.specs.Paths.{ArcsWithin}
use Rattle.profile.specs.declared.counts.FnCounts.{FnCounts}
use Rattle.point_graph.specs.declared.graph.Points.{Points}
use Rattle.point_graph.specs.Numbers.{ArePoints}
use Rattle.expressions.specs.declared.syntax.Event.{Event}
use Rattle.expressions.specs.declared.syntax.Event.TheVariants.{Occurs}
use Rattle.expressions.specs.Kept.{Kept}
use Rattle.expressions.specs.Tables.{IsEventOf}
use Rattle.placement.specs.declared.placements.Placement.{Placement}
use Rattle.placement.specs.Placements.{arcs_of, IsCorrect, IsLiveAt, IsLiveOn}
use Rattle.placement.specs.Costs.{cost_of}

-- ascending lists of edges and of occurrences, among the first n points
pub record IsPlacementOn (arcs : List (ℕ × ℕ)) (n : ℕ) (Is : ℕ → Event → Type 0) (p : Placement) : Type 0 where
  pub inserted_order : IsStrictlyIncreasing p.inserted
  pub edges : All (λ e. e < length arcs) p.inserted
  pub kept_order : IsStrictlyIncreasing p.kept
  pub points : All (λ v. v < n) p.kept
  pub occurrences : All (λ v. Is v Occurs) p.kept

-- the second placement is live wherever the first is
abbrev pub LivesWithin : List (ℕ × ℕ) → ℕ → (ℕ → Event → Type 0) → Placement → Placement → Type 0
LivesWithin arcs n Is p q = ((v : ℕ) → v < n → IsLiveAt arcs Is p v → IsLiveAt arcs Is q v)
    × ((e : ℕ) → e < length arcs → IsLiveOn arcs Is p e → IsLiveOn arcs Is q e)

-- a correct placement; no correct one costs less, and each as cheap is live wherever it is
pub record IsBestBy (arcs : List (ℕ × ℕ)) (n : ℕ) (Is : ℕ → Event → Type 0) (cost : Placement → ℕ) (p : Placement) : Type 0 where
  pub placement : IsPlacementOn arcs n Is p
  pub correct : IsCorrect arcs Is p
  pub cheapest : (q : Placement) → IsPlacementOn arcs n Is q → IsCorrect arcs Is q → cost p ≤ cost q
  pub lives_least : (q : Placement) → IsPlacementOn arcs n Is q → IsCorrect arcs Is q → cost q ≡ cost p → LivesWithin arcs n Is p q

-- the sum of the weights of the inserted edges and the kept occurrences
abbrev pub weighed : (ℕ → ℕ) → (ℕ → ℕ) → Placement → ℕ
weighed edge_weight point_weight p = sum_by edge_weight p.inserted + sum_by point_weight p.kept

abbrev pub IsBestOn : List (ℕ × ℕ) → ℕ → (ℕ → Event → Type 0) → (ℕ → ℕ) → (ℕ → ℕ) → Placement → Type 0
IsBestOn arcs n Is edge_weight point_weight p = IsBestBy arcs n Is (weighed edge_weight point_weight) p

-- the best placement of expression e of a function, by these counts
abbrev pub IsBestIn : Function → Points → Kept → ℕ → FnCounts → Placement → Type 0
IsBestIn f points t e counts p = (reached : ℕ → Bool) → AreReached f reached
    → IsBestBy (arcs_of points.edges) (length points.points) (IsEventOf f points t e) (cost_of f counts reached points) p

-- two best placements are the same, where each edge weighs something. `event v` is what point v is to the expression
abbrev pub OneBest : Type 0
OneBest = (arcs : List (ℕ × ℕ)) (n : ℕ) (event : ℕ → Event) (edge_weight point_weight : ℕ → ℕ) → ArcsWithin arcs n
    → ((e : ℕ) → e < length arcs → 0 < edge_weight e) → (p q : Placement)
    → IsBestOn arcs n (λ v k. event v ≡ k) edge_weight point_weight p → IsBestOn arcs n (λ v k. event v ≡ k) edge_weight point_weight q → p ≡ q

-- two best placements by the counts of a function are the same
abbrev pub OneBestIn : Type 0
OneBestIn = (f : Function) (points : Points) (t : Kept) (e : ℕ) (counts : FnCounts) → ArePoints f points → (p q : Placement)
    → IsBestIn f points t e counts p → IsBestIn f points t e counts q → p ≡ q
