-- What is best among the safe correct placements of an expression.
-- `Is v event` says what point v is to the expression.
use Rattle.std.specs.Prelude.{◌≤◌, ◌==◌, ◌⊎◌, ℕ, List, [], ◌∷◌, ◌++◌, sum_by, if◌then◌else◌}
use Rattle.std.specs.List.{list_any}
use Rattle.expressions.specs.declared.syntax.Event.{Event}
use Rattle.expressions.specs.declared.syntax.Event.TheVariants as events
use Rattle.flow_paths.specs.Paths.{IsPath, Place, at_point, on_edge, met}
use Rattle.placement.specs.declared.placements.Placement.{Placement}
use Rattle.placement.specs.Placements.{IsInevitable, IsCorrect, IsSafe}
use Rattle.best_choice.specs.Best.{LivesWithin}

-- a path from Start to an occurrence, or to a point that isn't inevitable
abbrev pub IsSettled : List (ℕ × ℕ) → (ℕ → Event → Type 0) → List ℕ → ℕ → Type 0
IsSettled arcs Is path v = IsPath arcs 0 path v × (Is v events.Occurs ⊎ ¬ (IsInevitable arcs Is v))

-- 1 at an inserted edge and at a kept occurrence
abbrev pub computations_at : Placement → Place → ℕ
computations_at p (at_point v) = if list_any (λ w. w == v) p.kept then 1 else 0
computations_at p (on_edge e) = if list_any (λ d. d == e) p.inserted then 1 else 0

-- how often the path to v computes the expression, its last point counted
abbrev pub computations : List (ℕ × ℕ) → Placement → List ℕ → ℕ → ℕ
computations arcs p path v = sum_by (computations_at p) (met arcs path ++ at_point v ∷ [])

-- on each settled path the first placement computes the expression at most as often as the second
abbrev pub ComputesAtMost : List (ℕ × ℕ) → (ℕ → Event → Type 0) → Placement → Placement → Type 0
ComputesAtMost arcs Is p q = (path : List ℕ) (v : ℕ) → IsSettled arcs Is path v → computations arcs p path v ≤ computations arcs q path v

-- no safe correct placement computes less on any settled path
abbrev pub ComputesLeast : List (ℕ × ℕ) → (ℕ → Event → Type 0) → Placement → Type 0
ComputesLeast arcs Is p = (q : Placement) → IsCorrect arcs Is q → IsSafe arcs Is q → ComputesAtMost arcs Is p q

-- every safe correct placement that computes as few on all settled paths is live wherever this one is
abbrev pub LivesLeast : List (ℕ × ℕ) → ℕ → (ℕ → Event → Type 0) → Placement → Type 0
LivesLeast arcs n Is p = (q : Placement) → IsCorrect arcs Is q → IsSafe arcs Is q → ComputesAtMost arcs Is q p → LivesWithin arcs n Is p q
