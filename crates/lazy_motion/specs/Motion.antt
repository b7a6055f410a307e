-- Lazy code motion of an expression, over all paths of the point graph.
-- `Is v event` says what point v is to the expression.
use Rattle.std.specs.Prelude.{◌≡◌, ◌≢◌, ◌<◌, ◌↔◌, ℕ, List, [], ◌∷◌, ◌++◌, Contains, length}
use Rattle.expressions.specs.declared.syntax.Event.{Event}
use Rattle.expressions.specs.declared.syntax.Event.TheVariants as events
use Rattle.flow_paths.specs.Paths.{source, target, IsPath, Place, at_point, on_edge, met, IsValid}
use Rattle.placement.specs.declared.placements.Placement.{Placement}
use Rattle.placement.specs.Placements.{Kills, IsInevitable}

abbrev pub IsOccurrence : (ℕ → Event → Type 0) → Place → Type 0
IsOccurrence Is (at_point v) = Is v events.Occurs
IsOccurrence Is (on_edge e) = ⊥

-- the edge enters the inevitable points, and some path to its beginning has no occurrence after its last kill, its beginning counted
pub record IsEarly (arcs : List (ℕ × ℕ)) (Is : ℕ → Event → Type 0) (e : ℕ) : Type 0 where
  pub inevitable : IsInevitable arcs Is (target arcs e)
  pub not_before : ¬ (IsInevitable arcs Is (source arcs e))
  pub path : List ℕ
  pub leads : IsPath arcs 0 path (source arcs e)
  pub not_computed : ¬ (IsValid (IsOccurrence Is) (Kills Is) (met arcs path ++ at_point (source arcs e) ∷ []))

abbrev pub IsEarlyPlace : List (ℕ × ℕ) → (ℕ → Event → Type 0) → Place → Type 0
IsEarlyPlace arcs Is (at_point v) = ⊥
IsEarlyPlace arcs Is (on_edge e) = IsEarly arcs Is e

-- every path from Start that ends with the edge crosses an early edge after its last occurrence, or anywhere where it has none
abbrev pub IsDelayedOn : List (ℕ × ℕ) → (ℕ → Event → Type 0) → ℕ → Type 0
IsDelayedOn arcs Is e = (path : List ℕ) → IsPath arcs 0 path (source arcs e) → IsValid (IsEarlyPlace arcs Is) (IsOccurrence Is) (met arcs (path ++ e ∷ []))

-- a point other than Start all edges into which are delayed
abbrev pub IsDelayedAt : List (ℕ × ℕ) → (ℕ → Event → Type 0) → ℕ → Type 0
IsDelayedAt arcs Is v = (v ≢ 0) × ((e : ℕ) → e < length arcs → target arcs e ≡ v → IsDelayedOn arcs Is e)

-- a delayed edge whose end isn't delayed
pub record IsLatestOn (arcs : List (ℕ × ℕ)) (Is : ℕ → Event → Type 0) (e : ℕ) : Type 0 where
  pub is_edge : e < length arcs
  pub delayed : IsDelayedOn arcs Is e
  pub not_after : ¬ (IsDelayedAt arcs Is (target arcs e))

-- a delayed occurrence
abbrev pub IsLatestAt : List (ℕ × ℕ) → (ℕ → Event → Type 0) → ℕ → Type 0
IsLatestAt arcs Is v = Is v events.Occurs × IsDelayedAt arcs Is v

-- exactly the delayed edges whose end isn't delayed are inserted, and exactly the delayed occurrences are kept
pub record IsLazy (arcs : List (ℕ × ℕ)) (Is : ℕ → Event → Type 0) (p : Placement) : Type 0 where
  pub inserted : (e : ℕ) → Contains p.inserted e ↔ IsLatestOn arcs Is e
  pub kept : (v : ℕ) → Contains p.kept v ↔ IsLatestAt arcs Is v
