-- Placements of an expression, over all paths of the point graph.
-- `Is v event` says what point v is to the expression.
use Rattle.std.specs.Prelude.{◌<◌, ◌⊎◌, ℕ, List, All, Contains, map}
use Rattle.point_graph.specs.declared.graph.Edge.{Edge}
use Rattle.expressions.specs.declared.syntax.Event.{Event}
use Rattle.expressions.specs.declared.syntax.Event.TheVariants as events
use Rattle.flow_paths.specs.Paths.{target, IsPath, Place, at_point, on_edge, met, IsValid}
use Rattle.flow_paths.specs.Inevitable as inevitable
use Rattle.placement.specs.declared.placements.Placement.{Placement}

-- the arcs of a point graph
abbrev pub arcs_of : List Edge → List (ℕ × ℕ)
arcs_of edges = map (λ e. (e.from, e.to)) edges

-- ---- correct placements

-- an inserted edge and a kept occurrence write
abbrev pub Writes : (ℕ → Event → Type 0) → Placement → Place → Type 0
Writes Is p (at_point v) = Is v events.Occurs × Contains p.kept v
Writes Is p (on_edge e) = Contains p.inserted e

abbrev pub Kills : (ℕ → Event → Type 0) → Place → Type 0
Kills Is (at_point v) = Is v events.Kills
Kills Is (on_edge e) = ⊥

-- an occurrence that isn't kept
abbrev pub IsDeleted : (ℕ → Event → Type 0) → Placement → ℕ → Type 0
IsDeleted Is p v = Is v events.Occurs × ¬ (Contains p.kept v)

-- a write on the path, its last point not counted, has no kill after it
abbrev pub IsValidPath : List (ℕ × ℕ) → (ℕ → Event → Type 0) → Placement → List ℕ → Type 0
IsValidPath arcs Is p path = IsValid (Writes Is p) (Kills Is) (met arcs path)

-- every path from Start to a deleted occurrence reaches it valid
abbrev pub IsCorrect : List (ℕ × ℕ) → (ℕ → Event → Type 0) → Placement → Type 0
IsCorrect arcs Is p = (v : ℕ) (path : List ℕ) → IsDeleted Is p v → IsPath arcs 0 path v → IsValidPath arcs Is p path

-- a deleted occurrence that some path from Start does not reach valid
pub record IsInvalid (arcs : List (ℕ × ℕ)) (Is : ℕ → Event → Type 0) (p : Placement) (v : ℕ) : Type 0 where
  pub deleted : IsDeleted Is p v
  pub path : List ℕ
  pub leads : IsPath arcs 0 path v
  pub invalid : ¬ (IsValidPath arcs Is p path)

-- the smallest of these
pub record IsFirstInvalid (arcs : List (ℕ × ℕ)) (Is : ℕ → Event → Type 0) (p : Placement) (v : ℕ) : Type 0 where
  pub is_invalid : IsInvalid arcs Is p v
  pub first : (w : ℕ) → w < v → ¬ (IsInvalid arcs Is p w)

-- ---- live places

-- some path from v meets a deleted occurrence with no write before it on the path
pub record IsLiveAt (arcs : List (ℕ × ℕ)) (Is : ℕ → Event → Type 0) (p : Placement) (v : ℕ) : Type 0 where
  pub path : List ℕ
  pub occurrence : ℕ
  pub leads : IsPath arcs v path occurrence
  pub deleted : IsDeleted Is p occurrence
  pub unwritten : All (λ m. ¬ (Writes Is p m)) (met arcs path)

-- an edge that isn't inserted, with a live end
abbrev pub IsLiveOn : List (ℕ × ℕ) → (ℕ → Event → Type 0) → Placement → ℕ → Type 0
IsLiveOn arcs Is p e = ¬ (Contains p.inserted e) × IsLiveAt arcs Is p (target arcs e)

-- ---- safe placements

-- the expression occurs on every way from v, with no kill and no bar before it
abbrev pub IsInevitable : List (ℕ × ℕ) → (ℕ → Event → Type 0) → ℕ → Type 0
IsInevitable arcs Is v = inevitable.IsInevitable arcs (λ w. Is w events.Occurs) (λ w. Is w events.Kills ⊎ Is w events.Bars) v

-- each inserted edge leads to an inevitable point
abbrev pub IsSafe : List (ℕ × ℕ) → (ℕ → Event → Type 0) → Placement → Type 0
IsSafe arcs Is p = (e : ℕ) → Contains p.inserted e → IsInevitable arcs Is (target arcs e)
