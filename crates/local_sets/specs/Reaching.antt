-- Where an expression is available and where it is wanted, over all paths of the point graph.
-- `Is v event` says what point v is to the expression.
use Rattle.std.specs.Prelude.{◌≡◌, ◌↔◌, ℕ, Bool, true, List, [], ◌∷◌, All, Some, flat_map, slice_get}
use Rattle.point_graph.specs.declared.graph.Point.{Point}
use Rattle.point_graph.specs.declared.graph.Point.TheVariants.{Head, Term}
use Rattle.expressions.specs.declared.syntax.Event.{Event}
use Rattle.expressions.specs.declared.syntax.Event.TheVariants.{Occurs}
use Rattle.flow_paths.specs.Paths.{IsPath, Place, at_point, on_edge, met, IsValid}
use Rattle.placement.specs.Placements.{Kills}

abbrev pub OccursAt : (ℕ → Event → Type 0) → Place → Type 0
OccursAt Is (at_point v) = Is v Occurs
OccursAt Is (on_edge e) = ⊥

-- every path from Start to v has an occurrence with no kill after it, v not counted
abbrev pub IsAvailable : List (ℕ × ℕ) → (ℕ → Event → Type 0) → ℕ → Type 0
IsAvailable arcs Is v = (path : List ℕ) → IsPath arcs 0 path v → IsValid (OccursAt Is) (Kills Is) (met arcs path)

-- some path from v meets an occurrence with no kill before it
pub record IsWanted (arcs : List (ℕ × ℕ)) (Is : ℕ → Event → Type 0) (v : ℕ) : Type 0 where
  pub path : List ℕ
  pub occurrence : ℕ
  pub leads : IsPath arcs v path occurrence
  pub occurs : Is occurrence Occurs
  pub unkilled : All (λ m. ¬ Kills Is m) (met arcs path)

-- the head and the terminator of each of these blocks
abbrev pub ends_of : List ℕ → List Point
ends_of blocks = flat_map (λ b. Head b ∷ Term b ∷ []) blocks

-- the flag tells at each number of the point whether P holds
abbrev pub Tells : List Point → (ℕ → Type 0) → Point → Bool → Type 0
Tells points P point flag = (v : ℕ) → slice_get points v ≡ Some point → (flag ≡ true) ↔ P v
