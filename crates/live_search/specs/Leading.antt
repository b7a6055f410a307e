-- The points from which some path leads to a goal.
use Rattle.std.specs.Prelude.{ℕ, List, All, Contains}
use Rattle.flow_paths.specs.Paths.{Place, at_point, on_edge, IsPath, met}

-- a graph with this many points and these arcs
pub record Graph : Type 0 where
  pub points : ℕ
  pub arcs : List (ℕ × ℕ)

-- the place is one of these points or one of these arcs
abbrev pub IsAmong : List ℕ → List ℕ → Place → Type 0
IsAmong points arcs (at_point v) = Contains points v
IsAmong points arcs (on_edge e) = Contains arcs e

-- some path from v leads to a goal, and meets none of these points and arcs before it
pub record LeadsTo (g : Graph) (points arcs goals : List ℕ) (v : ℕ) : Type 0 where
  pub path : List ℕ
  pub goal : ℕ
  pub leads : IsPath g.arcs v path goal
  pub is_goal : Contains goals goal
  pub free : All (λ m. ¬ IsAmong points arcs m) (met g.arcs path)
