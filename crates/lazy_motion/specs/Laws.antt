-- There is one lazy placement at most.
use Rattle.std.specs.Prelude.{◌≡◌, ℕ, List, length}
use Rattle.ir_types.specs.declared.syntax.Function.{Function}
use Rattle.point_graph.specs.declared.graph.Points.{Points}
use Rattle.expressions.specs.declared.syntax.Event.{Event}
use Rattle.expressions.specs.Kept.{Kept}
use Rattle.expressions.specs.Tables.{IsEventOf}
use Rattle.placement.specs.declared.placements.Placement.{Placement}
use Rattle.placement.specs.Placements.{arcs_of}
use Rattle.best_choice.specs.Best.{IsPlacementOn}
use Rattle.lazy_motion.specs.Motion.{IsLazy}

-- the lazy placement, with ascending lists
pub record IsLazyOn (arcs : List (ℕ × ℕ)) (n : ℕ) (Is : ℕ → Event → Type 0) (p : Placement) : Type 0 where
  pub placement : IsPlacementOn arcs n Is p
  pub lazy : IsLazy arcs Is p

-- the lazy placement of expression e of a function
abbrev pub IsLazyIn : Function → Points → Kept → ℕ → Placement → Type 0
IsLazyIn f points t e p = IsLazyOn (arcs_of points.edges) (length points.points) (IsEventOf f points t e) p

-- two lazy placements of an expression are the same
abbrev pub OneLazyIn : Type 0
OneLazyIn = (f : Function) (points : Points) (t : Kept) (e : ℕ) (p q : Placement) → IsLazyIn f points t e p → IsLazyIn f points t e q → p ≡ q
