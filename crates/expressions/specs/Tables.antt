-- The expressions of a function, each once, and the numbers of those that its points compute.
use Rattle.std.specs.Prelude.{◌≡◌, ◌≢◌, ◌↔◌, ℕ, ◌<◌, List, Option, Some, None, AllPairs, Contains, filter_map, slice_get}
use Rattle.std.specs.List.{AllZip}
use Rattle.ir_types.specs.WellFormed.{IsFunctionIn}
use Rattle.ir_types.specs.declared.syntax.Function.{Function}
use Rattle.point_graph.specs.declared.graph.Point.{Point}
use Rattle.point_graph.specs.declared.graph.Points.{Points}
use Rattle.expressions.specs.declared.syntax.Expr.{Expr}
use Rattle.expressions.specs.declared.syntax.Event.{Event}
use Rattle.mc_num.specs.Value.{CanTrap}
use Rattle.std.specs.Prelude.{Bool, IsTrue}
use Rattle.expressions.specs.Expressions.{divisor, expr_at, expr_traps}
use Rattle.expressions.specs.Events.{IsEvent}
use Rattle.expressions.specs.Kept.{Kept}

-- the members of `all`, each once, in the order in which they first come there
pub record AreFirstSeen {X : Type 0} (all once : List X) : Type 0 where
  pub members : (x : X) → Contains once x ↔ Contains all x
  pub differ : AllPairs (λ x y. x ≢ y) once
  pub in_order : (i j n : ℕ) (x y : X) → i < j → slice_get once i ≡ Some x → slice_get once j ≡ Some y → slice_get all n ≡ Some y
      → (k : ℕ) × (k < n) × (slice_get all k ≡ Some x)

-- the number of the expression in the list, or none where there is no expression
abbrev pub IsNumberOf : List Expr → Option Expr → Option ℕ → Type 0
IsNumberOf exprs (Some e) (Some x) = slice_get exprs x ≡ Some e
IsNumberOf exprs None None = Unit {0}
IsNumberOf exprs _ _ = ⊥

-- the table of a function and its points
pub record IsTable (f : Function) (p : Points) (t : Kept) : Type 0 where
  pub rules : IsFunctionIn t.module_of f
  pub exprs : AreFirstSeen (filter_map (expr_at t.module_of f) p.points) t.exprs
  pub occurring : AllZip (λ point x. IsNumberOf t.exprs (expr_at t.module_of f point) x) p.points t.occurring

-- the point of this number is this to the expression of this number
pub record IsEventOf (f : Function) (p : Points) (t : Kept) (e point : ℕ) (event : Event) : Type 0 where
  pub expr : Expr
  pub expr_there : slice_get t.exprs e ≡ Some expr
  pub at : Point
  pub point_there : slice_get p.points point ≡ Some at
  pub is_event : IsEvent t.module_of f expr at event

-- whether the expression of this number can trap
pub record TrapsAsTold (exprs : List Expr) (e : ℕ) (traps : Bool) : Type 0 where
  pub expr : Expr
  pub there : slice_get exprs e ≡ Some expr
  pub exact : IsTrue traps ↔ CanTrap expr.op (divisor expr)
  pub test : traps ≡ expr_traps expr
