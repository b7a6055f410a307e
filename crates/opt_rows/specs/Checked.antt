-- Placements that were found correct.
use Rattle.std.specs.Prelude.{◌≡◌, ◌<◌, ℕ, true, List, [], All, Some, length, slice_get}
use Rattle.ir_types.specs.Program.{Program}
use Rattle.ir_types.specs.declared.syntax.Function.{Function}
use Rattle.ir_machine.specs.Same.{is_defined}
use Rattle.point_graph.specs.declared.graph.Points.{Points}
use Rattle.expressions.specs.declared.syntax.Expr.{Expr}
use Rattle.expressions.specs.Expressions.{expr_traps}
use Rattle.expressions.specs.Kept.{Kept}
use Rattle.expressions.specs.Tables.{IsEventOf}
use Rattle.placement.specs.declared.placements.Placement.{Placement}
use Rattle.placement.specs.Placements.{arcs_of, IsCorrect}
use Rattle.transform.specs.Transformed.{HasPlaced, IsSoundIn, defined_before}
use Rattle.transform.specs.declared.placed.Placed.{Placed}

-- where the expression can trap nothing is inserted
abbrev pub IsSafeByTable : Kept → ℕ → Placement → Type 0
IsSafeByTable t x placement = (expr : Expr) → slice_get t.exprs x ≡ Some expr → expr_traps expr ≡ true → placement.inserted ≡ []

-- the placement is correct, and inserts nothing where the expression can trap
pub record IsChecked (f : Function) (p : Points) (t : Kept) (x : ℕ) (placement : Placement) : Type 0 where
  pub edges : All (λ n. n < length p.edges) placement.inserted
  pub points : All (λ n. n < length p.points) placement.kept
  pub correct : IsCorrect (arcs_of p.edges) (IsEventOf f p t x) placement
  pub safe : IsSafeByTable t x placement

-- so are those of the first n expressions
pub record AreChecked (f : Function) (p : Points) (t : Kept) (n : ℕ) (placements : List Placement) : Type 0 where
  pub count : length placements ≡ n
  pub each : (x : ℕ) (placement : Placement) → slice_get placements x ≡ Some placement → IsChecked f p t x placement

-- what is placed in the first n functions
pub record AreSoundSoFar (m : Program) (n : ℕ) (placed : List Placed) : Type 0 where
  pub count : length placed ≡ defined_before m.functions n
  pub each : (k : ℕ) (f : Function) → k < n → slice_get m.functions k ≡ Some f → is_defined f.blocks ≡ true → HasPlaced (IsSoundIn m) m.functions placed k f
