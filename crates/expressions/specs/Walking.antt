-- What a walk over points finds.
use Rattle.std.specs.Prelude.{◌≡◌, ℕ, ◌+◌, ◌<◌, ◌≤◌, ◌⊎◌, List, [], ◌∷◌, ◌++◌, Option, Some, None, All, Contains, length, map}
use Rattle.std.specs.List.{range_with_len}
use Rattle.mc_num.specs.Op.{IsWellFormedOp}
use Rattle.mc_num.specs.Value.{DivisorFits}
use Rattle.ir_types.specs.Program.{Program}
use Rattle.ir_types.specs.declared.syntax.Kind.{Kind}
use Rattle.ir_types.specs.declared.syntax.Kind.TheVariants.{Compute}
use Rattle.ir_types.specs.declared.syntax.Instr.{Instr}
use Rattle.ir_types.specs.declared.syntax.Block.{Block}
use Rattle.std.specs.Prelude.{slice_get}
use Rattle.expressions.specs.declared.syntax.Expr.{Expr}
use Rattle.expressions.specs.declared.walk.Found.{Found}
use Rattle.expressions.specs.Expressions.{constant_operand, content_expr, place_content}
use Rattle.expressions.specs.Kept.{IsSound}
use Rattle.expressions.specs.Tables.{IsNumberOf}

-- the expressions, and for each point that was passed the number of the one that occurs there
pub record Seen : Type 0 where
  pub exprs : List Expr
  pub occurring : List (Option ℕ)

abbrev pub seen_of : Found → Seen
seen_of w = record { exprs = w.exprs.keys; occurring = w.occurring.items }

-- the list with one more, where that isn't there yet
abbrev pub Joined : List Expr → Option Expr → List Expr → Type 0
Joined old None new = new ≡ old
Joined old (Some e) new = (Contains old e × (new ≡ old)) ⊎ ((¬ Contains old e) × (new ≡ old ++ e ∷ []))

-- the expressions after one more point, and the number of what occurs there
pub record AddsNumber (e : Option Expr) (old new : List Expr) (x : Option ℕ) : Type 0 where
  pub joined : Joined old e new
  pub number : IsNumberOf new e x

-- one more point, at which this occurs
pub record AddsOne (e : Option Expr) (old new : Seen) : Type 0 where
  pub x : Option ℕ
  pub adds : AddsNumber e old.exprs new.exprs x
  pub occurring : new.occurring ≡ old.occurring ++ x ∷ []

abbrev pub AddsAll : List (Option Expr) → Seen → Seen → Type 0
AddsAll [] old new = new ≡ old
AddsAll (e ∷ es) old new = (mid : Seen) × AddsOne e old mid × AddsAll es mid new

-- what occurs at the points of a block, one after another
abbrev pub place_expr : Program → Block → ℕ → Option Expr
place_expr m block k = content_expr m (place_content block k)

abbrev pub block_exprs : Program → Block → List (Option Expr)
block_exprs m block = None ∷ map (place_expr m block) (range_with_len 0 (length block.instrs)) ++ None ∷ []

-- the operation exists, and its divisor is of its width where that is a constant
abbrev pub IsSoundKind : Kind → Type 0
IsSoundKind (Compute op operands) = IsWellFormedOp op × DivisorFits op (constant_operand (slice_get operands 1))
IsSoundKind _ = Unit {0}

abbrev pub AreSoundInstrs : List Instr → Type 0
AreSoundInstrs instrs = All (λ i. IsSoundKind i.kind) instrs

abbrev pub IsSoundIfAny : Option Expr → Type 0
IsSoundIfAny None = Unit {0}
IsSoundIfAny (Some e) = IsSound e

-- sound expressions, no more than there are points
pub record IsFit (s : Seen) : Type 0 where
  pub sound : All IsSound s.exprs
  pub few : length s.exprs ≤ length s.occurring
