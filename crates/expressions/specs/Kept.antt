-- What a table keeps.
use Rattle.std.specs.Prelude.{ℕ, ◌<◌, ◌^◌, List, Option, All, length}
use Rattle.mc_num.specs.Op.{IsWellFormedOp}
use Rattle.mc_num.specs.Value.{DivisorFits}
use Rattle.ir_types.specs.Program.{Program}
use Rattle.expressions.specs.declared.syntax.Expr.{Expr}
use Rattle.expressions.specs.Expressions.{divisor}

-- a table is seen as its module, its expressions, and for each point the number of the expression that occurs there, if one does
pub record Kept : Type 0 where
  pub module_of : Program
  pub exprs : List Expr
  pub occurring : List (Option ℕ)

-- an operation that exists, with a divisor of its width where that is a constant
pub record IsSound (e : Expr) : Type 0 where
  pub exists : IsWellFormedOp e.op
  pub divisor_fits : DivisorFits e.op (divisor e)

pub record AreSound (exprs : List Expr) : Type 0 where
  pub each : All IsSound exprs
  pub few : length exprs < 2 ^ 32
