-- The same text where registers have other numbers.
use Rattle.std.specs.Prelude.{ℕ, Option, Some, None, map}
use Rattle.ir_types.specs.declared.syntax.Operand.{Operand}
use Rattle.ir_types.specs.declared.syntax.Operand.TheVariants.{Const, Param, Reg}
use Rattle.ir_types.specs.declared.syntax.Kind.{Kind}
use Rattle.ir_types.specs.declared.syntax.Kind.TheVariants.{Load, Store, Compute, Call}

abbrev pub renamed : (ℕ → ℕ) → Operand → Operand
renamed number (Const value) = Const value
renamed number (Param p) = Param p
renamed number (Reg r) = Reg (number r)

abbrev pub renamed_kind : (ℕ → ℕ) → Kind → Kind
renamed_kind number (Load v) = Load v
renamed_kind number (Store operand v) = Store (renamed number operand) v
renamed_kind number (Compute op operands) = Compute op (map (renamed number) operands)
renamed_kind number (Call callee operands) = Call callee (map (renamed number) operands)

abbrev pub renamed_option : (ℕ → ℕ) → Option Operand → Option Operand
renamed_option number None = None
renamed_option number (Some operand) = Some (renamed number operand)
