-- The text of an expression: its operation as in the canonical text, with variables in place of registers.
use Rattle.std.specs.Prelude.{ℕ, List, [], ◌∷◌, ◌++◌, codes, slice_get}
use Rattle.std.specs.Option.{option_map_or}
use Rattle.mc_num.specs.declared.op.Width.{Width}
use Rattle.mc_num.specs.declared.op.Width.TheVariants.{I1}
use Rattle.mc_num.specs.declared.op.Op.{Op}
use Rattle.mc_num.specs.declared.op.Op.TheVariants.{Bin, Icmp, Cast, Select}
use Rattle.ir_types.specs.Program.{Program}
use Rattle.ir_types.specs.declared.syntax.Function.{Function}
use Rattle.ir_printer.specs.Text.{bin_text, cast_text, constant_text, local_text, pred_text, variable_text, width_text}
use Rattle.expressions.specs.declared.syntax.Arg.{Arg}
use Rattle.expressions.specs.declared.syntax.Arg.TheVariants.{Const, Param, Var}
use Rattle.expressions.specs.declared.syntax.Expr.{Expr}

-- ---- an operation in the form of the canonical text, by what spells an operand of a type

-- a type and an operand of it
abbrev pub typed_by : {X : Type 0} → (Width → X → List ℕ) → Width → X → List ℕ
typed_by spell w x = width_text w ++ (codes " " ++ spell w x)

-- two operands of one type
abbrev pub pair_by : {X : Type 0} → (Width → X → List ℕ) → Width → List X → List ℕ
pair_by spell w (one ∷ other ∷ []) = typed_by spell w one ++ (codes ", " ++ spell w other)
pair_by spell w _ = []

-- an operand of one type, and another type
abbrev pub cast_by : {X : Type 0} → (Width → X → List ℕ) → Width → Width → List X → List ℕ
cast_by spell from to (one ∷ []) = typed_by spell from one ++ (codes " to " ++ width_text to)
cast_by spell from to _ = []

-- a condition and two operands of one type
abbrev pub choices_by : {X : Type 0} → (Width → X → List ℕ) → Width → List X → List ℕ
choices_by spell w (test ∷ one ∷ other ∷ []) = typed_by spell I1 test ++ (codes ", " ++ (typed_by spell w one ++ (codes ", " ++ typed_by spell w other)))
choices_by spell w _ = []

abbrev pub operation_by : {X : Type 0} → (Width → X → List ℕ) → Op → List X → List ℕ
operation_by spell (Bin o w) operands = bin_text o ++ (codes " " ++ pair_by spell w operands)
operation_by spell (Icmp p w) operands = codes "icmp " ++ (pred_text p ++ (codes " " ++ pair_by spell w operands))
operation_by spell (Cast o from to) operands = cast_text o ++ (codes " " ++ cast_by spell from to operands)
operation_by spell (Select w) operands = codes "select " ++ choices_by spell w operands

-- ---- expressions

-- a constant of this type, or the name of a parameter or a variable
abbrev pub arg_text : Program → Function → Width → Arg → List ℕ
arg_text m f w (Const n) = constant_text w n
arg_text m f w (Param p) = option_map_or (λ x. local_text x.1) (slice_get f.params p) []
arg_text m f w (Var v) = variable_text m f v

-- as `add i32 %a, 1`
abbrev pub expr_text : Program → Function → Expr → List ℕ
expr_text m f e = operation_by (arg_text m f) e.op e.args
