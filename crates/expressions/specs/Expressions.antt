-- What stands at a point, and the expression that occurs there.
use Rattle.std.specs.Prelude.{◌≡◌, ℕ, ◌+◌, ◌&&◌, not, Bool, true, false, List, [], ◌∷◌, Option, Some, None, IsSome, take, drop, slice_get, if◌then◌else◌, option_and_then}
use Rattle.std.specs.List.{list_any}
use Rattle.std.specs.Option.{option_map, option_map_or}
use Rattle.mc_num.specs.Value.{traps_at}
use Rattle.ir_types.specs.Program.{Program}
use Rattle.ir_types.specs.Rules.{is_nil}
use Rattle.ir_types.specs.declared.syntax.Operand.{Operand}
use Rattle.ir_types.specs.declared.syntax.Operand.TheVariants as operands
use Rattle.ir_types.specs.declared.syntax.Variable.{Variable}
use Rattle.ir_types.specs.declared.syntax.Variable.TheVariants.{Local, Global}
use Rattle.ir_types.specs.contracts.syntax.VariablePartialEq.TheImpl.{eq-value}
use Rattle.ir_types.specs.declared.syntax.Kind.{Kind}
use Rattle.ir_types.specs.declared.syntax.Kind.TheVariants.{Load, Store, Compute, Call}
use Rattle.ir_types.specs.declared.syntax.Instr.{Instr}
use Rattle.ir_types.specs.declared.syntax.Terminator.{Terminator}
use Rattle.ir_types.specs.declared.syntax.Block.{Block}
use Rattle.ir_types.specs.declared.syntax.Function.{Function}
use Rattle.point_graph.specs.declared.graph.Point.{Point}
use Rattle.point_graph.specs.declared.graph.Point.TheVariants.{Start, Head, Instr as InstrPoint, Term}
use Rattle.expressions.specs.declared.syntax.Arg.{Arg}
use Rattle.expressions.specs.declared.syntax.Arg.TheVariants.{Const, Param, Var}
use Rattle.expressions.specs.declared.syntax.Expr.{Expr}

-- ---- what stands at a point

-- nothing; an instruction that does this, behind these of its block; a terminator
pub data Content : Type 0 where
  nothing : Content
  instr_there : (before : List Instr) (kind : Kind) → Content
  term_there : (term : Terminator) → Content

abbrev pub place_content : Block → ℕ → Content
place_content block k = option_map_or (λ i. instr_there (take k block.instrs) i.kind) (slice_get block.instrs k) nothing

abbrev pub content : Function → Point → Content
content f Start = nothing
content f (Head b) = nothing
content f (InstrPoint b k) = option_map_or (λ block. place_content block k) (slice_get f.blocks b) nothing
content f (Term b) = option_map_or (λ block. term_there block.term) (slice_get f.blocks b) nothing

abbrev pub instr_at : Function → ℕ → ℕ → Option Instr
instr_at f b k = option_and_then (λ block. slice_get block.instrs k) (slice_get f.blocks b)

-- ---- what may change a variable

abbrev pub is_same_variable : Variable → Variable → Bool
is_same_variable = eq-value.it

abbrev pub is_global : Variable → Bool
is_global (Local _) = false
is_global (Global _) = true

-- the function of this number has blocks
abbrev pub is_defined : Program → ℕ → Bool
is_defined m callee = option_map_or (λ f. not (is_nil f.blocks)) (slice_get m.functions callee) false

-- a store to the variable changes it, and a call of a defined function may change a global
abbrev pub changes : Program → Variable → Kind → Bool
changes m v (Store _ w) = is_same_variable w v
changes m v (Call callee _) = is_global v && is_defined m callee
changes m v _ = false

-- ---- expressions

-- the variable that a load read, unless one of these instructions may have changed it since
abbrev pub loaded : Program → Kind → List Instr → Option Arg
loaded m (Load v) since = if list_any (λ i. changes m v i.kind) since then None else Some (Var v)
loaded m _ since = None

-- what an operand stands for behind these instructions of its block
abbrev pub arg_of : Program → List Instr → Operand → Option Arg
arg_of m before (operands.Const value) = Some (Const value)
arg_of m before (operands.Param p) = Some (Param p)
arg_of m before (operands.Reg r) = option_and_then (λ i. loaded m i.kind (drop (r + 1) before)) (slice_get before r)

-- what the elements have, if each has something
abbrev pub each_some : {A B : Type 0} → (A → Option B) → List A → Option (List B)
each_some g [] = Some []
each_some g (x ∷ xs) = option_and_then (λ y. option_map (λ ys. y ∷ ys) (each_some g xs)) (g x)

-- the expression of an operation, if each of its operands stands for something
abbrev pub expr_by : (Operand → Option Arg) → Kind → Option Expr
expr_by g (Compute op operands) = option_map (λ args. record { op = op; args = args }) (each_some g operands)
expr_by g _ = None

abbrev pub content_expr : Program → Content → Option Expr
content_expr m (instr_there before kind) = expr_by (arg_of m before) kind
content_expr m _ = None

-- the expression that occurs at a point, if one does
abbrev pub expr_at : Program → Function → Point → Option Expr
expr_at m f point = content_expr m (content f point)

-- ---- traps

-- the second operand, where it is a constant
abbrev pub constant_operand : Option Operand → Option ℕ
constant_operand (Some (operands.Const value)) = Some value
constant_operand _ = None

abbrev pub constant_arg : Option Arg → Option ℕ
constant_arg (Some (Const value)) = Some value
constant_arg _ = None

-- what is known of the divisor of an expression
abbrev pub divisor : Expr → Option ℕ
divisor e = constant_arg (slice_get e.args 1)

abbrev pub expr_traps : Expr → Bool
expr_traps e = traps_at e.op (divisor e)
