-- The canonical text of a module.
use Rattle.std.specs.Prelude.{ℕ, ◌==◌, Bool, true, false, List, [], ◌∷◌, ◌++◌, Option, Some, None, codes, map, slice_get, if◌then◌else◌}
use Rattle.std.specs.List.{flat_map}
use Rattle.std.specs.Option.{option_map_or}
use Rattle.std.specs.Fmt.{signed_decimal}
use Rattle.mc_num.specs.declared.op.Width.{Width}
use Rattle.mc_num.specs.declared.op.Width.TheVariants.{I1, I8, I16, I32, I64}
use Rattle.mc_num.specs.declared.op.Bin.{Bin}
use Rattle.mc_num.specs.declared.op.Bin.TheVariants.{Add, Sub, Mul, UDiv, SDiv, URem, SRem, Shl, LShr, AShr, And, Or, Xor}
use Rattle.mc_num.specs.declared.op.Pred.{Pred}
use Rattle.mc_num.specs.declared.op.Pred.TheVariants.{Eq, Ne, Ugt, Uge, Ult, Ule, Sgt, Sge, Slt, Sle}
use Rattle.mc_num.specs.declared.op.Cast.{Cast}
use Rattle.mc_num.specs.declared.op.Cast.TheVariants.{Zext, Sext, Trunc, Bitcast}
use Rattle.mc_num.specs.declared.op.Op.{Op}
use Rattle.mc_num.specs.declared.op.Op.TheVariants as op
use Rattle.ir_types.specs.Names.{name_text, quoted_text}
use Rattle.ir_types.specs.Program.{Program}
use Rattle.ir_types.specs.Rules.{is_nil}
use Rattle.ir_types.specs.TreeOf.{signed, operand_name}
use Rattle.ir_types.specs.declared.name.Name.{Name}
use Rattle.ir_types.specs.declared.syntax.Operand.{Operand}
use Rattle.ir_types.specs.declared.syntax.Operand.TheVariants.{Const, Param, Reg}
use Rattle.ir_types.specs.declared.syntax.Variable.{Variable}
use Rattle.ir_types.specs.declared.syntax.Variable.TheVariants.{Local, Global as GlobalVariable}
use Rattle.ir_types.specs.declared.syntax.Kind.{Kind}
use Rattle.ir_types.specs.declared.syntax.Kind.TheVariants.{Load, Store, Compute, Call}
use Rattle.ir_types.specs.declared.syntax.Instr.{Instr}
use Rattle.ir_types.specs.declared.syntax.Terminator.{Terminator}
use Rattle.ir_types.specs.declared.syntax.Terminator.TheVariants.{Return, Jump, Branch, Switch, Unreachable}
use Rattle.ir_types.specs.declared.syntax.Block.{Block}
use Rattle.ir_types.specs.declared.syntax.Function.{Function}
use Rattle.ir_types.specs.declared.syntax.Global.{Global}

-- ---- words

abbrev pub width_text : Width → List ℕ
width_text I1 = codes "i1"
width_text I8 = codes "i8"
width_text I16 = codes "i16"
width_text I32 = codes "i32"
width_text I64 = codes "i64"

-- what a function gives
abbrev pub type_text : Option Width → List ℕ
type_text None = codes "void"
type_text (Some w) = width_text w

abbrev pub bin_text : Bin → List ℕ
bin_text Add = codes "add"
bin_text Sub = codes "sub"
bin_text Mul = codes "mul"
bin_text UDiv = codes "udiv"
bin_text SDiv = codes "sdiv"
bin_text URem = codes "urem"
bin_text SRem = codes "srem"
bin_text Shl = codes "shl"
bin_text LShr = codes "lshr"
bin_text AShr = codes "ashr"
bin_text And = codes "and"
bin_text Or = codes "or"
bin_text Xor = codes "xor"

abbrev pub pred_text : Pred → List ℕ
pred_text Eq = codes "eq"
pred_text Ne = codes "ne"
pred_text Ugt = codes "ugt"
pred_text Uge = codes "uge"
pred_text Ult = codes "ult"
pred_text Ule = codes "ule"
pred_text Sgt = codes "sgt"
pred_text Sge = codes "sge"
pred_text Slt = codes "slt"
pred_text Sle = codes "sle"

abbrev pub cast_text : Cast → List ℕ
cast_text Zext = codes "zext"
cast_text Sext = codes "sext"
cast_text Trunc = codes "trunc"
cast_text Bitcast = codes "bitcast"

-- ---- names and values

-- `%` and a name
abbrev pub local_text : Name → List ℕ
local_text name = 37 ∷ name_text name

-- `@` and a name of the module
abbrev pub global_text : List ℕ → List ℕ
global_text name = 64 ∷ quoted_text name

-- `true` or `false` at one bit, else a decimal number with its sign
abbrev pub constant_text : Width → ℕ → List ℕ
constant_text I1 n = if n == 1 then codes "true" else codes "false"
constant_text I8 n = signed_decimal (signed I8 n)
constant_text I16 n = signed_decimal (signed I16 n)
constant_text I32 n = signed_decimal (signed I32 n)
constant_text I64 n = signed_decimal (signed I64 n)

-- a constant, or the name of a parameter or a result
abbrev pub value_text : Function → Block → Width → Operand → List ℕ
value_text f b w (Const n) = constant_text w n
value_text f b w (Param p) = option_map_or local_text (operand_name f b (Param p)) []
value_text f b w (Reg r) = option_map_or local_text (operand_name f b (Reg r)) []

-- a type and a value of it
abbrev pub typed_text : Function → Block → Width → Operand → List ℕ
typed_text f b w o = width_text w ++ (codes " " ++ value_text f b w o)

-- the type of a variable
abbrev pub variable_type : Program → Function → Variable → Width
variable_type m f (Local v) = option_map_or (λ x. x.0) (slice_get f.vars v) I32
variable_type m f (GlobalVariable g) = option_map_or (λ x. x.width) (slice_get m.globals g) I32

-- the name of a variable
abbrev pub variable_text : Program → Function → Variable → List ℕ
variable_text m f (Local v) = option_map_or (λ x. local_text x.1) (slice_get f.vars v) []
variable_text m f (GlobalVariable g) = option_map_or (λ x. global_text x.name) (slice_get m.globals g) []

-- `label` and the name of a block
abbrev pub label_text : Function → ℕ → List ℕ
label_text f t = codes "label " ++ option_map_or (λ x. local_text x.name) (slice_get f.blocks t) []

-- texts, each behind a separator where something stands before it
abbrev pub separated : List ℕ → Bool → List (List ℕ) → List ℕ
separated separator is_first [] = []
separated separator is_first (x ∷ xs) = (if is_first then [] else separator) ++ (x ++ separated separator false xs)

-- texts with commas between them
abbrev pub listed : List (List ℕ) → List ℕ
listed xs = separated (codes ", ") true xs

-- ---- instructions

abbrev pub operands_text : Function → Block → Width → List Operand → List ℕ
operands_text f b w (one ∷ other ∷ []) = typed_text f b w one ++ (codes ", " ++ value_text f b w other)
operands_text f b w _ = []

abbrev pub cast_operand_text : Function → Block → Width → Width → List Operand → List ℕ
cast_operand_text f b from to (one ∷ []) = typed_text f b from one ++ (codes " to " ++ width_text to)
cast_operand_text f b from to _ = []

abbrev pub choices_text : Function → Block → Width → List Operand → List ℕ
choices_text f b w (test ∷ one ∷ other ∷ []) = typed_text f b I1 test ++ (codes ", " ++ (typed_text f b w one ++ (codes ", " ++ typed_text f b w other)))
choices_text f b w _ = []

-- an operation of these operands
abbrev pub operation_text : Function → Block → Op → List Operand → List ℕ
operation_text f b (op.Bin o w) operands = bin_text o ++ (codes " " ++ operands_text f b w operands)
operation_text f b (op.Icmp p w) operands = codes "icmp " ++ (pred_text p ++ (codes " " ++ operands_text f b w operands))
operation_text f b (op.Cast o from to) operands = cast_text o ++ (codes " " ++ cast_operand_text f b from to operands)
operation_text f b (op.Select w) operands = codes "select " ++ choices_text f b w operands

-- the arguments of a call, each with the type of its parameter
abbrev pub arguments_texts : Function → Block → List (Width × Name) → List Operand → List (List ℕ)
arguments_texts f b (p ∷ ps) (o ∷ os) = typed_text f b p.0 o ∷ arguments_texts f b ps os
arguments_texts f b _ _ = []

abbrev pub call_text : Function → Block → List Operand → Function → List ℕ
call_text f b arguments callee =
    codes "call " ++ (type_text callee.ret ++ (codes " " ++ (global_text callee.name
    ++ (codes "(" ++ (listed (arguments_texts f b callee.params arguments) ++ codes ")")))))

abbrev pub kind_text : Program → Function → Block → Kind → List ℕ
kind_text m f b (Load v) = codes "load " ++ (width_text (variable_type m f v) ++ (codes ", ptr " ++ variable_text m f v))
kind_text m f b (Store o v) = codes "store " ++ (typed_text f b (variable_type m f v) o ++ (codes ", ptr " ++ variable_text m f v))
kind_text m f b (Compute o operands) = operation_text f b o operands
kind_text m f b (Call c arguments) = option_map_or (call_text f b arguments) (slice_get m.functions c) []

abbrev pub result_text : Option Name → List ℕ
result_text None = []
result_text (Some name) = local_text name ++ codes " = "

-- the line of a variable
abbrev pub alloca_line : Width × Name → List ℕ
alloca_line x = codes "  " ++ (local_text x.1 ++ (codes " = alloca " ++ (width_text x.0 ++ codes "\n")))

abbrev pub instr_line : Program → Function → Block → Instr → List ℕ
instr_line m f b i = codes "  " ++ (result_text i.result ++ (kind_text m f b i.kind ++ codes "\n"))

-- ---- blocks

-- a case, and the space behind it
abbrev pub case_text : Function → Width → ℕ × ℕ → List ℕ
case_text f w c = width_text w ++ (codes " " ++ (constant_text w c.0 ++ (codes ", " ++ (label_text f c.1 ++ codes " "))))

abbrev pub term_text : Function → Block → Terminator → List ℕ
term_text f b (Return None) = codes "ret void"
term_text f b (Return (Some o)) = codes "ret " ++ option_map_or (λ w. typed_text f b w o) f.ret []
term_text f b (Jump t) = codes "br " ++ label_text f t
term_text f b (Branch o t u) = codes "br " ++ (typed_text f b I1 o ++ (codes ", " ++ (label_text f t ++ (codes ", " ++ label_text f u))))
term_text f b (Switch w o t cases) =
    codes "switch " ++ (typed_text f b w o ++ (codes ", " ++ (label_text f t ++ (codes " [ " ++ (flat_map (case_text f w) cases ++ codes "]")))))
term_text f b Unreachable = codes "unreachable"

abbrev pub term_line : Function → Block → List ℕ
term_line f b = codes "  " ++ (term_text f b b.term ++ codes "\n")

-- the label, the lines of these variables, the instructions and the terminator
abbrev pub block_text : Program → Function → List (Width × Name) → Block → List ℕ
block_text m f vars b = name_text b.name ++ (codes ":\n" ++ (flat_map alloca_line vars ++ (flat_map (instr_line m f b) b.instrs ++ term_line f b)))

-- the variables stand in the first block
abbrev pub blocks_text : Program → Function → List Block → List ℕ
blocks_text m f [] = []
blocks_text m f (b ∷ bs) = block_text m f f.vars b ++ flat_map (block_text m f []) bs

-- ---- functions and globals

-- what a declaration says of its parameters, and what a definition says
abbrev pub type_of_param : Width × Name → List ℕ
type_of_param p = width_text p.0

abbrev pub param_text : Width × Name → List ℕ
param_text p = width_text p.0 ++ (codes " " ++ local_text p.1)

-- a function's type, name and parameters
abbrev pub head_text : Function → List (List ℕ) → List ℕ
head_text f params = type_text f.ret ++ (codes " " ++ (global_text f.name ++ (codes "(" ++ (listed params ++ codes ")"))))

-- a declaration on one line, or a definition with its blocks
abbrev pub function_with : Program → Function → List Block → List ℕ
function_with m f [] = codes "declare " ++ (head_text f (map type_of_param f.params) ++ codes "\n")
function_with m f (b ∷ bs) = codes "define " ++ (head_text f (map param_text f.params) ++ (codes " {\n" ++ (blocks_text m f (b ∷ bs) ++ codes "}\n")))

abbrev pub function_text : Program → Function → List ℕ
function_text m f = function_with m f f.blocks

abbrev pub global_line : Global → List ℕ
global_line g = global_text g.name ++ (codes " = global " ++ (width_text g.width ++ (codes " " ++ (constant_text g.width g.value ++ codes "\n"))))

-- the globals, then the functions, with an empty line between two functions and between the last global and the first function
abbrev pub text_of : Program → List ℕ
text_of m = flat_map global_line m.globals ++ separated (codes "\n") (is_nil m.globals) (map (function_text m) m.functions)
