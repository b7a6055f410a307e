-- The module that a tree without a problem means.
use Rattle.std.specs.Prelude.{ℕ, ◌+◌, Bool, true, false, List, [], ◌∷◌, ◌++◌, Option, Some, None, map, option_to_list, if◌then◌else◌}
use Rattle.std.specs.Option.{option_map_or}
use Rattle.mc_num.specs.declared.op.Width.{Width}
use Rattle.mc_num.specs.declared.op.Width.TheVariants.{I1}
use Rattle.mc_num.specs.declared.op.Op.TheVariants as op
use Rattle.ir_types.specs.Program.{Program}
use Rattle.ir_types.specs.Literals.{literal_value}
use Rattle.ir_types.specs.Definitions.{Defined, meaning_of, name_of, nothing, define}
use Rattle.ir_types.specs.Uses.{Context, address_meaning}
use Rattle.ir_types.specs.Rules.{Reached, after_instr, at_block, after_block, at_body, is_nil, symbols_of, context_in}
use Rattle.ir_types.specs.declared.name.Name.{Name}
use Rattle.ir_types.specs.declared.name.Name.TheVariants.{Text, Number}
use Rattle.ir_types.specs.declared.rules.Meaning.{Meaning}
use Rattle.ir_types.specs.declared.rules.Meaning.TheVariants as meaning
use Rattle.ir_types.specs.declared.syntax.Operand.{Operand}
use Rattle.ir_types.specs.declared.syntax.Operand.TheVariants.{Const, Param, Reg}
use Rattle.ir_types.specs.declared.syntax.Variable.{Variable}
use Rattle.ir_types.specs.declared.syntax.Variable.TheVariants as variable
use Rattle.ir_types.specs.declared.syntax.Kind.{Kind}
use Rattle.ir_types.specs.declared.syntax.Kind.TheVariants.{Load, Store, Compute, Call}
use Rattle.ir_types.specs.declared.syntax.Instr.{Instr}
use Rattle.ir_types.specs.declared.syntax.Terminator.{Terminator}
use Rattle.ir_types.specs.declared.syntax.Terminator.TheVariants.{Return, Jump, Branch, Switch, Unreachable}
use Rattle.ir_types.specs.declared.syntax.Block.{Block}
use Rattle.ir_types.specs.declared.syntax.Function.{Function}
use Rattle.ir_types.specs.declared.syntax.Global.{Global}
use Rattle.ir_types.specs.declared.tree.Address.{Address}
use Rattle.ir_types.specs.declared.tree.RawValue.{RawValue}
use Rattle.ir_types.specs.declared.tree.RawValue.TheVariants as value
use Rattle.ir_types.specs.declared.tree.RawArg.{RawArg}
use Rattle.ir_types.specs.declared.tree.RawCase.{RawCase}
use Rattle.ir_types.specs.declared.tree.RawKind.{RawKind}
use Rattle.ir_types.specs.declared.tree.RawKind.TheVariants as kind
use Rattle.ir_types.specs.declared.tree.RawInstr.{RawInstr}
use Rattle.ir_types.specs.declared.tree.RawTerm.{RawTerm}
use Rattle.ir_types.specs.declared.tree.RawTerm.TheVariants as term
use Rattle.ir_types.specs.declared.tree.RawBlock.{RawBlock}
use Rattle.ir_types.specs.declared.tree.RawParam.{RawParam}
use Rattle.ir_types.specs.declared.tree.RawFunction.{RawFunction}
use Rattle.ir_types.specs.declared.tree.RawGlobal.{RawGlobal}
use Rattle.ir_types.specs.declared.tree.Raw.{Raw}
use Rattle.ir_types.specs.declared.tree.Ty.{Ty}
use Rattle.ir_types.specs.declared.tree.Ty.TheVariants.{Int}

-- ---- uses

-- a literal modulo 2^w
abbrev pub constant_of : Width → RawValue → ℕ
constant_of w v = option_map_or (λ n. n) (literal_value w v) 0

abbrev pub operand_meaning : Option Meaning → Operand
operand_meaning (Some (meaning.Parameter i _)) = Param i
operand_meaning (Some (meaning.Register _ i _)) = Reg i
operand_meaning _ = Const 0

abbrev pub operand_of : Context → Width → RawValue → Operand
operand_of c w (value.Local name) = operand_meaning (meaning_of c.locals name)
operand_of c w v = Const (constant_of w v)

-- an argument with this type written
abbrev pub typed_operand : Context → Ty → RawValue → Operand
typed_operand c (Int w) v = operand_of c w v
typed_operand c _ v = Const 0

abbrev pub argument_of : Context → RawArg → Operand
argument_of c a = typed_operand c a.ty a.value.item

abbrev pub variable_meaning : Option Meaning → Variable
variable_meaning (Some (meaning.Variable v _)) = variable.Local v
variable_meaning (Some (meaning.Global g _)) = variable.Global g
variable_meaning _ = variable.Local 0

abbrev pub variable_of : Context → Address → Variable
variable_of c a = variable_meaning (address_meaning c a)

abbrev pub block_meaning : Option Meaning → ℕ
block_meaning (Some (meaning.Block b)) = b
block_meaning _ = 0

abbrev pub target_of : Context → Name → ℕ
target_of c name = block_meaning (meaning_of c.locals name)

abbrev pub function_meaning : Option Meaning → ℕ
function_meaning (Some (meaning.Function f)) = f
function_meaning _ = 0

abbrev pub function_number : Context → List ℕ → ℕ
function_number c name = function_meaning (meaning_of c.symbols (Text name))

-- ---- instructions

-- the variable that an alloca makes
abbrev pub var_of : Reached → RawInstr → RawKind → Option (Width × Name)
var_of r x (kind.Alloca w) = Some (w, name_of r.before x.result)
var_of r x _ = None

-- what any other instruction does
abbrev pub kind_of : Context → RawKind → Option Kind
kind_of c (kind.Alloca _) = None
kind_of c (kind.Load _ a) = Some (Load (variable_of c a.item))
kind_of c (kind.Store w v a) = Some (Store (operand_of c w v.item) (variable_of c a.item))
kind_of c (kind.Bin o w one other) = Some (Compute (op.Bin o w) (operand_of c w one.item ∷ operand_of c w other.item ∷ []))
kind_of c (kind.Icmp p w one other) = Some (Compute (op.Icmp p w) (operand_of c w one.item ∷ operand_of c w other.item ∷ []))
kind_of c (kind.Cast o w v to) = Some (Compute (op.Cast o w to.item) (operand_of c w v.item ∷ []))
kind_of c (kind.Select test w one _ other) =
    Some (Compute (op.Select w) (operand_of c I1 test.item ∷ operand_of c w one.item ∷ operand_of c w other.item ∷ []))
kind_of c (kind.Call _ callee arguments) = Some (Call (function_number c callee.item) (map (argument_of c) arguments))
kind_of c (kind.Phi _ _) = None

-- a store and a call of a `void` function give nothing
abbrev pub gives : RawKind → Bool
gives (kind.Store _ _ _) = false
gives (kind.Call (Int _) _ _) = true
gives (kind.Call _ _ _) = false
gives _ = true

-- the instruction that this one makes, if it makes one
abbrev pub instr_with : Reached → RawInstr → Option Kind → Option Instr
instr_with r x None = None
instr_with r x (Some k) = Some (record { result = if gives x.kind then Some (name_of r.before x.result) else None; kind = k })

abbrev pub instr_of : Context → Reached → RawInstr → Option Instr
instr_of c r x = instr_with r x (kind_of c x.kind)

unfoldable pub vars_from : Reached → List RawInstr → List (Width × Name)
vars_from r [] = []
vars_from r (x ∷ xs) = option_to_list (var_of r x x.kind) ++ vars_from (after_instr r x) xs

unfoldable pub instrs_from : Context → Reached → List RawInstr → List Instr
instrs_from c r [] = []
instrs_from c r (x ∷ xs) = option_to_list (instr_of c r x) ++ instrs_from c (after_instr r x) xs

-- ---- blocks

abbrev pub case_of : Context → Width → RawCase → ℕ × ℕ
case_of c w x = (constant_of w x.value.item, target_of c x.label.item)

abbrev pub term_of : Context → RawTerm → Terminator
term_of c (term.Return None) = Return None
term_of c (term.Return (Some v)) = Return (Some (operand_of c v.0 v.1.item))
term_of c (term.Jump target) = Jump (target_of c target.item)
term_of c (term.Branch test one other) = Branch (operand_of c I1 test.item) (target_of c one.item) (target_of c other.item)
term_of c (term.Switch w v other cases) = Switch w (operand_of c w v.item) (target_of c other.item) (map (case_of c w) cases)
term_of c term.Unreachable = Unreachable

abbrev pub block_of : Context → Reached → RawBlock → Block
block_of c r b = record { name = name_of r.before b.label; instrs = instrs_from c (at_block r b) b.instrs; term = term_of c b.term }

unfoldable pub blocks_from : Context → Reached → List RawBlock → List Block
blocks_from c r [] = []
blocks_from c r (b ∷ bs) = block_of c r b ∷ blocks_from c (after_block r b) bs

-- the variables that all the blocks make
unfoldable pub variables_from : Reached → List RawBlock → List (Width × Name)
variables_from r [] = []
variables_from r (b ∷ bs) = vars_from (at_block r b) b.instrs ++ variables_from (after_block r b) bs

-- ---- functions

abbrev pub width_of : Ty → Option Width
width_of (Int w) = Some w
width_of _ = None

-- parameters with their names, of which the first has number i
unfoldable pub params_from : ℕ → Defined → List RawParam → List (Width × Name)
params_from i before [] = []
params_from i before (p ∷ ps) = (p.width, name_of before p.name) ∷ params_from (i + 1) (define before p.name (meaning.Parameter i p.width)) ps

-- the parameters of a declaration have the numbers from i on as names, whatever is written
unfoldable pub numbered_from : ℕ → List RawParam → List (Width × Name)
numbered_from i [] = []
numbered_from i (p ∷ ps) = (p.width, Number i) ∷ numbered_from (i + 1) ps

abbrev pub function_of : List RawFunction → Defined → RawFunction → Function
function_of functions symbols f = record {
  name = f.name.item;
  ret = width_of f.ret;
  params = if is_nil f.blocks then numbered_from 0 f.params else params_from 0 nothing f.params;
  vars = variables_from (at_body f) f.blocks;
  blocks = blocks_from (context_in functions symbols f) (at_body f) f.blocks;
}

abbrev pub global_of : RawGlobal → Global
global_of g = record { name = g.name.item; width = g.width; value = constant_of g.width g.value.item }

abbrev pub module_of : Raw → Program
module_of raw = record { globals = map global_of raw.globals; functions = map (function_of raw.functions (symbols_of raw)) raw.functions }
