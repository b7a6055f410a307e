-- The canonical text token by token: each token with the blanks behind it.
use Rattle.std.specs.Prelude.{ℕ, List, [], ◌∷◌, ◌++◌, Option, Some, None, codes, slice_get}
use Rattle.std.specs.Option.{option_map_or}
use Rattle.mc_num.specs.declared.op.Width.{Width}
use Rattle.mc_num.specs.declared.op.Width.TheVariants.{I1, I8, I16, I32, I64}
use Rattle.mc_num.specs.declared.op.Op.{Op}
use Rattle.mc_num.specs.declared.op.Op.TheVariants as op
use Rattle.ir_types.specs.Names.{name_text}
use Rattle.ir_types.specs.Program.{Program}
use Rattle.ir_types.specs.declared.name.Name.{Name}
use Rattle.ir_types.specs.declared.syntax.Operand.{Operand}
use Rattle.ir_types.specs.declared.syntax.Operand.TheVariants.{Const, Param, Reg}
use Rattle.ir_types.specs.declared.syntax.Variable.{Variable}
use Rattle.ir_types.specs.declared.syntax.Variable.TheVariants as variable
use Rattle.ir_types.specs.declared.syntax.Kind.{Kind}
use Rattle.ir_types.specs.declared.syntax.Kind.TheVariants.{Load, Store, Compute, Call}
use Rattle.ir_types.specs.declared.syntax.Instr.{Instr}
use Rattle.ir_types.specs.declared.syntax.Terminator.{Terminator}
use Rattle.ir_types.specs.declared.syntax.Terminator.TheVariants.{Return, Jump, Branch, Switch, Unreachable}
use Rattle.ir_types.specs.declared.syntax.Block.{Block}
use Rattle.ir_types.specs.declared.syntax.Function.{Function}
use Rattle.ir_types.specs.declared.syntax.Global.{Global}
use Rattle.ir_lexer.specs.Texts.{Inked}
use Rattle.ir_lexer.specs.declared.token.TokenKind.{TokenKind}
use Rattle.ir_lexer.specs.declared.token.TokenKind.TheVariants as kinds
use Rattle.ir_printer.specs.Text.{width_text, type_text, bin_text, pred_text, cast_text, local_text, global_text, constant_text, value_text, variable_type, variable_text}

abbrev pub ink : TokenKind → List ℕ → List ℕ → Inked
ink kind text gap = (record { kind = kind; text = text }, gap)

abbrev pub space : List ℕ
space = 32 ∷ []

abbrev pub line : List ℕ
line = 10 ∷ []

-- a new line, and the two spaces at its front
abbrev pub indented : List ℕ
indented = 10 ∷ 32 ∷ 32 ∷ []

-- the end of a line, and an empty line
abbrev pub spaced : List ℕ
spaced = 10 ∷ 10 ∷ []

abbrev pub word : List ℕ → List ℕ → Inked
word text gap = ink kinds.Word text gap

abbrev pub punct : List ℕ → List ℕ → Inked
punct text gap = ink kinds.Punct text gap

abbrev pub local : List ℕ → List ℕ → Inked
local text gap = ink kinds.Local text gap

abbrev pub comma : Inked
comma = punct (codes ",") space

-- ---- values

abbrev pub constant_kind : Width → TokenKind
constant_kind I1 = kinds.Word
constant_kind I8 = kinds.Number
constant_kind I16 = kinds.Number
constant_kind I32 = kinds.Number
constant_kind I64 = kinds.Number

abbrev pub value_kind : Width → Operand → TokenKind
value_kind w (Const n) = constant_kind w
value_kind w (Param p) = kinds.Local
value_kind w (Reg r) = kinds.Local

abbrev pub value_ink : Function → Block → Width → Operand → List ℕ → Inked
value_ink f b w o gap = ink (value_kind w o) (value_text f b w o) gap

abbrev pub typed : Function → Block → Width → Operand → List ℕ → List Inked → List Inked
typed f b w o gap rest = word (width_text w) space ∷ value_ink f b w o gap ∷ rest

abbrev pub variable_kind : Variable → TokenKind
variable_kind (variable.Local v) = kinds.Local
variable_kind (variable.Global g) = kinds.Global

-- `, ptr` and an address at the end of a line
abbrev pub address : Program → Function → Variable → List Inked → List Inked
address m f v rest = comma ∷ word (codes "ptr") space ∷ ink (variable_kind v) (variable_text m f v) indented ∷ rest

abbrev pub block_name : Function → ℕ → List ℕ
block_name f t = option_map_or (λ x. local_text x.name) (slice_get f.blocks t) []

abbrev pub target : Function → ℕ → List ℕ → List Inked → List Inked
target f t gap rest = word (codes "label") space ∷ local (block_name f t) gap ∷ rest

-- ---- instructions

abbrev pub operands : Function → Block → Width → List Operand → List Inked → List Inked
operands f b w (one ∷ other ∷ []) rest = typed f b w one [] (comma ∷ value_ink f b w other indented ∷ rest)
operands f b w _ rest = rest

abbrev pub cast_operand : Function → Block → Width → Width → List Operand → List Inked → List Inked
cast_operand f b from to (one ∷ []) rest = typed f b from one space (word (codes "to") space ∷ word (width_text to) indented ∷ rest)
cast_operand f b from to _ rest = rest

abbrev pub choices : Function → Block → Width → List Operand → List Inked → List Inked
choices f b w (test ∷ one ∷ other ∷ []) rest = typed f b I1 test [] (comma ∷ typed f b w one [] (comma ∷ typed f b w other indented rest))
choices f b w _ rest = rest

abbrev pub operation : Function → Block → Op → List Operand → List Inked → List Inked
operation f b (op.Bin o w) os rest = word (bin_text o) space ∷ operands f b w os rest
operation f b (op.Icmp p w) os rest = word (codes "icmp") space ∷ word (pred_text p) space ∷ operands f b w os rest
operation f b (op.Cast o from to) os rest = word (cast_text o) space ∷ cast_operand f b from to os rest
operation f b (op.Select w) os rest = word (codes "select") space ∷ choices f b w os rest

-- the arguments behind the first
unfoldable pub more_arguments : Function → Block → List (Width × Name) → List Operand → List Inked → List Inked
more_arguments f b [] os rest = rest
more_arguments f b (p ∷ ps) [] rest = rest
more_arguments f b (p ∷ ps) (o ∷ os) rest = comma ∷ typed f b p.0 o [] (more_arguments f b ps os rest)

abbrev pub arguments : Function → Block → List (Width × Name) → List Operand → List Inked → List Inked
arguments f b (p ∷ ps) (o ∷ os) rest = typed f b p.0 o [] (more_arguments f b ps os rest)
arguments f b _ _ rest = rest

-- the end of a line of a call
abbrev pub close : Inked
close = punct (codes ")") indented

abbrev pub call : Function → Block → List Operand → Function → List Inked → List Inked
call f b os callee rest =
    word (codes "call") space ∷ word (type_text callee.ret) space ∷ ink kinds.Global (global_text callee.name) [] ∷ punct (codes "(") []
    ∷ arguments f b callee.params os (close ∷ rest)

abbrev pub call_of : Function → Block → List Operand → Option Function → List Inked → List Inked
call_of f b os None rest = rest
call_of f b os (Some callee) rest = call f b os callee rest

abbrev pub kind_script : Program → Function → Block → Kind → List Inked → List Inked
kind_script m f b (Load v) rest = word (codes "load") space ∷ word (width_text (variable_type m f v)) [] ∷ address m f v rest
kind_script m f b (Store o v) rest = word (codes "store") space ∷ typed f b (variable_type m f v) o [] (address m f v rest)
kind_script m f b (Compute o os) rest = operation f b o os rest
kind_script m f b (Call c os) rest = call_of f b os (slice_get m.functions c) rest

abbrev pub result_script : Option Name → List Inked → List Inked
result_script None rest = rest
result_script (Some name) rest = local (local_text name) space ∷ punct (codes "=") space ∷ rest

abbrev pub instr_script : Program → Function → Block → Instr → List Inked → List Inked
instr_script m f b i rest = result_script i.result (kind_script m f b i.kind rest)

unfoldable pub instrs_script : Program → Function → Block → List Instr → List Inked → List Inked
instrs_script m f b [] rest = rest
instrs_script m f b (i ∷ is) rest = instr_script m f b i (instrs_script m f b is rest)

abbrev pub alloca_script : Width × Name → List Inked → List Inked
alloca_script x rest = local (local_text x.1) space ∷ punct (codes "=") space ∷ word (codes "alloca") space ∷ word (width_text x.0) indented ∷ rest

unfoldable pub allocas_script : List (Width × Name) → List Inked → List Inked
allocas_script [] rest = rest
allocas_script (x ∷ xs) rest = alloca_script x (allocas_script xs rest)

-- ---- blocks

abbrev pub case_script : Function → Width → ℕ × ℕ → List Inked → List Inked
case_script f w c rest = word (width_text w) space ∷ ink (constant_kind w) (constant_text w c.0) [] ∷ comma ∷ target f c.1 space rest

unfoldable pub cases_script : Function → Width → List (ℕ × ℕ) → List Inked → List Inked
cases_script f w [] rest = rest
cases_script f w (c ∷ cs) rest = case_script f w c (cases_script f w cs rest)

-- a value that is returned
abbrev pub returned : Function → Block → Operand → Option Width → List Inked → List Inked
returned f b o None rest = rest
returned f b o (Some w) rest = typed f b w o line rest

abbrev pub term_script : Function → Block → Terminator → List Inked → List Inked
term_script f b (Return None) rest = word (codes "ret") space ∷ word (codes "void") line ∷ rest
term_script f b (Return (Some o)) rest = word (codes "ret") space ∷ returned f b o f.ret rest
term_script f b (Jump t) rest = word (codes "br") space ∷ target f t line rest
term_script f b (Branch o t u) rest = word (codes "br") space ∷ typed f b I1 o [] (comma ∷ target f t [] (comma ∷ target f u line rest))
term_script f b (Switch w o t cases) rest =
    word (codes "switch") space ∷ typed f b w o [] (comma ∷ target f t space (punct (codes "[") space ∷ cases_script f w cases (punct (codes "]") line ∷ rest)))
term_script f b Unreachable rest = word (codes "unreachable") line ∷ rest

abbrev pub block_script : Program → Function → List (Width × Name) → Block → List Inked → List Inked
block_script m f vars b rest =
    ink kinds.Label (name_text b.name ++ codes ":") indented ∷ allocas_script vars (instrs_script m f b b.instrs (term_script f b b.term rest))

unfoldable pub later_blocks : Program → Function → List Block → List Inked → List Inked
later_blocks m f [] rest = rest
later_blocks m f (b ∷ bs) rest = block_script m f [] b (later_blocks m f bs rest)

-- ---- functions and globals

-- what stands of a parameter of a declaration, and of a definition
abbrev pub type_script : Width × Name → List Inked → List Inked
type_script p rest = word (width_text p.0) [] ∷ rest

abbrev pub param_script : Width × Name → List Inked → List Inked
param_script p rest = word (width_text p.0) space ∷ local (local_text p.1) [] ∷ rest

unfoldable pub more_params : (Width × Name → List Inked → List Inked) → List (Width × Name) → List Inked → List Inked
more_params one [] rest = rest
more_params one (p ∷ ps) rest = comma ∷ one p (more_params one ps rest)

abbrev pub params_script : (Width × Name → List Inked → List Inked) → List (Width × Name) → List Inked → List Inked
params_script one [] rest = rest
params_script one (p ∷ ps) rest = one p (more_params one ps rest)

-- from the type to the parenthesis behind the parameters
abbrev pub head_script : Function → (Width × Name → List Inked → List Inked) → List ℕ → List Inked → List Inked
head_script f one gap rest =
    word (type_text f.ret) space ∷ ink kinds.Global (global_text f.name) [] ∷ punct (codes "(") [] ∷ params_script one f.params (punct (codes ")") gap ∷ rest)

-- a function with these blocks, and the blanks behind it
abbrev pub function_script : Program → Function → List Block → List ℕ → List Inked → List Inked
function_script m f [] gap rest = word (codes "declare") space ∷ head_script f type_script gap rest
function_script m f (b ∷ bs) gap rest =
    word (codes "define") space ∷ head_script f param_script space (punct (codes "{") line ∷ block_script m f f.vars b (later_blocks m f bs (punct (codes "}") gap ∷ rest)))

-- the blanks before functions: an empty line, if there are any
abbrev pub gap_before : List Function → List ℕ
gap_before [] = line
gap_before (f ∷ fs) = spaced

unfoldable pub functions_script : Program → List Function → List Inked
functions_script m [] = []
functions_script m (f ∷ fs) = function_script m f f.blocks (gap_before fs) (functions_script m fs)

abbrev pub global_script : Global → List ℕ → List Inked → List Inked
global_script g gap rest =
    ink kinds.Global (global_text g.name) space ∷ punct (codes "=") space ∷ word (codes "global") space
    ∷ word (width_text g.width) space ∷ ink (constant_kind g.width) (constant_text g.width g.value) gap ∷ rest

-- globals, and the functions behind them
unfoldable pub globals_script : Program → List Global → List Function → List Inked
globals_script m [] fs = functions_script m fs
globals_script m (g ∷ []) fs = global_script g (gap_before fs) (functions_script m fs)
globals_script m (g ∷ h ∷ gs) fs = global_script g line (globals_script m (h ∷ gs) fs)

abbrev pub script_of : Program → List Inked
script_of m = globals_script m m.globals m.functions
