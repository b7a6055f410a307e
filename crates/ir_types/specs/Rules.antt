-- What is wrong with a tree: the first broken rule in text order, and at one place the one with the smallest number.
use Rattle.std.specs.Prelude.{ℕ, ◌+◌, ◌==◌, ◌&&◌, ◌||◌, not, Bool, true, false, List, [], ◌∷◌, length, Option, Some, None, is_some, if◌then◌else◌, codes}
use Rattle.std.specs.Str.{bytes_eq}
use Rattle.mc_num.specs.declared.op.Width.TheVariants.{I1, I32}
use Rattle.ir_types.specs.declared.span.Span.{Span}
use Rattle.ir_types.specs.declared.rules.Rule.TheVariants as rule
use Rattle.ir_types.specs.declared.rules.Problem.{Problem}
use Rattle.ir_types.specs.declared.rules.Here.{Here}
use Rattle.ir_types.specs.declared.rules.Meaning.{Meaning}
use Rattle.ir_types.specs.declared.rules.Meaning.TheVariants as meaning
use Rattle.ir_types.specs.declared.tree.RawKind.{RawKind}
use Rattle.ir_types.specs.declared.tree.RawKind.TheVariants.{Alloca, Load, Store, Bin, Icmp, Cast, Select, Call, Phi}
use Rattle.ir_types.specs.declared.tree.RawInstr.{RawInstr}
use Rattle.ir_types.specs.declared.tree.RawTerm.{RawTerm}
use Rattle.ir_types.specs.declared.tree.RawTerm.TheVariants.{Return, Jump, Branch, Switch, Unreachable}
use Rattle.ir_types.specs.declared.tree.RawBlock.{RawBlock}
use Rattle.ir_types.specs.declared.tree.RawParam.{RawParam}
use Rattle.ir_types.specs.declared.tree.RawFunction.{RawFunction}
use Rattle.ir_types.specs.declared.tree.Raw.{Raw}
use Rattle.ir_types.specs.declared.tree.Ty.{Ty}
use Rattle.ir_types.specs.declared.tree.Ty.TheVariants.{Int, Void}
use Rattle.ir_types.specs.Problems.{◌>>◌, broken}
use Rattle.ir_types.specs.Definitions.{Defined, nothing, define, define_some, name_problem, symbol_name}
use Rattle.ir_types.specs.Order.{Item, Global, Function, items_in_order}
use Rattle.ir_types.specs.Limits.{is_alloca, is_above_limits}
use Rattle.ir_types.specs.Uses.{Context, same_width, same_type, casts, value_problem, address_problem, label_problem, cases_problem, callee_problem, arguments_problem, params_of}

-- ---- what stands before a place

-- what the names before a place of a function mean, in which block the place is, and how many variables of the
-- function, and how many instructions of the block that are no allocas, stand before it
pub record Reached : Type 0 where
  pub before : Defined
  pub block : ℕ
  pub variables : ℕ
  pub instrs : ℕ

abbrev pub here : Reached → Here
here r = record { block = r.block; instr = r.instrs }

-- the type of what an instruction gives, or of what its written name stands for: a name before a call of a `void`
-- function stands for a result of no type
abbrev pub result_type : Bool → RawKind → Option Ty
result_type named (Alloca _) = None
result_type named (Load w _) = Some (Int w)
result_type named (Store _ _ _) = None
result_type named (Bin _ w _ _) = Some (Int w)
result_type named (Icmp _ _ _ _) = Some (Int I1)
result_type named (Cast _ _ _ to) = Some (Int to.item)
result_type named (Select _ w _ _ _) = Some (Int w)
result_type named (Call (Int w) _ _) = Some (Int w)
result_type named (Call _ _ _) = if named then Some Void else None
result_type named (Phi w _) = Some (Int w)

abbrev pub register : Reached → Option Ty → Option Meaning
register r None = None
register r (Some type) = Some (meaning.Register r.block r.instrs type)

-- what the result of an instruction means, if it has one
abbrev pub result_meaning : Reached → Bool → RawKind → Option Meaning
result_meaning r named (Alloca w) = Some (meaning.Variable r.variables w)
result_meaning r named k = register r (result_type named k)

-- behind an instruction
abbrev pub after_instr : Reached → RawInstr → Reached
after_instr r x = record {
  before = define_some r.before x.result (result_meaning r (is_some x.result) x.kind);
  block = r.block;
  variables = if is_alloca x.kind then r.variables + 1 else r.variables;
  instrs = if is_alloca x.kind then r.instrs else r.instrs + 1;
}

unfoldable pub after_instrs : Reached → List RawInstr → Reached
after_instrs r [] = r
after_instrs r (x ∷ xs) = after_instrs (after_instr r x) xs

-- behind the label of a block
abbrev pub at_block : Reached → RawBlock → Reached
at_block r b = record { before = define r.before b.label (meaning.Block r.block); block = r.block; variables = r.variables; instrs = 0 }

-- behind the instructions of a block
abbrev pub at_term : Reached → RawBlock → Reached
at_term r b = after_instrs (at_block r b) b.instrs

-- before the next block
abbrev pub next_block : Reached → Reached
next_block r = record { before = r.before; block = r.block + 1; variables = r.variables; instrs = 0 }

abbrev pub after_block : Reached → RawBlock → Reached
after_block r b = next_block (at_term r b)

unfoldable pub after_blocks : Reached → List RawBlock → Reached
after_blocks r [] = r
after_blocks r (b ∷ bs) = after_blocks (after_block r b) bs

-- behind parameters, of which the first has number i
unfoldable pub after_params : ℕ → Defined → List RawParam → Defined
after_params i before [] = before
after_params i before (p ∷ ps) = after_params (i + 1) (define before p.name (meaning.Parameter i p.width)) ps

-- before the first block of a function
abbrev pub at_body : RawFunction → Reached
at_body f = record { before = after_params 0 nothing f.params; block = 0; variables = 0; instrs = 0 }

-- what the names of a whole function mean
abbrev pub locals_of : RawFunction → Defined
locals_of f = (after_blocks (at_body f) f.blocks).before

-- ---- instructions and blocks

-- an instruction behind its name
abbrev pub kind_problem : Context → Reached → Bool → Span → RawKind → Option Problem
kind_problem c r named word (Alloca _) = broken rule.LateAlloca word (not (r.block == 0 && r.instrs == 0))
kind_problem c r named word (Load w a) = address_problem c (here r) w a
kind_problem c r named word (Store w v a) = value_problem c (here r) w v >> address_problem c (here r) w a
kind_problem c r named word (Bin _ w one other) = value_problem c (here r) w one >> value_problem c (here r) w other
kind_problem c r named word (Icmp _ w one other) = value_problem c (here r) w one >> value_problem c (here r) w other
kind_problem c r named word (Cast cast w v to) = value_problem c (here r) w v >> broken rule.BadType to.span (not (casts cast w to.item))
kind_problem c r named word (Select test w one second other) =
    value_problem c (here r) I1 test >> value_problem c (here r) w one >>
    broken rule.BadType second.span (not (same_width second.item w)) >> value_problem c (here r) w other
kind_problem c r named word (Call type callee arguments) =
    callee_problem c type named (length arguments) callee >> arguments_problem c (here r) (params_of c callee.item) arguments
kind_problem c r named word (Phi _ _) = broken rule.Phi word true

abbrev pub instr_problem : Context → Reached → RawInstr → Option Problem
instr_problem c r x = name_problem r.before x.result >> kind_problem c r (is_some x.result) x.word x.kind

unfoldable pub instrs_problem : Context → Reached → List RawInstr → Option Problem
instrs_problem c r [] = None
instrs_problem c r (x ∷ xs) = instr_problem c r x >> instrs_problem c (after_instr r x) xs

abbrev pub term_problem : Context → Here → Span → RawTerm → Option Problem
term_problem c at word (Return None) = broken rule.BadType word (not (same_type c.ret Void))
term_problem c at word (Return (Some v)) = broken rule.BadType word (not (same_type c.ret (Int v.0))) >> value_problem c at v.0 v.1
term_problem c at word (Jump target) = label_problem c at target
term_problem c at word (Branch test one other) = value_problem c at I1 test >> label_problem c at one >> label_problem c at other
term_problem c at word (Switch w v other cases) = value_problem c at w v >> label_problem c at other >> cases_problem c at w [] cases
term_problem c at word Unreachable = None

abbrev pub block_problem : Context → Reached → RawBlock → Option Problem
block_problem c r b =
    name_problem r.before b.label >>
    instrs_problem c (at_block r b) b.instrs >>
    term_problem c (here (at_term r b)) b.term_word b.term

unfoldable pub blocks_problem : Context → Reached → List RawBlock → Option Problem
blocks_problem c r [] = None
blocks_problem c r (b ∷ bs) = block_problem c r b >> blocks_problem c (after_block r b) bs

-- the parameters of a function, of which the first has number i
unfoldable pub params_problem : ℕ → Defined → List RawParam → Option Problem
params_problem i before [] = None
params_problem i before (p ∷ ps) = name_problem before p.name >> params_problem (i + 1) (define before p.name (meaning.Parameter i p.width)) ps

-- ---- functions and globals

abbrev pub is_nil : {T : Type 0} → List T → Bool
is_nil [] = true
is_nil (x ∷ xs) = false

-- one parameter, of 32 bits
abbrev pub takes_i32 : List RawParam → Bool
takes_i32 [] = false
takes_i32 (p ∷ ps) = same_width p.width I32 && is_nil ps

-- `i32 @getchar()` or `i32 @putchar(i32)`
abbrev pub is_known_external : RawFunction → Bool
is_known_external f =
    same_type f.ret (Int I32) && ((bytes_eq f.name.item (codes "getchar") && is_nil f.params) || (bytes_eq f.name.item (codes "putchar") && takes_i32 f.params))

-- what stands before a function or a global of a tree: what the names mean, and how many of both there are
pub record Passed : Type 0 where
  pub before : Defined
  pub globals : ℕ
  pub functions : ℕ

abbrev pub at_top : Passed
at_top = record { before = nothing; globals = 0; functions = 0 }

abbrev pub after_item : Passed → Item → Passed
after_item p (Global g) = record { before = define p.before (symbol_name g.name) (meaning.Global p.globals g.width); globals = p.globals + 1; functions = p.functions }
after_item p (Function f) = record { before = define p.before (symbol_name f.name) (meaning.Function p.functions); globals = p.globals; functions = p.functions + 1 }

unfoldable pub after_items : Passed → List Item → Passed
after_items p [] = p
after_items p (x ∷ xs) = after_items (after_item p x) xs

-- what the names of a whole tree mean
abbrev pub symbols_of : Raw → Defined
symbols_of raw = (after_items at_top (items_in_order raw)).before

-- what stands around the places of a function of a tree with these functions and names
abbrev pub context_in : List RawFunction → Defined → RawFunction → Context
context_in functions symbols f = record { functions = functions; symbols = symbols; ret = f.ret; locals = locals_of f }

-- nothing is defined where the literal of a global stands
abbrev pub no_context : Context
no_context = record { functions = []; symbols = nothing; ret = Void; locals = nothing }

abbrev pub nowhere : Here
nowhere = record { block = 0; instr = 0 }

abbrev pub body_problem : Context → RawFunction → Option Problem
body_problem c f = params_problem 0 nothing f.params >> blocks_problem c (at_body f) f.blocks

abbrev pub item_problem : List RawFunction → Defined → Passed → Item → Option Problem
item_problem functions symbols p (Global g) = name_problem p.before (symbol_name g.name) >> value_problem no_context nowhere g.width g.value
item_problem functions symbols p (Function f) =
    name_problem p.before (symbol_name f.name) >>
    broken rule.UnknownExternal f.name.span (is_nil f.blocks && not (is_known_external f)) >>
    broken rule.Limit f.name.span (is_above_limits f) >>
    body_problem (context_in functions symbols f) f

unfoldable pub items_problem : List RawFunction → Defined → Passed → List Item → Option Problem
items_problem functions symbols p [] = None
items_problem functions symbols p (x ∷ xs) = item_problem functions symbols p x >> items_problem functions symbols (after_item p x) xs

-- the first broken rule of a tree, or none
abbrev pub tree_problem : Raw → Option Problem
tree_problem raw = items_problem raw.functions (symbols_of raw) at_top (items_in_order raw)
