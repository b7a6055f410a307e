-- The rules of uses: what is wrong with a value, an address, a label or a callee.
use Rattle.std.specs.Prelude.{ℕ, ◌==◌, ◌&&◌, ◌||◌, nat_lt, nat_le, not, Bool, true, false, List, [], ◌∷◌, ◌++◌, length, Option, Some, None, is_none, slice_get, option_to_list}
use Rattle.std.specs.Option.{option_map_or}
use Rattle.std.specs.List.{list_any}
use Rattle.mc_num.specs.Op.{bits}
use Rattle.mc_num.specs.declared.op.Cast.{Cast}
use Rattle.mc_num.specs.declared.op.Cast.TheVariants.{Zext, Sext, Trunc, Bitcast}
use Rattle.mc_num.specs.declared.op.Width.{Width}
use Rattle.mc_num.specs.declared.op.Width.TheVariants.{I1}
use Rattle.ir_types.specs.declared.span.At.{At}
use Rattle.ir_types.specs.declared.span.Span.{Span}
use Rattle.ir_types.specs.declared.name.Name.{Name}
use Rattle.ir_types.specs.declared.name.Name.TheVariants.{Text}
use Rattle.ir_types.specs.declared.rules.Rule.TheVariants as rule
use Rattle.ir_types.specs.declared.rules.Problem.{Problem}
use Rattle.ir_types.specs.declared.rules.Here.{Here}
use Rattle.ir_types.specs.declared.rules.Meaning.{Meaning}
use Rattle.ir_types.specs.declared.rules.Meaning.TheVariants.{Parameter, Block, Register, Variable, Function, Global}
use Rattle.ir_types.specs.declared.tree.Address.{Address}
use Rattle.ir_types.specs.declared.tree.Address.TheVariants as address
use Rattle.ir_types.specs.declared.tree.RawValue.{RawValue}
use Rattle.ir_types.specs.declared.tree.RawValue.TheVariants as value
use Rattle.ir_types.specs.declared.tree.RawArg.{RawArg}
use Rattle.ir_types.specs.declared.tree.RawCase.{RawCase}
use Rattle.ir_types.specs.declared.tree.RawParam.{RawParam}
use Rattle.ir_types.specs.declared.tree.RawFunction.{RawFunction}
use Rattle.ir_types.specs.declared.tree.Ty.{Ty}
use Rattle.ir_types.specs.declared.tree.Ty.TheVariants.{Int, Void, Ptr}
use Rattle.ir_types.specs.Problems.{◌>>◌, broken}
use Rattle.ir_types.specs.Definitions.{Defined, meaning_of}
use Rattle.ir_types.specs.Literals.{is_in_range, literal_value}

-- what stands around the places of a function: the functions of the tree, what the names of the tree mean, what the
-- function gives, and what the names of the whole function mean
pub record Context : Type 0 where
  pub functions : List RawFunction
  pub symbols : Defined
  pub ret : Ty
  pub locals : Defined

-- ---- types

abbrev pub same_width : Width → Width → Bool
same_width v w = bits v == bits w

abbrev pub same_type : Ty → Ty → Bool
same_type (Int v) (Int w) = same_width v w
same_type Void Void = true
same_type Ptr Ptr = true
same_type _ _ = false

-- an extension grows the width, a truncation shrinks it, and a bitcast keeps it
abbrev pub casts : Cast → Width → Width → Bool
casts Zext from to = nat_lt (bits from) (bits to)
casts Sext from to = nat_lt (bits from) (bits to)
casts Trunc from to = nat_lt (bits to) (bits from)
casts Bitcast from to = same_width from to

-- ---- what a name means at a place

-- nothing, or a register that is used at or before its definition in its own block
abbrev pub is_undefined : Here → Option Meaning → Bool
is_undefined here None = true
is_undefined here (Some (Register b i _)) = b == here.block && nat_le here.instr i
is_undefined here (Some _) = false

-- a register of another block
abbrev pub is_across : Here → Option Meaning → Bool
is_across here (Some (Register b _ _)) = not (b == here.block)
is_across here _ = false

-- no parameter and no register of this width
abbrev pub is_other_value : Width → Option Meaning → Bool
is_other_value w (Some (Parameter _ v)) = not (same_width v w)
is_other_value w (Some (Register _ _ type)) = not (same_type type (Int w))
is_other_value w _ = true

-- no variable of this width
abbrev pub is_other_variable : Width → Option Meaning → Bool
is_other_variable w (Some (Variable _ v)) = not (same_width v w)
is_other_variable w (Some (Global _ v)) = not (same_width v w)
is_other_variable w _ = true

abbrev pub is_no_block : Option Meaning → Bool
is_no_block (Some (Block _)) = false
is_no_block _ = true

abbrev pub is_entry : Option Meaning → Bool
is_entry (Some (Block b)) = b == 0
is_entry _ = false

-- ---- values

-- `differs` where the written type is another than what is due; w is the written one
abbrev pub item_problem : Context → Here → Width → Bool → Span → RawValue → Option Problem
item_problem c here w differs s (value.Local name) =
    broken rule.Undefined s (is_undefined here (meaning_of c.locals name)) >>
    broken rule.BadType s (differs || is_other_value w (meaning_of c.locals name)) >>
    broken rule.CrossBlock s (is_across here (meaning_of c.locals name))
item_problem c here w differs s (value.Number n) = broken rule.BadType s differs >> broken rule.ConstantRange s (not (is_in_range w n))
item_problem c here w differs s value.Wide = broken rule.BadType s differs >> broken rule.ConstantRange s true
item_problem c here w differs s (value.Bool _) = broken rule.BadType s (differs || not (same_width w I1))
item_problem c here w differs s value.Zero = broken rule.BadType s differs

-- a value with this type written before it
abbrev pub value_problem : Context → Here → Width → At RawValue → Option Problem
value_problem c here w v = item_problem c here w false v.span v.item

-- ---- addresses, labels, cases

abbrev pub address_meaning : Context → Address → Option Meaning
address_meaning c (address.Local name) = meaning_of c.locals name
address_meaning c (address.Global name) = meaning_of c.symbols (Text name)

-- an address where a variable of this width is due
abbrev pub address_problem : Context → Here → Width → At Address → Option Problem
address_problem c here w a =
    broken rule.Undefined a.span (is_undefined here (address_meaning c a.item)) >>
    broken rule.BadType a.span (is_other_variable w (address_meaning c a.item))

abbrev pub label_problem : Context → Here → At Name → Option Problem
label_problem c here l =
    broken rule.Undefined l.span (is_undefined here (meaning_of c.locals l.item)) >>
    broken rule.BadType l.span (is_no_block (meaning_of c.locals l.item)) >>
    broken rule.EntryHasPredecessor l.span (is_entry (meaning_of c.locals l.item))

-- one of the values that earlier cases have
abbrev pub is_seen : List ℕ → Option ℕ → Bool
is_seen seen None = false
is_seen seen (Some v) = list_any (λ x. x == v) seen

-- a case of a switch of width w, after cases of these values
abbrev pub case_problem : Context → Here → Width → List ℕ → RawCase → Option Problem
case_problem c here w seen x =
    broken rule.BadType x.width.span (not (same_width x.width.item w)) >>
    broken rule.Duplicate x.value.span (is_seen seen (literal_value w x.value.item)) >>
    value_problem c here w x.value >>
    label_problem c here x.label

unfoldable pub cases_problem : Context → Here → Width → List ℕ → List RawCase → Option Problem
cases_problem c here w seen [] = None
cases_problem c here w seen (x ∷ xs) = case_problem c here w seen x >> cases_problem c here w (seen ++ option_to_list (literal_value w x.value.item)) xs

-- ---- calls

-- the function that a name of the tree means
abbrev pub function_named : Context → Option Meaning → Option RawFunction
function_named c (Some (Function f)) = slice_get c.functions f
function_named c _ = None

abbrev pub callee_of : Context → List ℕ → Option RawFunction
callee_of c name = function_named c (meaning_of c.symbols (Text name))

abbrev pub is_void : Ty → Bool
is_void Void = true
is_void _ = false

-- no function that gives this type and takes so many arguments
abbrev pub is_other_callee : Ty → ℕ → Option RawFunction → Bool
is_other_callee type count None = true
is_other_callee type count (Some f) = not (same_type f.ret type) || not (length f.params == count)

-- a callee, where so many arguments and maybe a name for the result are written
abbrev pub callee_problem : Context → Ty → Bool → ℕ → At (List ℕ) → Option Problem
callee_problem c type named count callee =
    broken rule.Undefined callee.span (is_none (meaning_of c.symbols (Text callee.item))) >>
    broken rule.BadType callee.span ((is_void type && named) || is_other_callee type count (callee_of c callee.item))

-- an argument written with `ptr`: the address of whatever its local names would escape
abbrev pub escape_problem : Context → Here → Span → RawValue → Option Problem
escape_problem c here s (value.Local name) = broken rule.Undefined s (is_undefined here (meaning_of c.locals name)) >> broken rule.Escapes s true
escape_problem c here s _ = broken rule.Escapes s true

-- an argument with this type written, where one of width w is due
abbrev pub typed_problem : Context → Here → Width → Ty → At RawValue → Option Problem
typed_problem c here w (Int v) x = item_problem c here v (not (same_width v w)) x.span x.item
typed_problem c here w _ x = escape_problem c here x.span x.item

abbrev pub argument_problem : Context → Here → Width → RawArg → Option Problem
argument_problem c here w a = typed_problem c here w a.ty a.value

-- the arguments that stand where there are parameters
unfoldable pub arguments_problem : Context → Here → List RawParam → List RawArg → Option Problem
arguments_problem c here [] args = None
arguments_problem c here (p ∷ ps) [] = None
arguments_problem c here (p ∷ ps) (a ∷ args) = argument_problem c here p.width a >> arguments_problem c here ps args

-- the parameters of a callee
abbrev pub params_of : Context → List ℕ → List RawParam
params_of c name = option_map_or (λ f. f.params) (callee_of c name) []
