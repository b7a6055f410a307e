-- The tree, at whatever places, that the canonical text of a module spells.
use Rattle.std.specs.Prelude.{◌≡◌, ℕ, ℤ, pos, negsuc, ◌+◌, ◌-◌, ◌^◌, ◌==◌, nat_lt, List, [], ◌∷◌, ◌++◌, Option, Some, None, map, slice_get, option_map, option_and_then, if◌then◌else◌}
use Rattle.std.specs.Option.{option_map_or}
use Rattle.std.specs.List.{AllZip}
use Rattle.mc_num.specs.Op.{bits}
use Rattle.mc_num.specs.declared.op.Width.{Width}
use Rattle.mc_num.specs.declared.op.Width.TheVariants.{I1, I8, I16, I32, I64}
use Rattle.mc_num.specs.declared.op.Op.TheVariants as op
use Rattle.ir_types.specs.Names.{spelled}
use Rattle.ir_types.specs.Program.{Program}
use Rattle.ir_types.specs.Order.{Global as GlobalItem, Function as FunctionItem, items_in_order}
use Rattle.ir_types.specs.WellFormed.{scope, variable_width, widths}
use Rattle.ir_types.specs.declared.span.At.{At}
use Rattle.ir_types.specs.declared.name.Name.{Name}
use Rattle.ir_types.specs.declared.name.Name.TheVariants.{Number as NumberName}
use Rattle.ir_types.specs.declared.syntax.Operand.{Operand}
use Rattle.ir_types.specs.declared.syntax.Operand.TheVariants.{Const, Param, Reg}
use Rattle.ir_types.specs.declared.syntax.Variable.{Variable}
use Rattle.ir_types.specs.declared.syntax.Variable.TheVariants as variable
use Rattle.ir_types.specs.declared.syntax.Kind.{Kind}
use Rattle.ir_types.specs.declared.syntax.Kind.TheVariants.{Load, Store, Compute, Call}
use Rattle.ir_types.specs.declared.syntax.Instr.{Instr}
use Rattle.ir_types.specs.declared.syntax.Terminator.{Terminator}
use Rattle.ir_types.specs.declared.syntax.Terminator.TheVariants.{Return, Jump, Branch, Switch, Unreachable}
use Rattle.ir_types.specs.declared.syntax.Block.{Block}
use Rattle.ir_types.specs.declared.syntax.Function.{Function}
use Rattle.ir_types.specs.declared.syntax.Global.{Global}
use Rattle.ir_types.specs.declared.tree.Ty.{Ty}
use Rattle.ir_types.specs.declared.tree.Ty.TheVariants.{Int, Void}
use Rattle.ir_types.specs.declared.tree.Address.{Address}
use Rattle.ir_types.specs.declared.tree.Address.TheVariants as addresses
use Rattle.ir_types.specs.declared.tree.RawValue.{RawValue}
use Rattle.ir_types.specs.declared.tree.RawValue.TheVariants as values
use Rattle.ir_types.specs.declared.tree.RawArg.{RawArg}
use Rattle.ir_types.specs.declared.tree.RawKind.{RawKind}
use Rattle.ir_types.specs.declared.tree.RawKind.TheVariants as forms
use Rattle.ir_types.specs.declared.tree.RawInstr.{RawInstr}
use Rattle.ir_types.specs.declared.tree.RawCase.{RawCase}
use Rattle.ir_types.specs.declared.tree.RawTerm.{RawTerm}
use Rattle.ir_types.specs.declared.tree.RawTerm.TheVariants as terms
use Rattle.ir_types.specs.declared.tree.RawBlock.{RawBlock}
use Rattle.ir_types.specs.declared.tree.RawParam.{RawParam}
use Rattle.ir_types.specs.declared.tree.RawFunction.{RawFunction}
use Rattle.ir_types.specs.declared.tree.RawGlobal.{RawGlobal}
use Rattle.ir_types.specs.declared.tree.Raw.{Raw}

-- ---- values

-- a value of a width, read with a sign
abbrev pub signed : Width → ℕ → ℤ
signed w n = if nat_lt n (2 ^ (bits w - 1)) then pos n else negsuc (2 ^ bits w - (n + 1))

-- a constant: `true` or `false` at one bit, else a number with its sign
abbrev pub literal_of : Width → ℕ → RawValue
literal_of I1 n = values.Bool (n == 1)
literal_of I8 n = values.Number (signed I8 n)
literal_of I16 n = values.Number (signed I16 n)
literal_of I32 n = values.Number (signed I32 n)
literal_of I64 n = values.Number (signed I64 n)

-- the name of an instruction's result
abbrev pub register_name : Block → ℕ → Option Name
register_name b r = option_and_then (λ i. i.result) (slice_get b.instrs r)

-- the name of what an operand is, if it is no constant
abbrev pub operand_name : Function → Block → Operand → Option Name
operand_name f b (Const n) = None
operand_name f b (Param p) = option_map (λ x. x.1) (slice_get f.params p)
operand_name f b (Reg r) = register_name b r

abbrev pub value_tree : Function → Block → Width → Operand → RawValue
value_tree f b w (Const n) = literal_of w n
value_tree f b w (Param p) = option_map_or (λ n. values.Local (spelled n)) (operand_name f b (Param p)) values.Zero
value_tree f b w (Reg r) = option_map_or (λ n. values.Local (spelled n)) (operand_name f b (Reg r)) values.Zero

-- the name of a variable
abbrev pub address_tree : Program → Function → Variable → Address
address_tree m f (variable.Local v) = option_map_or (λ x. addresses.Local (spelled x.1)) (slice_get f.vars v) (addresses.Local (NumberName 0))
address_tree m f (variable.Global g) = option_map_or (λ x. addresses.Global x.name) (slice_get m.globals g) (addresses.Local (NumberName 0))

-- the name of a block
abbrev pub label_tree : Function → ℕ → Name
label_tree f b = option_map_or (λ x. spelled x.name) (slice_get f.blocks b) (NumberName 0)

-- ---- instructions

abbrev pub type_tree : Option Width → Ty
type_tree None = Void
type_tree (Some w) = Int w

-- arguments, each of the width of its parameter
abbrev pub AreTreeArguments : Function → Block → List Width → List Operand → List RawArg → Type 0
AreTreeArguments f b [] [] [] = Unit {0}
AreTreeArguments f b (w ∷ ws) (o ∷ os) (a ∷ xs) = (a.ty ≡ Int w) × (a.value.item ≡ value_tree f b w o) × AreTreeArguments f b ws os xs
AreTreeArguments f b _ _ _ = ⊥

-- a call of this function
pub record IsTreeCall (f : Function) (b : Block) (callee : Function) (os : List Operand) (type : Ty) (name : List ℕ) (xs : List RawArg) : Type 0 where
  pub type_is : type ≡ type_tree callee.ret
  pub named : name ≡ callee.name
  pub arguments : AreTreeArguments f b (widths callee.params) os xs

abbrev pub AreTreeOperands : Function → Block → Width → List Operand → At RawValue → At RawValue → Type 0
AreTreeOperands f b w (one ∷ other ∷ []) x y = (x.item ≡ value_tree f b w one) × (y.item ≡ value_tree f b w other)
AreTreeOperands f b w _ x y = ⊥

abbrev pub IsTreeOperand : Function → Block → Width → List Operand → At RawValue → Type 0
IsTreeOperand f b w (one ∷ []) x = x.item ≡ value_tree f b w one
IsTreeOperand f b w _ x = ⊥

abbrev pub AreTreeChoices : Function → Block → Width → List Operand → At RawValue → At RawValue → At RawValue → Type 0
AreTreeChoices f b w (test ∷ one ∷ other ∷ []) t x y =
    (t.item ≡ value_tree f b I1 test) × (x.item ≡ value_tree f b w one) × (y.item ≡ value_tree f b w other)
AreTreeChoices f b w _ t x y = ⊥

abbrev pub IsTreeKind : Program → Function → Block → Kind → RawKind → Type 0
IsTreeKind m f b (Load v) (forms.Load w a) = (variable_width (scope m f) v ≡ Some w) × (a.item ≡ address_tree m f v)
IsTreeKind m f b (Store o v) (forms.Store w x a) = (variable_width (scope m f) v ≡ Some w) × (x.item ≡ value_tree f b w o) × (a.item ≡ address_tree m f v)
IsTreeKind m f b (Compute (op.Bin o w) os) (forms.Bin p v x y) = (p ≡ o) × (v ≡ w) × AreTreeOperands f b w os x y
IsTreeKind m f b (Compute (op.Icmp o w) os) (forms.Icmp p v x y) = (p ≡ o) × (v ≡ w) × AreTreeOperands f b w os x y
IsTreeKind m f b (Compute (op.Cast o from to) os) (forms.Cast p v x u) = (p ≡ o) × (v ≡ from) × (u.item ≡ to) × IsTreeOperand f b from os x
IsTreeKind m f b (Compute (op.Select w) os) (forms.Select t v x u y) = (v ≡ w) × (u.item ≡ w) × AreTreeChoices f b w os t x y
IsTreeKind m f b (Call c os) (forms.Call type name xs) = (g : Function) × (slice_get m.functions c ≡ Some g) × IsTreeCall f b g os type name.item xs
IsTreeKind m f b _ _ = ⊥

-- a result with its name, or none
abbrev pub IsTreeResult : Option Name → Option (At Name) → Type 0
IsTreeResult None None = Unit {0}
IsTreeResult (Some name) (Some written) = written.item ≡ spelled name
IsTreeResult _ _ = ⊥

pub record IsTreeInstr (m : Program) (f : Function) (b : Block) (i : Instr) (x : RawInstr) : Type 0 where
  pub result : IsTreeResult i.result x.result
  pub kind : IsTreeKind m f b i.kind x.kind

-- the alloca of a variable
pub record IsTreeAlloca (v : Width × Name) (x : RawInstr) : Type 0 where
  pub result : IsTreeResult (Some v.1) x.result
  pub kind : x.kind ≡ forms.Alloca v.0

-- ---- blocks

pub record IsTreeCase (f : Function) (w : Width) (c : ℕ × ℕ) (x : RawCase) : Type 0 where
  pub width : x.width.item ≡ w
  pub value : x.value.item ≡ literal_of w c.0
  pub label : x.label.item ≡ label_tree f c.1

abbrev pub IsTreeTerm : Function → Block → Terminator → RawTerm → Type 0
IsTreeTerm f b (Return None) (terms.Return None) = Unit {0}
IsTreeTerm f b (Return (Some o)) (terms.Return (Some x)) = (f.ret ≡ Some x.0) × (x.1.item ≡ value_tree f b x.0 o)
IsTreeTerm f b (Jump t) (terms.Jump l) = l.item ≡ label_tree f t
IsTreeTerm f b (Branch o t u) (terms.Branch x l n) = (x.item ≡ value_tree f b I1 o) × (l.item ≡ label_tree f t) × (n.item ≡ label_tree f u)
IsTreeTerm f b (Switch w o t cases) (terms.Switch v x l xs) =
    (v ≡ w) × (x.item ≡ value_tree f b w o) × (l.item ≡ label_tree f t) × AllZip (IsTreeCase f w) cases xs
IsTreeTerm f b Unreachable terms.Unreachable = Unit {0}
IsTreeTerm f b _ _ = ⊥

-- the label, the allocas of these variables, the other instructions and the terminator
pub record IsTreeBlock (m : Program) (f : Function) (vars : List (Width × Name)) (b : Block) (x : RawBlock) : Type 0 where
  pub label : IsTreeResult (Some b.name) x.label
  pub allocas : List RawInstr
  pub others : List RawInstr
  pub instrs : x.instrs ≡ allocas ++ others
  pub are_allocas : AllZip IsTreeAlloca vars allocas
  pub are_others : AllZip (IsTreeInstr m f b) b.instrs others
  pub term : IsTreeTerm f b b.term x.term

-- the variables stand in the first block
abbrev pub AreTreeBlocks : Program → Function → List Block → List RawBlock → Type 0
AreTreeBlocks m f [] [] = Unit {0}
AreTreeBlocks m f (b ∷ bs) (x ∷ xs) = IsTreeBlock m f f.vars b x × AllZip (IsTreeBlock m f []) bs xs
AreTreeBlocks m f _ _ = ⊥

-- ---- functions and globals

-- a parameter of a definition
pub record IsTreeParam (p : Width × Name) (x : RawParam) : Type 0 where
  pub width : x.width ≡ p.0
  pub named : IsTreeResult (Some p.1) x.name

-- a parameter of a declaration, whose name isn't written
pub record IsTreeType (p : Width × Name) (x : RawParam) : Type 0 where
  pub width : x.width ≡ p.0
  pub named : x.name ≡ None

abbrev pub AreTreeParams : Function → List Block → List RawParam → Type 0
AreTreeParams f [] xs = AllZip IsTreeType f.params xs
AreTreeParams f (b ∷ bs) xs = AllZip IsTreeParam f.params xs

pub record IsTreeFunction (m : Program) (f : Function) (x : RawFunction) : Type 0 where
  pub named : x.name.item ≡ f.name
  pub gives : x.ret ≡ type_tree f.ret
  pub params : AreTreeParams f f.blocks x.params
  pub blocks : AreTreeBlocks m f f.blocks x.blocks

pub record IsTreeGlobal (g : Global) (x : RawGlobal) : Type 0 where
  pub named : x.name.item ≡ g.name
  pub width : x.width ≡ g.width
  pub value : x.value.item ≡ literal_of g.width g.value

-- the globals stand before the functions
pub record IsTreeOf (m : Program) (raw : Raw) : Type 0 where
  pub globals : AllZip IsTreeGlobal m.globals raw.globals
  pub functions : AllZip (IsTreeFunction m) m.functions raw.functions
  pub ordered : items_in_order raw ≡ map GlobalItem raw.globals ++ map FunctionItem raw.functions
