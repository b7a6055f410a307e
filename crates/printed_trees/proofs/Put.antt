-- What the parts of a module have, so that they can be printed and read back.
use Rattle.std.specs.Prelude.{◌≡◌, ◌<◌, ◌^◌, ℕ, List, [], ◌∷◌, Option, Some, None, slice_get, IfSome}
use Rattle.std.specs.List.{AllByRecursion}
use Rattle.mc_num.specs.Op.{bits}
use Rattle.mc_num.specs.declared.op.Width.{Width}
use Rattle.mc_num.specs.declared.op.Width.TheVariants.{I1}
use Rattle.mc_num.specs.declared.op.Op.{Op}
use Rattle.mc_num.specs.declared.op.Op.TheVariants as op
use Rattle.ir_types.specs.Names.{IsNameText, IsSpellable}
use Rattle.ir_types.specs.Program.{Program}
use Rattle.ir_types.specs.TreeOf.{operand_name}
use Rattle.ir_types.specs.declared.name.Name.{Name}
use Rattle.ir_types.specs.declared.syntax.Operand.{Operand}
use Rattle.ir_types.specs.declared.syntax.Operand.TheVariants.{Const, Param, Reg}
use Rattle.ir_types.specs.declared.syntax.Variable.{Variable}
use Rattle.ir_types.specs.declared.syntax.Variable.TheVariants as variable
use Rattle.ir_types.specs.declared.syntax.Kind.{Kind}
use Rattle.ir_types.specs.declared.syntax.Kind.TheVariants.{Load, Store, Compute, Call}
use Rattle.ir_types.specs.declared.syntax.Instr.{Instr}
use Rattle.ir_types.specs.declared.syntax.Terminator.{Terminator}
use Rattle.ir_types.specs.declared.syntax.Terminator.TheVariants.{Return, Jump, Branch, Switch, Unreachable}
use Rattle.ir_types.specs.declared.syntax.Block.{Block}
use Rattle.ir_types.specs.declared.syntax.Function.{Function}
use Rattle.ir_types.specs.declared.syntax.Global.{Global}
use Rattle.ir_printer.specs.Text.{variable_type}

-- something has this name
abbrev pub IsPutName : Option Name → Type 0
IsPutName found = (name : Name) × (found ≡ Some name) × IsSpellable name

abbrev pub IsPutValue : Function → Block → Width → Operand → Type 0
IsPutValue f b w (Const n) = n < 2 ^ bits w
IsPutValue f b w (Param p) = IsPutName (operand_name f b (Param p))
IsPutValue f b w (Reg r) = IsPutName (operand_name f b (Reg r))

abbrev pub IsPutVariable : Program → Function → Variable → Type 0
IsPutVariable m f (variable.Local v) = (x : Width × Name) × (slice_get f.vars v ≡ Some x) × IsSpellable x.1
IsPutVariable m f (variable.Global g) = (x : Global) × (slice_get m.globals g ≡ Some x) × IsNameText x.name

abbrev pub IsPutTarget : Function → ℕ → Type 0
IsPutTarget f t = (x : Block) × (slice_get f.blocks t ≡ Some x) × IsSpellable x.name

abbrev pub ArePutTwo : Function → Block → Width → List Operand → Type 0
ArePutTwo f b w (one ∷ other ∷ []) = IsPutValue f b w one × IsPutValue f b w other
ArePutTwo f b w _ = ⊥

abbrev pub IsPutOne : Function → Block → Width → List Operand → Type 0
IsPutOne f b w (one ∷ []) = IsPutValue f b w one
IsPutOne f b w _ = ⊥

abbrev pub ArePutThree : Function → Block → Width → List Operand → Type 0
ArePutThree f b w (test ∷ one ∷ other ∷ []) = IsPutValue f b I1 test × IsPutValue f b w one × IsPutValue f b w other
ArePutThree f b w _ = ⊥

abbrev pub IsPutOperation : Function → Block → Op → List Operand → Type 0
IsPutOperation f b (op.Bin o w) os = ArePutTwo f b w os
IsPutOperation f b (op.Icmp p w) os = ArePutTwo f b w os
IsPutOperation f b (op.Cast o from to) os = IsPutOne f b from os
IsPutOperation f b (op.Select w) os = ArePutThree f b w os

abbrev pub ArePutArguments : Function → Block → List (Width × Name) → List Operand → Type 0
ArePutArguments f b [] [] = Unit {0}
ArePutArguments f b (p ∷ ps) (o ∷ os) = IsPutValue f b p.0 o × ArePutArguments f b ps os
ArePutArguments f b _ _ = ⊥

abbrev pub IsPutKind : Program → Function → Block → Kind → Type 0
IsPutKind m f b (Load v) = IsPutVariable m f v
IsPutKind m f b (Store o v) = IsPutValue f b (variable_type m f v) o × IsPutVariable m f v
IsPutKind m f b (Compute o os) = IsPutOperation f b o os
IsPutKind m f b (Call c os) = (g : Function) × (slice_get m.functions c ≡ Some g) × IsNameText g.name × ArePutArguments f b g.params os

-- a store has no result
abbrev pub IsPutResult : Kind → Option Name → Type 0
IsPutResult (Store o v) result = result ≡ None
IsPutResult _ result = Unit {0}

pub record IsPutInstr (m : Program) (f : Function) (b : Block) (i : Instr) : Type 0 where
  pub kind : IsPutKind m f b i.kind
  pub result : IsPutResult i.kind i.result
  pub named : IfSome i.result IsSpellable

abbrev pub IsPutCase : Function → Width → ℕ × ℕ → Type 0
IsPutCase f w c = (c.0 < 2 ^ bits w) × IsPutTarget f c.1

abbrev pub IsPutTerm : Function → Block → Terminator → Type 0
IsPutTerm f b (Return None) = Unit {0}
IsPutTerm f b (Return (Some o)) = (w : Width) × (f.ret ≡ Some w) × IsPutValue f b w o
IsPutTerm f b (Jump t) = IsPutTarget f t
IsPutTerm f b (Branch o t u) = IsPutValue f b I1 o × IsPutTarget f t × IsPutTarget f u
IsPutTerm f b (Switch w o t cases) = IsPutValue f b w o × IsPutTarget f t × AllByRecursion (IsPutCase f w) cases
IsPutTerm f b Unreachable = Unit {0}

pub record IsPutBlock (m : Program) (f : Function) (b : Block) : Type 0 where
  pub label : IsSpellable b.name
  pub instrs : AllByRecursion (IsPutInstr m f b) b.instrs
  pub term : IsPutTerm f b b.term

pub record IsPutFunction (m : Program) (f : Function) : Type 0 where
  pub named : IsNameText f.name
  pub params : AllByRecursion (λ p. IsSpellable p.1) f.params
  pub vars : AllByRecursion (λ x. IsSpellable x.1) f.vars
  pub blocks : AllByRecursion (IsPutBlock m f) f.blocks

pub record IsPutGlobal (g : Global) : Type 0 where
  pub named : IsNameText g.name
  pub fits : g.value < 2 ^ bits g.width

pub record IsPutModule (m : Program) : Type 0 where
  pub globals : AllByRecursion IsPutGlobal m.globals
  pub functions : AllByRecursion (IsPutFunction m) m.functions
