-- What holds of each tree that tokens spell: its names can be spelled, and no type or value stands where the grammar has none.
use Rattle.std.specs.Prelude.{Option, All, IfSome}
use Rattle.ir_types.specs.Names.{IsNameText}
use Rattle.ir_types.specs.declared.span.At.{At}
use Rattle.ir_types.specs.declared.name.Name.{Name}
use Rattle.ir_types.specs.declared.name.Name.TheVariants.{Text, Number, Made}
use Rattle.ir_types.specs.declared.tree.RawValue.{RawValue}
use Rattle.ir_types.specs.declared.tree.RawValue.TheVariants as value
use Rattle.ir_types.specs.declared.tree.RawArg.{RawArg}
use Rattle.ir_types.specs.declared.tree.RawCase.{RawCase}
use Rattle.ir_types.specs.declared.tree.RawKind.{RawKind}
use Rattle.ir_types.specs.declared.tree.RawKind.TheVariants.{Call}
use Rattle.ir_types.specs.declared.tree.RawInstr.{RawInstr}
use Rattle.ir_types.specs.declared.tree.RawTerm.{RawTerm}
use Rattle.ir_types.specs.declared.tree.RawTerm.TheVariants.{Switch}
use Rattle.ir_types.specs.declared.tree.RawBlock.{RawBlock}
use Rattle.ir_types.specs.declared.tree.RawFunction.{RawFunction}
use Rattle.ir_types.specs.declared.tree.RawGlobal.{RawGlobal}
use Rattle.ir_types.specs.declared.tree.Raw.{Raw}
use Rattle.ir_types.specs.declared.tree.Ty.{Ty}
use Rattle.ir_types.specs.declared.tree.Ty.TheVariants.{Int, Void, Ptr}

-- a text that can be written as a name, or any number
abbrev pub IsWritten : Name → Type 0
IsWritten (Text bytes) = IsNameText bytes
IsWritten (Number _) = Unit {0}
IsWritten (Made _ _) = ⊥

-- the written name of a definition, if there is one, can be spelled
abbrev pub IsDefinable : Option (At Name) → Type 0
IsDefinable written = IfSome written (λ n. IsWritten n.item)

-- the type of a function's result: `ptr` is none
abbrev pub IsResultType : Ty → Type 0
IsResultType (Int _) = Unit {0}
IsResultType Void = Unit {0}
IsResultType Ptr = ⊥

abbrev pub IsLiteral : RawValue → Type 0
IsLiteral (value.Local _) = ⊥
IsLiteral _ = Unit {0}

-- a value of an integer type, or `ptr` and a local
abbrev pub IsArgument : Ty → RawValue → Type 0
IsArgument (Int _) v = Unit {0}
IsArgument Void v = ⊥
IsArgument Ptr (value.Local _) = Unit {0}
IsArgument Ptr _ = ⊥

abbrev pub IsSpelledArgument : RawArg → Type 0
IsSpelledArgument a = IsArgument a.ty a.value.item

abbrev pub IsSpelledKind : RawKind → Type 0
IsSpelledKind (Call type _ arguments) = IsResultType type × All IsSpelledArgument arguments
IsSpelledKind _ = Unit {0}

pub record IsSpelledInstr (x : RawInstr) : Type 0 where
  pub result : IsDefinable x.result
  pub kind : IsSpelledKind x.kind

abbrev pub IsSpelledCase : RawCase → Type 0
IsSpelledCase x = IsLiteral x.value.item

abbrev pub IsSpelledTerm : RawTerm → Type 0
IsSpelledTerm (Switch _ _ _ cases) = All IsSpelledCase cases
IsSpelledTerm _ = Unit {0}

pub record IsSpelledBlock (b : RawBlock) : Type 0 where
  pub label : IsDefinable b.label
  pub instrs : All IsSpelledInstr b.instrs
  pub term : IsSpelledTerm b.term

pub record IsSpelledFunction (f : RawFunction) : Type 0 where
  pub named : IsNameText f.name.item
  pub ret : IsResultType f.ret
  pub params : All (λ p. IsDefinable p.name) f.params
  pub blocks : All IsSpelledBlock f.blocks

pub record IsSpelledGlobal (g : RawGlobal) : Type 0 where
  pub named : IsNameText g.name.item
  pub value : IsLiteral g.value.item

pub record IsSpelledTree (raw : Raw) : Type 0 where
  pub functions : All IsSpelledFunction raw.functions
  pub globals : All IsSpelledGlobal raw.globals
