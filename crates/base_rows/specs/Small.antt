-- A small module that tests run: putchar shows what a function gives back of a global.
use Rattle.std.specs.Prelude.{ℕ, [], ◌∷◌, None, Some, codes}
use Rattle.mc_num.specs.declared.op.Width.TheVariants.{I32}
use Rattle.ir_types.specs.Program.{Program}
use Rattle.ir_types.specs.WellFormed.{putchar}
use Rattle.ir_types.specs.declared.name.Name.TheVariants.{Number}
use Rattle.ir_types.specs.declared.syntax.Operand.TheVariants.{Param, Reg}
use Rattle.ir_types.specs.declared.syntax.Variable.TheVariants.{Local, Global}
use Rattle.ir_types.specs.declared.syntax.Kind.{Kind}
use Rattle.ir_types.specs.declared.syntax.Kind.TheVariants.{Load, Store, Call}
use Rattle.ir_types.specs.declared.syntax.Instr.{Instr}
use Rattle.ir_types.specs.declared.syntax.Terminator.TheVariants.{Return}
use Rattle.ir_types.specs.declared.syntax.Block.{Block}
use Rattle.ir_types.specs.declared.syntax.Function.{Function}
use Rattle.ir_types.specs.declared.syntax.Global as globals

-- an instruction whose result has a number as its name
abbrev pub gives : ℕ → Kind → Instr
gives n kind = record { result = Some (Number n); kind = kind }

abbrev pub keeps : Instr
keeps = record { result = None; kind = Store (Param 0) (Local 0) }

-- a function that keeps its argument in a variable
abbrev pub kept_block : Block
kept_block = record {
  name = Number 1;
  instrs = keeps ∷ gives 3 (Load (Local 0)) ∷ [];
  term = Return (Some (Reg 1));
}

abbrev pub kept : Function
kept = record { name = codes "f"; ret = Some I32; params = (I32, Number 0) ∷ []; vars = (I32, Number 2) ∷ []; blocks = kept_block ∷ [] }

-- the global is passed to that function, and what it gives to putchar
abbrev pub main_block : Block
main_block = record {
  name = Number 0;
  instrs = gives 1 (Load (Global 0)) ∷ gives 2 (Call 1 (Reg 0 ∷ [])) ∷ gives 3 (Call 0 (Reg 1 ∷ [])) ∷ [];
  term = Return (Some (Reg 2));
}

abbrev pub main : Function
main = record { name = codes "main"; ret = Some I32; params = []; vars = []; blocks = main_block ∷ [] }

-- 321 is 65 modulo 256
abbrev pub letter : globals.Global
letter = record { name = codes "g"; width = I32; value = 321 }

abbrev pub small : Program
small = record { globals = letter ∷ []; functions = putchar ∷ kept ∷ main ∷ [] }
