-- When two modules mean the same.
use Rattle.std.specs.Prelude.{◌≡◌, ℕ, ◌^◌, ◌<◌, Bool, true, false, List, [], ◌∷◌, Some, All, map, slice_get}
use Rattle.mc_num.specs.Value.{HaveWidths}
use Rattle.ir_types.specs.Program.{Program}
use Rattle.ir_types.specs.WellFormed.{Signature, signature, widths}
use Rattle.ir_types.specs.declared.syntax.Block.{Block}
use Rattle.ir_types.specs.declared.syntax.Function.{Function}
use Rattle.machines.specs.Runs.{RunAlike}
use Rattle.machines.specs.Meaning.{State, state, machine_of}
use Rattle.ir_machine.specs.Step.{Globals, first_frame, frames_of, written}
use Rattle.ir_machine.specs.declared.frame.Frame.{Frame}

-- the run of a function with these arguments and this input begins here
abbrev pub start : Program → ℕ → Function → List ℕ → List ℕ → State Frame Globals
start m index function arguments input =
    state (record { top = first_frame index function arguments; below = []; globals = written m }) input []

abbrev pub is_defined : List Block → Bool
is_defined [] = false
is_defined (block ∷ blocks) = true

-- what is the same of two functions: name, types, and whether they are defined
pub record Outline : Type 0 where
  pub name : List ℕ
  pub types : Signature
  pub defined : Bool

abbrev pub outline : Function → Outline
outline function = record { name = function.name; types = signature function; defined = is_defined function.blocks }

-- the modules have the same globals and the same functions, and each defined function does the same with all arguments and all inputs
pub record Same (m m' : Program) : Type 0 where
  pub globals : m.globals ≡ m'.globals
  pub functions : map outline m.functions ≡ map outline m'.functions
  pub runs : (index : ℕ) (f f' : Function) (arguments input : List ℕ)
      → slice_get m.functions index ≡ Some f → slice_get m'.functions index ≡ Some f' → is_defined f.blocks ≡ true
      → HaveWidths (widths f.params) arguments → All (λ byte. byte < 2 ^ 8) input
      → RunAlike (machine_of (frames_of m)) (machine_of (frames_of m')) (start m index f arguments input) (start m' index f' arguments input)
