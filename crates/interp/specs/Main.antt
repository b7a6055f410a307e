-- The function that a run of a module begins with.
use Rattle.std.specs.Prelude.{ℕ, ◌+◌, ◌&&◌, Bool, List, [], ◌∷◌, Option, Some, None, option_map, if◌then◌else◌, codes}
use Rattle.std.specs.Str.{bytes_eq}
use Rattle.ir_types.specs.Program.{Program}
use Rattle.ir_types.specs.Rules.{is_nil}
use Rattle.ir_types.specs.declared.syntax.Function.{Function}
use Rattle.machines.specs.Runs.{Progress}
use Rattle.machines.specs.Meaning.{State, End}
use Rattle.ir_machine.specs.declared.frame.Frame.{Frame}
use Rattle.ir_machine.specs.Step.{Globals}
use Rattle.ir_machine.specs.Same.{is_defined}
use Rattle.profile.specs.declared.counts.FnCounts.{FnCounts}
use Rattle.run_counts.specs.Counted.{run_after, counts_after}

-- a defined function named main, without parameters
abbrev pub is_main : Function → Bool
is_main f = bytes_eq f.name (codes "main") && is_nil f.params && is_defined f.blocks

-- the first of these functions that is one, with its number, where the first of them has number i
abbrev pub main_from : ℕ → List Function → Option (ℕ × Function)
main_from i [] = None
main_from i (f ∷ fs) = if is_main f then Some (i, f) else main_from (i + 1) fs

abbrev pub main_of : Program → Option (ℕ × Function)
main_of m = main_from 0 m.functions

-- main of the module after n steps with this input, where there is one
abbrev pub run_of : Program → List ℕ → ℕ → Option (Progress (State Frame Globals) End)
run_of m input n = option_map (λ main. run_after m main.0 main.1 input n) (main_of m)

-- how often that run entered each function and took each slot
abbrev pub prof_of : Program → List ℕ → ℕ → Option (List FnCounts)
prof_of m input n = option_map (λ main. counts_after m main.0 main.1 input n) (main_of m)
