-- What an answer tells of the first problem.
use Rattle.std.specs.Prelude.{◌≡◌, Option, Some, None, Result, Ok, Err}
use Rattle.ir_types.specs.declared.rules.Problem.{Problem}
use Rattle.ir_uses.specs.declared.error.CheckError.{CheckError}
use Rattle.ir_uses.specs.declared.error.CheckError.TheVariants.{Broken, NoMemory}

-- an error tells this problem, or want of memory
abbrev pub Tells : CheckError → Option Problem → Type 0
Tells (Broken p) problem = problem ≡ Some p
Tells NoMemory problem = Unit {0}

-- an answer is an error that tells the problem, or there is none
abbrev pub IsAnswer : {A : Type 0} → Result A CheckError → Option Problem → Type 0
IsAnswer (Ok x) problem = problem ≡ None
IsAnswer (Err e) problem = Tells e problem
