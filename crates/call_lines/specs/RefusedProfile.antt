-- What the line of a refused profile says.
use Rattle.std.specs.Prelude.{ℕ, List, ◌++◌, codes, Option, None, Some}
use Rattle.std.specs.Fmt.{decimal}
use Rattle.profile.specs.declared.reading.ProfileError.{ProfileError}
use Rattle.profile.specs.declared.reading.ProfileError.TheVariants as errors
use Rattle.call_lines.specs.declared.ending.ProfileProblem.{ProfileProblem}
use Rattle.call_lines.specs.declared.ending.ProfileProblem.TheVariants.{Form, Shape, Unbalanced, Unreached, Total}

-- the problem that an error of reading tells; want of memory is none
abbrev pub problem_of : ProfileError → Option ProfileProblem
problem_of (errors.Form line) = Some (Form line)
problem_of (errors.Shape line) = Some (Shape line)
problem_of (errors.Unbalanced function block entering leaving) = Some (Unbalanced function block entering leaving)
problem_of (errors.Unreached function block) = Some (Unreached function block)
problem_of errors.Total = Some Total
problem_of errors.NoMemory = None

-- the function and the block
abbrev pub block_text : ℕ → ℕ → List ℕ
block_text function block = codes " function " ++ (decimal function ++ (codes " block " ++ decimal block))

-- what the line says behind the file's name
abbrev pub refused_profile_text : ProfileProblem → List ℕ
refused_profile_text (Form line) = codes ":" ++ (decimal line ++ codes ": P2 Form\n")
refused_profile_text (Shape line) = codes ":" ++ (decimal line ++ codes ": P3 Shape\n")
refused_profile_text (Unbalanced function block entering leaving) =
    codes ": P4 Unbalanced" ++ (block_text function block ++ (codes " in " ++ (decimal entering ++ (codes " out " ++ (decimal leaving ++ codes "\n")))))
refused_profile_text (Unreached function block) = codes ": P5 Unreached" ++ (block_text function block ++ codes "\n")
refused_profile_text Total = codes ": P6 Total\n"
