-- How a call ends: its status, and its line.
use Rattle.std.specs.Prelude.{ℕ, List, [], ◌++◌, codes, Ok, Err, Option, None, Some}
use Rattle.std.specs.Fmt.{decimal}
use Rattle.std.specs.declared.result.Result.{Result}
use Rattle.mc_num.specs.declared.op.Width.{Width}
use Rattle.mc_num.specs.declared.op.Trap.{Trap}
use Rattle.mc_num.specs.declared.op.Trap.TheVariants.{DivZero, DivOverflow, Unreachable}
use Rattle.ir_printer.specs.Text.{constant_text}
use Rattle.call_lines.specs.declared.ending.Problem.{Problem}
use Rattle.call_lines.specs.declared.ending.Problem.TheVariants.{TooLong, Text, Grown, NoMain, LongProfile, BadProfile, LongOutput, BadCertificate}
use Rattle.call_lines.specs.declared.ending.Done.{Done}
use Rattle.call_lines.specs.declared.ending.Done.TheVariants.{Written, Checked, Returned}
use Rattle.call_lines.specs.declared.ending.Stop.{Stop}
use Rattle.call_lines.specs.Refused.{refused_text}
use Rattle.call_lines.specs.RefusedProfile.{refused_profile_text}
use Rattle.call_lines.specs.Reasons.{path_text, reason_text}
use Rattle.call_lines.specs.declared.ending.Stop.TheVariants.{Usage, Refused, ReadFault, WriteFault, OutOfMemory, No, Trapped, StepLimit}

-- what is done, or the reason why the call stopped
abbrev pub Ending : Type 0
Ending = Result Done Stop

-- the status of the process
abbrev pub status_of : Ending → ℕ
status_of (Ok done) = 0
status_of (Err (Refused file problem)) = 1
status_of (Err Usage) = 2
status_of (Err (ReadFault name)) = 3
status_of (Err (WriteFault name)) = 4
status_of (Err OutOfMemory) = 5
status_of (Err (No reason)) = 6
status_of (Err (Trapped trap)) = 7
status_of (Err (StepLimit limit)) = 8

-- what a refusal says behind the file's name
abbrev pub refusal_text : Problem → List ℕ
refusal_text TooLong = codes ": E1 TooLong\n"
refusal_text (Text refusal excerpt) = refused_text refusal excerpt.now
refusal_text Grown = codes ": E17 Grown\n"
refusal_text NoMain = codes ": E18 NoMain\n"
refusal_text LongProfile = codes ": P1 TooLong\n"
refusal_text (BadProfile problem) = refused_profile_text problem
refusal_text LongOutput = codes ": E1 TooLong\n"
refusal_text (BadCertificate path) = codes ": C1 Form " ++ (path_text path ++ codes "\n")

-- a space, and the value as the canonical text spells it; nothing where there is no value
abbrev pub returned_text : Option (Width × ℕ) → List ℕ
returned_text None = []
returned_text (Some value) = codes " " ++ constant_text value.0 value.1

abbrev pub trap_text : Trap → List ℕ
trap_text DivZero = codes "DivZero"
trap_text DivOverflow = codes "DivOverflow"
trap_text Unreachable = codes "Unreachable"

-- the line for it
abbrev pub line_of : Ending → List ℕ
line_of (Ok Written) = []
line_of (Ok Checked) = []
line_of (Ok (Returned value)) = codes "mcpre: main returned" ++ (returned_text value ++ codes "\n")
line_of (Err (Refused file problem)) = codes "mcpre: " ++ (file.now ++ refusal_text problem)
line_of (Err Usage) = codes "mcpre: usage\n"
line_of (Err (ReadFault name)) = codes "mcpre: read fault: " ++ name.now ++ codes "\n"
line_of (Err (WriteFault name)) = codes "mcpre: write fault: " ++ name.now ++ codes "\n"
line_of (Err OutOfMemory) = codes "mcpre: out of memory\n"
line_of (Err (No reason)) = codes "mcpre: no: " ++ (reason_text reason ++ codes "\n")
line_of (Err (Trapped trap)) = codes "mcpre: trap " ++ (trap_text trap ++ codes "\n")
line_of (Err (StepLimit limit)) = codes "mcpre: step limit " ++ (decimal limit ++ codes "\n")
