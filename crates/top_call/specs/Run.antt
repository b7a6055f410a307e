-- What `run` makes of a file, and how it may end.
use Rattle.std.specs.Prelude.{◌≡◌, ◌⊎◌, ℕ, List, Option, None, Some, Result, Ok, Err, ◌≤◌, ◌≢◌, IsTrue, IfSome, codes}
use Rattle.std.specs.Option.{option_and_then, option_map}
use Rattle.mc_num.specs.declared.op.Width.{Width}
use Rattle.mc_num.specs.declared.op.Trap.{Trap}
use Rattle.mc_num.specs.declared.memory.NoMemory.{NoMemory}
use Rattle.mc_host.specs.Faults.{Rose}
use Rattle.mc_host.specs.Host.{HostState, IsBeforeOrPart, KeepsRights}
use Rattle.ir_types.specs.Program.{Program}
use Rattle.machines.specs.Runs.{Exchange, Progress, At, Over}
use Rattle.machines.specs.Meaning.{State, End, ByReturn, ByTrap}
use Rattle.ir_machine.specs.Step.{Globals}
use Rattle.ir_machine.specs.declared.frame.Frame.{Frame}
use Rattle.profile.specs.Text.{prof_text}
use Rattle.profile.specs.declared.counts.Profile.{Profile}
use Rattle.interp.specs.Main.{main_of, run_of}
use Rattle.interp.specs.Run.{Ran}
use Rattle.interp.specs.declared.ends.RunEnd.{RunEnd}
use Rattle.interp.specs.declared.ends.RunEnd.TheVariants as runs
use Rattle.call_lines.specs.declared.ending.Problem.{Problem}
use Rattle.call_lines.specs.declared.ending.Problem.TheVariants.{TooLong, Text, Grown, NoMain, LongProfile, BadProfile, LongOutput, BadCertificate}
use Rattle.call_lines.specs.declared.ending.Done.TheVariants.{Returned}
use Rattle.call_lines.specs.declared.ending.Stop.TheVariants.{Refused, ReadFault, WriteFault, OutOfMemory, Trapped, StepLimit}
use Rattle.call_lines.specs.Ending.{Ending}
use Rattle.top_call.specs.Print.{HasProblem, ReadsAs}
use Rattle.top_call.specs.World.{World, AreStill}

-- ---- what is asked

-- a file can't be run, since it has this problem: it is too long, or its text is refused, or it has no main
abbrev pub HasRunProblem : HostState → List ℕ → Problem → Type 0
HasRunProblem host input NoMain = (program : Program) × ReadsAs host input program × (main_of program ≡ None)
HasRunProblem host input Grown = ⊥
HasRunProblem host input LongProfile = ⊥
HasRunProblem host input LongOutput = ⊥
HasRunProblem host input (BadCertificate path) = ⊥
HasRunProblem host input (BadProfile problem) = ⊥
HasRunProblem host input TooLong = HasProblem host input TooLong
HasRunProblem host input (Text refusal excerpt) = HasProblem host input (Text refusal excerpt)

-- where the run of main of the file stands after so many steps, on the bytes that the standard input has left
abbrev pub RunsTo : (limit : ℕ) (input : List ℕ) → World → Progress (State Frame Globals) End → Type 0
RunsTo limit input old progress = (program : Program) × ReadsAs old.host input program × (run_of program old.input.left limit ≡ Some progress)

-- within so many steps it returns; it traps; they end nothing
abbrev pub Returns : (limit : ℕ) (input : List ℕ) → World → Type 0
Returns limit input old = (value : Option ℕ) × (transcript : List Exchange) × RunsTo limit input old (Over (ByReturn value) transcript)

abbrev pub Traps : (limit : ℕ) (input : List ℕ) → World → Type 0
Traps limit input old = (trap : Trap) × (transcript : List Exchange) × RunsTo limit input old (Over (ByTrap trap) transcript)

abbrev pub EndsNothing : (limit : ℕ) (input : List ℕ) → World → Type 0
EndsNothing limit input old = (state : State Frame Globals) × RunsTo limit input old (At state)

-- ---- what is done

-- the width of what main returns
abbrev pub main_width : Program → Option Width
main_width program = option_and_then (λ main. main.1.ret) (main_of program)

-- the value that main returned, with its width
abbrev pub typed_value : Program → Option ℕ → Option (Width × ℕ)
typed_value program value = option_and_then (λ v. option_map (λ width. (width, v)) (main_width program)) value

-- main of the file was run so, over the standard input and output
pub record RanAs (limit : ℕ) (input : List ℕ) (old new : World) (result : Result RunEnd NoMemory) : Type 0 where
  pub program : Program
  pub reads : ReadsAs old.host input program
  pub ran : Ran program limit old.input new.input old.out new.out result

-- it returned
pub record HasReturned (limit : ℕ) (input : List ℕ) (old new : World) : Type 0 where
  pub value : Option ℕ
  pub profile : Profile
  pub run : RanAs limit input old new (Ok (runs.Returned value profile))

-- the text of its profile
abbrev pub text_of_profile : {limit : ℕ} {input : List ℕ} {old new : World} → HasReturned limit input old new → List ℕ
text_of_profile returned = prof_text returned.run.program returned.profile.functions

-- it returned this value, and the file of the profile, if one is asked for, holds exactly the profile's text
abbrev pub RunIsDone : (limit : ℕ) (input : List ℕ) (profile : Option (List ℕ)) → World → World → Option (Width × ℕ) → Type 0
RunIsDone limit input profile old new value =
    (returned : HasReturned limit input old new) × (value ≡ typed_value returned.run.program returned.value)
    × IfSome profile (λ name. new.host.file name ≡ Some (text_of_profile returned))

-- what was taken and put is what main's run so far took and put, if it began
abbrev pub HasMoved : (limit : ℕ) (input : List ℕ) → World → World → Type 0
HasMoved limit input old new = AreStill old new ⊎ ((result : Result RunEnd NoMemory) × RanAs limit input old new result)

-- the file of the profile is as before, or main returned and the file holds a first part of the profile's text, which may be all of it
abbrev pub LeavesProfilePart : (limit : ℕ) (input : List ℕ) (profile : Option (List ℕ)) → World → World → Type 0
LeavesProfilePart limit input profile old new =
    (new.host.file ≡ old.host.file)
    ⊎ ((name : List ℕ) × (returned : HasReturned limit input old new) × (profile ≡ Some name)
    × IsBeforeOrPart name (text_of_profile returned) old.host new.host)

-- ---- endings

-- the file could not be read; nothing was run
abbrev pub IsFileFault : (input : List ℕ) → World → World → (name : List ℕ) → Type 0
IsFileFault input old new name = (name ≡ input) × AreStill old new × Rose old.host.read_faults new.host.read_faults

-- a byte could not be taken
abbrev pub IsInputFault : (limit : ℕ) (input : List ℕ) → World → World → (name : List ℕ) → Type 0
IsInputFault limit input old new name =
    (name ≡ codes "standard input") × Rose old.input.faults new.input.faults
    × (IsTrue old.host.tells → RanAs limit input old new (Ok runs.ReadFault))

-- a byte could not be put
abbrev pub IsOutFault : (limit : ℕ) (input : List ℕ) → World → World → (name : List ℕ) → Type 0
IsOutFault limit input old new name =
    (name ≡ codes "standard output") × (new.host.file ≡ old.host.file) × Rose old.out.faults new.out.faults
    × (IsTrue old.host.tells → RanAs limit input old new (Ok runs.WriteFault))

-- main returned, but its profile could not be written
abbrev pub IsProfileFault : (limit : ℕ) (input : List ℕ) (profile : Option (List ℕ)) → World → World → (name : List ℕ) → Type 0
IsProfileFault limit input profile old new name =
    (profile ≡ Some name) × Rose old.host.write_faults new.host.write_faults
    × (IsTrue old.host.tells → (returned : HasReturned limit input old new) × IsBeforeOrPart name (text_of_profile returned) old.host new.host)

-- the endings of `run`, each with its cause and with what it leaves
abbrev pub RunEnds : (limit : ℕ) (input : List ℕ) (profile : Option (List ℕ)) → World → World → Ending → Type 0
RunEnds limit input profile old new (Ok (Returned value)) = IsTrue old.host.tells → RunIsDone limit input profile old new value
RunEnds limit input profile old new (Err (Refused file problem)) =
    (file.now ≡ input) × (new.host.file ≡ old.host.file) × AreStill old new × (IsTrue old.host.tells → HasRunProblem old.host input problem)
RunEnds limit input profile old new (Err (ReadFault name)) =
    (new.host.file ≡ old.host.file) × (IsFileFault input old new name.now ⊎ IsInputFault limit input old new name.now)
RunEnds limit input profile old new (Err (WriteFault name)) =
    IsOutFault limit input old new name.now ⊎ IsProfileFault limit input profile old new name.now
RunEnds limit input profile old new (Err OutOfMemory) =
    IsTrue old.host.tells → HasMoved limit input old new × LeavesProfilePart limit input profile old new
RunEnds limit input profile old new (Err (Trapped trap)) =
    (new.host.file ≡ old.host.file) × (IsTrue old.host.tells → RanAs limit input old new (Ok (runs.Trapped trap)))
RunEnds limit input profile old new (Err (StepLimit steps)) =
    (steps ≡ limit) × (new.host.file ≡ old.host.file) × (IsTrue old.host.tells → RanAs limit input old new (Ok runs.StepLimit))
RunEnds limit input profile old new _ = ⊥

-- no file changes but that of the profile, and no count falls
pub record OnlyProfiles (profile : Option (List ℕ)) (old new : HostState) : Type 0 where
  pub rights : KeepsRights old new
  pub others : (other : List ℕ) → profile ≢ Some other → new.file other ≡ old.file other
  pub read_faults : old.read_faults ≤ new.read_faults
  pub write_faults : old.write_faults ≤ new.write_faults
