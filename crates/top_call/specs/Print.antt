-- What `print` makes of a file, and how it may end.
use Rattle.std.specs.Prelude.{◌≡◌, ◌≢◌, ◌⊎◌, ◌^◌, ◌<◌, ◌≤◌, ℕ, List, length, IsTrue, Some, Ok, Err}
use Rattle.mc_host.specs.Faults.{Rose}
use Rattle.mc_host.specs.Host.{HostState, IsBeforeOrPart, KeepsRights}
use Rattle.call_lines.specs.declared.ending.Problem.{Problem}
use Rattle.call_lines.specs.declared.ending.Problem.TheVariants.{TooLong, Text, Grown, NoMain, LongProfile, BadProfile, LongOutput, BadCertificate}
use Rattle.call_lines.specs.declared.ending.Done.TheVariants.{Written}
use Rattle.call_lines.specs.declared.ending.Stop.TheVariants.{Refused, ReadFault, WriteFault, OutOfMemory}
use Rattle.call_lines.specs.Ending.{Ending}
use Rattle.ir_types.specs.Program.{Program}
use Rattle.ir_printer.specs.Text.{text_of}
use Rattle.ir_reader.specs.Reading.{Reads, Refuses, ReadsBack}
use Rattle.call_lines.specs.Refused.{place_of, excerpt_at}

-- how many bytes a text has at most
abbrev pub text_limit : ℕ
text_limit = 2 ^ 26

-- the file reads as this program
pub record ReadsAs (host : HostState) (input : List ℕ) (program : Program) : Type 0 where
  pub content : List ℕ
  pub holds : host.file input ≡ Some content
  pub short : length content ≤ text_limit
  pub reads : Reads content program

-- the file reads as a program whose text is this one; the text isn't too long, and reads back as the same program
pub record PrintsAs (host : HostState) (input text : List ℕ) : Type 0 where
  pub program : Program
  pub reads : ReadsAs host input program
  pub is_text : text ≡ text_of program
  pub fits : length text ≤ text_limit
  pub back : ReadsBack program

-- the file can't be printed, since it has this problem: it is too long, or its text is refused, told with the text's bytes at that place, or the
-- text of what it reads as would be too long
abbrev pub HasProblem : HostState → List ℕ → Problem → Type 0
HasProblem host input TooLong = (content : List ℕ) × (host.file input ≡ Some content) × (text_limit < length content)
HasProblem host input (Text refusal excerpt) =
    (content : List ℕ) × (host.file input ≡ Some content) × (length content ≤ text_limit)
    × Refuses content refusal × (excerpt.now ≡ excerpt_at content (place_of refusal))
HasProblem host input NoMain = ⊥
HasProblem host input LongProfile = ⊥
HasProblem host input (BadProfile problem) = ⊥
HasProblem host input LongOutput = ⊥
HasProblem host input (BadCertificate path) = ⊥
HasProblem host input Grown = (program : Program) × ReadsAs host input program × (text_limit < length (text_of program))

-- the file that is written is as before, or holds a first part of its text, which may be all of it
abbrev pub LeavesPart : (input output : List ℕ) → HostState → HostState → Type 0
LeavesPart input output old new =
    (new.file output ≡ old.file output)
    ⊎ ((text : List ℕ) × PrintsAs old input text × IsBeforeOrPart output text old new)

-- the endings of `print`, each with its cause and with what it leaves
abbrev pub PrintEnds : (input output : List ℕ) → HostState → HostState → Ending → Type 0
PrintEnds input output old new (Ok Written) =
    IsTrue old.tells → (text : List ℕ) × PrintsAs old input text × (new.file output ≡ Some text)
PrintEnds input output old new (Err (Refused file problem)) =
    (file.now ≡ input) × (new.file ≡ old.file) × (IsTrue old.tells → HasProblem old input problem)
PrintEnds input output old new (Err (ReadFault name)) =
    (name.now ≡ input) × (new.file ≡ old.file) × Rose old.read_faults new.read_faults
PrintEnds input output old new (Err (WriteFault name)) =
    (name.now ≡ output) × Rose old.write_faults new.write_faults
    × (IsTrue old.tells → (text : List ℕ) × PrintsAs old input text × IsBeforeOrPart output text old new)
PrintEnds input output old new (Err OutOfMemory) = IsTrue old.tells → LeavesPart input output old new
PrintEnds input output old new _ = ⊥

-- no file changes but the one that is written, and no count falls
pub record OnlyPrints (output : List ℕ) (old new : HostState) : Type 0 where
  pub rights : KeepsRights old new
  pub others : (other : List ℕ) → other ≢ output → new.file other ≡ old.file other
  pub read_faults : old.read_faults ≤ new.read_faults
  pub write_faults : old.write_faults ≤ new.write_faults
