-- Why a part of a command stopped.
use Rattle.std.specs.Prelude.{◌≡◌, ◌⊎◌, ◌<◌, ℕ, Option, Some, List, length, IsTrue, codes, Ok, Err}
use Rattle.mc_host.specs.Faults.{Rose}
use Rattle.mc_host.specs.Host.{HostState, IsBeforeOrPart}
use Rattle.call_lines.specs.declared.ending.Problem.{Problem}
use Rattle.call_lines.specs.declared.ending.Problem.TheVariants.{TooLong, Text, Grown, NoMain, BadProfile, BadCertificate}
use Rattle.call_lines.specs.declared.ending.Stop.{Stop}
use Rattle.call_lines.specs.declared.ending.Stop.TheVariants.{Usage, Refused, ReadFault, WriteFault, OutOfMemory, No, Trapped, StepLimit}
use Rattle.top_call.specs.Print.{HasProblem, text_limit}
use Rattle.ir_types.specs.Program.{Program}
use Rattle.ir_printer.specs.Text.{text_of}
use Rattle.ir_reader.specs.Reading.{Refuses}
use Rattle.ir_machine.specs.Same.{Same}
use Rattle.mc_num.specs.declared.memory.NoMemory.{NoMemory}
use Rattle.interp.specs.Run.{Ran}
use Rattle.interp.specs.declared.ends.RunEnd.TheVariants as runs
use Rattle.top_call.specs.World.{World}
use Rattle.top_call.specs.Row.{OptFiles}
use Rattle.certificate.specs.declared.types.Certificate.{Certificate}
use Rattle.certificate.specs.Parts.{first_wrong, text_parts}
use Rattle.certificate.specs.Text.{json}
use Rattle.certified.specs.Certified.{IsYes}
use Rattle.checker.specs.Reasons.{IsNo}
use Rattle.optimise.specs.Optimised.{HasTooMany, IsOptimised}
use Rattle.profile.specs.declared.counts.FnCounts.{FnCounts}
use Rattle.top_call.specs.Accepted.{IsBadProfile}
use Rattle.top_call.specs.Opt.{IsFit, IsGrown, IsShownBy, LeavesParts}
use Rattle.call_lines.specs.Refused.{place_of, excerpt_at}
use Rattle.mc_host.specs.Streams.{SinkState}
use Rattle.placement.specs.declared.placements.Placement.{Placement}
use Rattle.optimise.specs.Choices.{AreChoices}
use Rattle.report.specs.Report.{IsReport}
use Rattle.top_call.specs.Report.{HasGrownItself, HasPutPart, IsPutFault}

-- why a file was not read, where `long` is its problem if it is too long
abbrev pub StopsReading : List ℕ → (long : Problem) → HostState → HostState → Stop → Type 0
StopsReading name long old new (Refused file problem) =
    (file.now ≡ name) × (problem ≡ long) × (IsTrue old.tells → HasProblem old name TooLong)
StopsReading name long old new (ReadFault file) = (file.now ≡ name) × Rose old.read_faults new.read_faults
StopsReading name long old new OutOfMemory = Unit {0}
StopsReading name long old new _ = ⊥

-- why a file of any length was not read
abbrev pub StopsReadingWhole : List ℕ → HostState → HostState → Stop → Type 0
StopsReadingWhole name old new (ReadFault file) = (file.now ≡ name) × Rose old.read_faults new.read_faults
StopsReadingWhole name old new OutOfMemory = Unit {0}
StopsReadingWhole name old new _ = ⊥

-- the text is refused so, told with its bytes at that place
abbrev pub IsRefusedText : List ℕ → Problem → Type 0
IsRefusedText source (Text refusal excerpt) = Refuses source refusal × (excerpt.now ≡ excerpt_at source (place_of refusal))
IsRefusedText source _ = ⊥

-- why the bytes of a file gave no program
abbrev pub StopsParsing : (name source : List ℕ) → Stop → Type 0
StopsParsing name source (Refused file problem) = (file.now ≡ name) × IsRefusedText source problem
StopsParsing name source OutOfMemory = Unit {0}
StopsParsing name source _ = ⊥

-- why a program of a file gave no text
abbrev pub StopsPrinting : List ℕ → Program → Stop → Type 0
StopsPrinting name program (Refused file problem) =
    (file.now ≡ name) × (problem ≡ Grown) × (text_limit < length (text_of program))
StopsPrinting name program OutOfMemory = Unit {0}
StopsPrinting name program _ = ⊥

-- why main of a program did not return
abbrev pub StopsRunning : (name : List ℕ) (limit : ℕ) → Program → World → World → Stop → Type 0
StopsRunning name limit program old new (Refused file problem) =
    (file.now ≡ name) × (problem ≡ NoMain) × Ran program limit old.input new.input old.out new.out (Ok runs.NoMain)
StopsRunning name limit program old new (ReadFault file) =
    (file.now ≡ codes "standard input") × Ran program limit old.input new.input old.out new.out (Ok runs.ReadFault)
StopsRunning name limit program old new (WriteFault file) =
    (file.now ≡ codes "standard output") × Ran program limit old.input new.input old.out new.out (Ok runs.WriteFault)
StopsRunning name limit program old new OutOfMemory =
    (reason : NoMemory) × Ran program limit old.input new.input old.out new.out (Err reason)
StopsRunning name limit program old new (Trapped trap) = Ran program limit old.input new.input old.out new.out (Ok (runs.Trapped trap))
StopsRunning name limit program old new (StepLimit steps) =
    (steps ≡ limit) × Ran program limit old.input new.input old.out new.out (Ok runs.StepLimit)
StopsRunning name limit program old new Usage = ⊥
StopsRunning name limit program old new (No reason) = ⊥

-- why a file was not written
abbrev pub StopsWriting : List ℕ → HostState → HostState → Stop → Type 0
StopsWriting name old new (WriteFault file) = (file.now ≡ name) × Rose old.write_faults new.write_faults
StopsWriting name old new OutOfMemory = Unit {0}
StopsWriting name old new _ = ⊥

-- why a profile with this text was not written, and what is left
abbrev pub StopsProfiling : Option (List ℕ) → (text : List ℕ) → HostState → HostState → Stop → Type 0
StopsProfiling profile text old new (WriteFault file) =
    (profile ≡ Some file.now) × Rose old.write_faults new.write_faults × (IsTrue old.tells → IsBeforeOrPart file.now text old new)
StopsProfiling profile text old new OutOfMemory =
    (new.file ≡ old.file) ⊎ ((name : List ℕ) × (profile ≡ Some name) × (IsTrue old.tells → IsBeforeOrPart name text old new))
StopsProfiling profile text old new _ = ⊥

-- why the bytes of a profile gave no counts
abbrev pub StopsCounting : (name content : List ℕ) → Program → Stop → Type 0
StopsCounting name content program (Refused file (BadProfile problem)) = (file.now ≡ name) × IsBadProfile program content problem
StopsCounting name content program OutOfMemory = Unit {0}
StopsCounting name content program _ = ⊥

-- the texts are those of a module optimised by the counts that isn't too large, and of a certificate that shows it; what is read of the first does what
-- the module does
pub record AreOptimisedTexts (program : Program) (counts : List FnCounts) (text certificate_text : List ℕ) : Type 0 where
  pub program' : Program
  pub optimised : IsOptimised program counts program'
  pub certificate : Certificate
  pub shown : IsShownBy program counts certificate program'
  pub is_text : text ≡ text_of program'
  pub is_json : certificate_text ≡ json certificate
  pub fit : IsFit program'
  pub again : Same program fit.back.again

-- why there is no text of a module optimised by the counts
abbrev pub StopsOptimising : (name : List ℕ) → Program → List FnCounts → Stop → Type 0
StopsOptimising name program counts (Refused file problem) =
    (file.now ≡ name) × (problem ≡ Grown) × (((program' : Program) × IsOptimised program counts program' × IsGrown program') ⊎ HasTooMany program counts)
StopsOptimising name program counts OutOfMemory = Unit {0}
StopsOptimising name program counts _ = ⊥

-- why OUT and CERT with these texts were not both written, and what is left
abbrev pub StopsWritingBoth : OptFiles → (text certificate_text : List ℕ) → HostState → HostState → Stop → Type 0
StopsWritingBoth files text certificate_text old new (WriteFault name) =
    Rose old.write_faults new.write_faults
    × (((name.now ≡ files.output) × (new.file files.certificate ≡ old.file files.certificate)
    × (IsTrue old.tells → IsBeforeOrPart files.output text old new))
    ⊎ ((name.now ≡ files.certificate)
    × (IsTrue old.tells → (new.file files.output ≡ Some text) × IsBeforeOrPart files.certificate certificate_text old new)))
StopsWritingBoth files text certificate_text old new OutOfMemory = IsTrue old.tells → LeavesParts files text certificate_text old new
StopsWritingBoth files text certificate_text old new _ = ⊥

-- why the bytes of a certificate gave none
abbrev pub StopsCertifying : (name content : List ℕ) → Stop → Type 0
StopsCertifying name content (Refused file (BadCertificate path)) = (file.now ≡ name) × (first_wrong (text_parts content) ≡ Some path)
StopsCertifying name content OutOfMemory = Unit {0}
StopsCertifying name content _ = ⊥

-- why the checker didn't say yes
abbrev pub StopsChecking : Program → List FnCounts → (text : List ℕ) → Certificate → Stop → Type 0
StopsChecking program counts text certificate (No reason) = ¬ (IsYes program counts text certificate) × IsNo program counts text certificate reason
StopsChecking program counts text certificate OutOfMemory = Unit {0}
StopsChecking program counts text certificate _ = ⊥

-- the text is the report of a module over the placements that these counts choose
abbrev pub IsReportOver : Program → List FnCounts → List ℕ → Type 0
IsReportOver program counts text = (placements : List (List Placement)) × AreChoices program counts placements × IsReport program counts placements text

-- why the text was not put
abbrev pub StopsPutting : List ℕ → SinkState → SinkState → Stop → Type 0
StopsPutting text old new (WriteFault name) = IsPutFault name.now old new × HasPutPart text old new
StopsPutting text old new _ = ⊥

-- why there is no summary of n diamonds
abbrev pub StopsSummarising : ℕ → Stop → Type 0
StopsSummarising n (Refused file problem) = (file.now ≡ codes "self") × (problem ≡ Grown) × HasGrownItself n
StopsSummarising n OutOfMemory = Unit {0}
StopsSummarising n _ = ⊥
