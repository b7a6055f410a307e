-- What `opt` makes of a module and its profile, and how it may end.
use Rattle.std.specs.Prelude.{◌≡◌, ◌≢◌, ◌⊎◌, ◌<◌, ◌≤◌, ℕ, List, length, All, IsTrue, Some, Ok, Err}
use Rattle.mc_host.specs.Faults.{Rose}
use Rattle.mc_host.specs.Host.{HostState, IsBeforeOrPart, KeepsRights}
use Rattle.ir_types.specs.Program.{Program}
use Rattle.ir_types.specs.WellFormed.{IsWellFormed}
use Rattle.ir_types.specs.Limits.{IsWithinLimits}
use Rattle.ir_printer.specs.Text.{text_of}
use Rattle.ir_reader.specs.Reading.{ReadsBack}
use Rattle.ir_machine.specs.Same.{Same}
use Rattle.profile.specs.declared.counts.FnCounts.{FnCounts}
use Rattle.certificate.specs.declared.types.Certificate.{Certificate}
use Rattle.certificate.specs.Holds.{Holds}
use Rattle.certificate.specs.Text.{json}
use Rattle.certified.specs.Certified.{AreAllBest, IsYes}
use Rattle.optimise.specs.Optimised.{HasTooMany, IsOptimised, IsOptimisedBy}
use Rattle.call_lines.specs.declared.ending.Problem.{Problem}
use Rattle.call_lines.specs.declared.ending.Problem.TheVariants.{Grown}
use Rattle.call_lines.specs.declared.ending.Done.TheVariants.{Written}
use Rattle.call_lines.specs.declared.ending.Stop.TheVariants.{Refused, ReadFault, WriteFault, OutOfMemory}
use Rattle.call_lines.specs.Ending.{Ending}
use Rattle.top_call.specs.Row.{OptFiles}
use Rattle.top_call.specs.Print.{ReadsAs, text_limit}
use Rattle.top_call.specs.Accepted.{AreReadAs, HasReadProblem, IsUnreadOf, KeepsRead, unread_file}

-- ---- what is read

abbrev pub AreAccepted : OptFiles → HostState → Program → Type 0
AreAccepted files host program = AreReadAs files.input files.profile host program

-- the module or the profile can't be read
abbrev pub HasFileProblem : OptFiles → HostState → Problem → Type 0
HasFileProblem files host problem = HasReadProblem files.input files.profile host problem

abbrev pub refused_file : OptFiles → Problem → List ℕ
refused_file files problem = unread_file files.input files.profile problem

-- ---- what is made of it

-- this is the module of the files, optimised by the counts of the profile
pub record OptimisesTo (files : OptFiles) (host : HostState) (program' : Program) : Type 0 where
  pub program : Program
  pub accepted : AreAccepted files host program
  pub optimised : IsOptimised program accepted.counts program'

-- the module is too large: its text is too long, or a function has more than it may
abbrev pub IsGrown : Program → Type 0
IsGrown program' = (text_limit < length (text_of program')) ⊎ ¬ (All IsWithinLimits program'.functions)

-- the module isn't too large, and its text reads back as that module
pub record IsFit (program' : Program) : Type 0 where
  pub fits : length (text_of program') ≤ text_limit
  pub limits : All IsWithinLimits program'.functions
  pub back : ReadsBack program'

-- the files are accepted, and by the counts of the profile too much would be inserted
pub record InsertsTooMany (files : OptFiles) (host : HostState) : Type 0 where
  pub program : Program
  pub accepted : AreAccepted files host program
  pub many : HasTooMany program accepted.counts

-- the files are accepted, and the optimised module is too large, or there is none since too much would be inserted
abbrev pub HasGrown : OptFiles → HostState → Type 0
HasGrown files host = ((program' : Program) × OptimisesTo files host program' × IsGrown program') ⊎ InsertsTooMany files host

-- the files are accepted, not too much would be inserted, and the optimised module isn't too large
pub record AreOptimisable (files : OptFiles) (host : HostState) : Type 0 where
  pub program : Program
  pub accepted : AreAccepted files host program
  pub few : ¬ (HasTooMany program accepted.counts)
  pub not_grown : (program' : Program) → IsOptimised program accepted.counts program' → ¬ (IsGrown program')

-- nothing can be written: a file can't be read, or the optimised module is too large, or there is none
abbrev pub HasOptProblem : OptFiles → HostState → Problem → Type 0
HasOptProblem files host Grown = HasGrown files host
HasOptProblem files host problem = HasFileProblem files host problem

-- where the profile or the optimised module is refused, what the module's file reads as keeps the rules of modules
abbrev pub KeepsRules : OptFiles → HostState → Problem → Type 0
KeepsRules files host Grown = (program : Program) × ReadsAs host files.input program × IsWellFormed program
KeepsRules files host problem = KeepsRead files.input host problem

-- ---- what is written

-- the certificate names the placements that are chosen and shows that they are good, so the checker says yes to it beside the
-- text of the optimised module; its own text holds it
pub record IsShownBy (program : Program) (counts : List FnCounts) (certificate : Certificate) (program' : Program) : Type 0 where
  pub optimised : IsOptimisedBy program counts certificate program'
  pub yes : IsYes program counts (text_of program') certificate
  pub best : AreAllBest program counts certificate
  pub holds : Holds (json certificate) certificate

-- program' is the optimised module: it isn't too large, its text reads back, it and what is read do what the module does, and
-- the certificate shows it
pub record IsOutput (files : OptFiles) (host : HostState) (program' : Program) : Type 0 where
  pub optimises : OptimisesTo files host program'
  pub certificate : Certificate
  pub shown : IsShownBy optimises.program optimises.accepted.counts certificate program'
  pub rules : IsWellFormed optimises.program
  pub same : Same optimises.program program'
  pub fit : IsFit program'
  pub again : Same optimises.program fit.back.again

-- OUT holds exactly the text of the optimised module, and CERT its certificate
pub record IsOptDone (files : OptFiles) (old new : HostState) : Type 0 where
  pub program' : Program
  pub is_output : IsOutput files old program'
  pub output : new.file files.output ≡ Some (text_of program')
  pub certificate : new.file files.certificate ≡ Some (json is_output.certificate)

-- OUT is as before or holds a first part of its text, and CERT is as before; or OUT holds all of it, and CERT is as before or
-- holds a first part of its text
abbrev pub LeavesParts : OptFiles → (text certificate_text : List ℕ) → HostState → HostState → Type 0
LeavesParts files text certificate_text old new =
    (IsBeforeOrPart files.output text old new × (new.file files.certificate ≡ old.file files.certificate))
    ⊎ ((new.file files.output ≡ Some text) × IsBeforeOrPart files.certificate certificate_text old new)

-- no file changed, or the two hold parts of their texts
abbrev pub LeavesOptParts : OptFiles → HostState → HostState → Type 0
LeavesOptParts files old new =
    (new.file ≡ old.file)
    ⊎ ((program' : Program) × (output : IsOutput files old program') × LeavesParts files (text_of program') (json output.certificate) old new)

-- ---- endings

-- OUT could not be written; CERT is as before
abbrev pub IsOutputFault : OptFiles → HostState → HostState → (name : List ℕ) → Type 0
IsOutputFault files old new name =
    (name ≡ files.output) × (new.file files.certificate ≡ old.file files.certificate)
    × (IsTrue old.tells → (program' : Program) × IsOutput files old program' × IsBeforeOrPart files.output (text_of program') old new)

-- OUT was written whole, and CERT could not be written
abbrev pub IsCertificateFault : OptFiles → HostState → HostState → (name : List ℕ) → Type 0
IsCertificateFault files old new name =
    (name ≡ files.certificate)
    × (IsTrue old.tells → (program' : Program) × (output : IsOutput files old program') × (new.file files.output ≡ Some (text_of program'))
    × IsBeforeOrPart files.certificate (json output.certificate) old new)

abbrev pub IsUnread : OptFiles → HostState → (name : List ℕ) → Type 0
IsUnread files old name = IsUnreadOf files.input files.profile old name

-- the endings of `opt`, each with its cause and with what it leaves
abbrev pub OptEnds : OptFiles → HostState → HostState → Ending → Type 0
OptEnds files old new (Ok Written) = IsTrue old.tells → IsOptDone files old new
OptEnds files old new (Err (Refused file problem)) =
    (file.now ≡ refused_file files problem) × (new.file ≡ old.file)
    × (IsTrue old.tells → HasOptProblem files old problem × KeepsRules files old problem)
OptEnds files old new (Err (ReadFault name)) =
    (new.file ≡ old.file) × Rose old.read_faults new.read_faults × IsUnread files old name.now
OptEnds files old new (Err (WriteFault name)) =
    Rose old.write_faults new.write_faults × (IsOutputFault files old new name.now ⊎ IsCertificateFault files old new name.now)
OptEnds files old new (Err OutOfMemory) = IsTrue old.tells → LeavesOptParts files old new
OptEnds files old new _ = ⊥

-- no file changes but those that are written, and no count falls
pub record OnlyOptimises (files : OptFiles) (old new : HostState) : Type 0 where
  pub rights : KeepsRights old new
  pub others : (other : List ℕ) → other ≢ files.output → other ≢ files.certificate → new.file other ≡ old.file other
  pub read_faults : old.read_faults ≤ new.read_faults
  pub write_faults : old.write_faults ≤ new.write_faults
