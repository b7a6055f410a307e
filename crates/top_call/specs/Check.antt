-- What `check` looks at, and how it may end.
use Rattle.std.specs.Prelude.{◌≡◌, ◌⊎◌, ◌≤◌, ℕ, List, length, IsTrue, Some, Ok, Err}
use Rattle.mc_host.specs.Faults.{Rose}
use Rattle.mc_host.specs.Host.{HostState}
use Rattle.ir_types.specs.Program.{Program}
use Rattle.ir_types.specs.WellFormed.{IsWellFormed}
use Rattle.certificate.specs.declared.path.CertPath.{CertPath}
use Rattle.certificate.specs.declared.types.Certificate.{Certificate}
use Rattle.certificate.specs.Holds.{Holds}
use Rattle.certificate.specs.Parts.{first_wrong, text_parts}
use Rattle.certified.specs.Certified.{AreAllBest, IsYes}
use Rattle.checker.specs.declared.verdict.Reason.{Reason}
use Rattle.checker.specs.Reasons.{IsNo}
use Rattle.call_lines.specs.declared.ending.Problem.{Problem}
use Rattle.call_lines.specs.declared.ending.Problem.TheVariants.{TooLong, Text, LongProfile, LongOutput, BadCertificate}
use Rattle.call_lines.specs.declared.ending.Done.TheVariants.{Checked}
use Rattle.call_lines.specs.declared.ending.Stop.TheVariants.{Refused, ReadFault, OutOfMemory, No}
use Rattle.call_lines.specs.Ending.{Ending}
use Rattle.top_call.specs.Row.{OptFiles}
use Rattle.top_call.specs.Print.{HasProblem, ReadsAs, text_limit}
use Rattle.top_call.specs.Opt.{AreAccepted, HasFileProblem, IsOptDone, refused_file}

-- ---- what is read

-- OUT holds this text, which isn't too long
pub record HasText (host : HostState) (name text : List ℕ) : Type 0 where
  pub holds : host.file name ≡ Some text
  pub short : length text ≤ text_limit

-- the file holds this certificate
pub record HasCertificate (host : HostState) (name : List ℕ) (certificate : Certificate) : Type 0 where
  pub content : List ℕ
  pub there : host.file name ≡ Some content
  pub holds : Holds content certificate

-- the file holds none; this is the first wrong part
pub record HasBadCertificate (host : HostState) (name : List ℕ) (path : CertPath) : Type 0 where
  pub content : List ℕ
  pub there : host.file name ≡ Some content
  pub wrong : first_wrong (text_parts content) ≡ Some path

-- the module and the profile are accepted, and OUT and CERT hold this text and this certificate
pub record AreChecked (files : OptFiles) (host : HostState) : Type 0 where
  pub program : Program
  pub accepted : AreAccepted files host program
  pub text : List ℕ
  pub output : HasText host files.output text
  pub certificate : Certificate
  pub certified : HasCertificate host files.certificate certificate

-- a file can't be read: the module's or the profile's; or where both are accepted OUT is too long; or where it isn't, CERT holds no certificate
abbrev pub HasCheckProblem : OptFiles → HostState → Problem → Type 0
HasCheckProblem files host LongOutput = (program : Program) × AreAccepted files host program × HasProblem host files.output TooLong
HasCheckProblem files host (BadCertificate path) =
    (program : Program) × AreAccepted files host program × ((text : List ℕ) × HasText host files.output text) × HasBadCertificate host files.certificate path
HasCheckProblem files host problem = HasFileProblem files host problem

-- the file that has the problem
abbrev pub checked_file : OptFiles → Problem → List ℕ
checked_file files LongOutput = files.output
checked_file files (BadCertificate path) = files.certificate
checked_file files problem = refused_file files problem

-- where the profile is refused, or what is read after it, what the module's file reads as keeps the rules of modules
abbrev pub KeepsCheckRules : OptFiles → HostState → Problem → Type 0
KeepsCheckRules files host TooLong = Unit {0}
KeepsCheckRules files host (Text refusal excerpt) = Unit {0}
KeepsCheckRules files host LongProfile = Unit {0}
KeepsCheckRules files host _ = (program : Program) × ReadsAs host files.input program × IsWellFormed program

-- ---- the verdict

abbrev pub SaysYes : (files : OptFiles) (host : HostState) → AreChecked files host → Type 0
SaysYes files host c = IsYes c.program c.accepted.counts c.text c.certificate

-- all files are read, and the certificate shows that OUT is the module with the placements applied that it names, and that these are good; those of
-- expressions that can't trap are the best ones
pub record IsAgreed (files : OptFiles) (host : HostState) : Type 0 where
  pub checked : AreChecked files host
  pub yes : SaysYes files host checked

pub record IsCheckDone (files : OptFiles) (host : HostState) : Type 0 where
  pub agreed : IsAgreed files host
  pub rules : IsWellFormed agreed.checked.program
  pub best : AreAllBest agreed.checked.program agreed.checked.accepted.counts agreed.checked.certificate

-- all files are read, and the certificate doesn't show it
pub record IsDenied (files : OptFiles) (host : HostState) : Type 0 where
  pub checked : AreChecked files host
  pub not_yes : ¬ (SaysYes files host checked)

-- this is the first reason
pub record IsDeniedFor (files : OptFiles) (host : HostState) (reason : Reason) : Type 0 where
  pub denied : IsDenied files host
  pub rules : IsWellFormed denied.checked.program
  pub first : IsNo denied.checked.program denied.checked.accepted.counts denied.checked.text denied.checked.certificate reason

-- ---- endings

-- the file that could not be read: the module's, or else the profile's, OUT, or CERT
abbrev pub IsCheckUnread : OptFiles → HostState → (name : List ℕ) → Type 0
IsCheckUnread files old name =
    (name ≡ files.input)
    ⊎ ((name ≡ files.profile) × (IsTrue old.tells → (program : Program) × ReadsAs old files.input program))
    ⊎ ((name ≡ files.output) × (IsTrue old.tells → (program : Program) × AreAccepted files old program))
    ⊎ ((name ≡ files.certificate) × (IsTrue old.tells → ((program : Program) × AreAccepted files old program) × ((text : List ℕ) × HasText old files.output text)))

-- the endings of `check`, each with its cause; no file changes
abbrev pub CheckEnds : OptFiles → HostState → HostState → Ending → Type 0
CheckEnds files old new (Ok Checked) = (new.file ≡ old.file) × (IsTrue old.tells → IsCheckDone files old)
CheckEnds files old new (Err (No reason)) = (new.file ≡ old.file) × (IsTrue old.tells → IsDeniedFor files old reason)
CheckEnds files old new (Err (Refused file problem)) =
    (file.now ≡ checked_file files problem) × (new.file ≡ old.file)
    × (IsTrue old.tells → HasCheckProblem files old problem × KeepsCheckRules files old problem)
CheckEnds files old new (Err (ReadFault name)) =
    (new.file ≡ old.file) × Rose old.read_faults new.read_faults × IsCheckUnread files old name.now
CheckEnds files old new (Err OutOfMemory) = new.file ≡ old.file
CheckEnds files old new _ = ⊥

-- the checker says yes to what `opt` left: where a host holds in these files what `opt` read and what it wrote, they are agreed.
-- They may have other names than the files of `opt`, which may have overwritten what it read
abbrev pub AgreesWithOpt : Type 0
AgreesWithOpt = (files these : OptFiles) (old new host : HostState) → IsOptDone files old new
    → host.file these.input ≡ old.file files.input → host.file these.profile ≡ old.file files.profile
    → host.file these.output ≡ new.file files.output → host.file these.certificate ≡ new.file files.certificate
    → IsAgreed these host
