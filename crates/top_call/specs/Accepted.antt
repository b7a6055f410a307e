-- What is read of a module and its profile.
use Rattle.std.specs.Prelude.{◌≡◌, ◌⊎◌, ◌≤◌, ℕ, List, length, IsTrue, Some}
use Rattle.mc_host.specs.Faults.{Rose}
use Rattle.mc_host.specs.Host.{HostState}
use Rattle.ir_types.specs.Program.{Program}
use Rattle.ir_types.specs.WellFormed.{IsWellFormed}
use Rattle.profile.specs.declared.counts.FnCounts.{FnCounts}
use Rattle.profile.specs.declared.reading.ProfileError.{ProfileError}
use Rattle.profile.specs.Reading as profile
use Rattle.call_lines.specs.declared.ending.Problem.{Problem}
use Rattle.call_lines.specs.declared.ending.Problem.TheVariants.{TooLong, Text, LongProfile, BadProfile}
use Rattle.call_lines.specs.declared.ending.ProfileProblem.{ProfileProblem}
use Rattle.call_lines.specs.declared.ending.Stop.{Stop}
use Rattle.call_lines.specs.declared.ending.Stop.TheVariants.{Refused, ReadFault, OutOfMemory}
use Rattle.call_lines.specs.RefusedProfile.{problem_of}
use Rattle.top_call.specs.Print.{HasProblem, ReadsAs, text_limit}

-- the file is the profile of these counts of the module
pub record HasCounts (host : HostState) (name : List ℕ) (program : Program) (counts : List FnCounts) : Type 0 where
  pub content : List ℕ
  pub holds : host.file name ≡ Some content
  pub short : length content ≤ text_limit
  pub reads : profile.Reads program content counts

-- the bytes are refused as a profile of the module, with this problem
pub record IsBadProfile (program : Program) (content : List ℕ) (problem : ProfileProblem) : Type 0 where
  pub error : ProfileError
  pub refuses : profile.Refuses program content error
  pub is_problem : problem_of error ≡ Some problem

pub record HasBadProfile (host : HostState) (name : List ℕ) (program : Program) (problem : ProfileProblem) : Type 0 where
  pub content : List ℕ
  pub holds : host.file name ≡ Some content
  pub short : length content ≤ text_limit
  pub bad : IsBadProfile program content problem

-- the module and the profile are accepted
pub record AreReadAs (input profile_name : List ℕ) (host : HostState) (program : Program) : Type 0 where
  pub reads : ReadsAs host input program
  pub counts : List FnCounts
  pub profile : HasCounts host profile_name program counts

-- a file can't be read: the module is too long or its text is refused, or else the profile is
abbrev pub HasReadProblem : (input profile_name : List ℕ) → HostState → Problem → Type 0
HasReadProblem input profile_name host TooLong = HasProblem host input TooLong
HasReadProblem input profile_name host (Text refusal excerpt) = HasProblem host input (Text refusal excerpt)
HasReadProblem input profile_name host LongProfile = (program : Program) × ReadsAs host input program × HasProblem host profile_name TooLong
HasReadProblem input profile_name host (BadProfile problem) = (program : Program) × ReadsAs host input program × HasBadProfile host profile_name program problem
HasReadProblem input profile_name host _ = ⊥

-- the file that has the problem
abbrev pub unread_file : (input profile_name : List ℕ) → Problem → List ℕ
unread_file input profile_name LongProfile = profile_name
unread_file input profile_name (BadProfile problem) = profile_name
unread_file input profile_name _ = input

-- where the profile is refused, what the module's file reads as keeps the rules of modules
abbrev pub KeepsRead : (input : List ℕ) → HostState → Problem → Type 0
KeepsRead input host (BadProfile problem) = (program : Program) × ReadsAs host input program × IsWellFormed program
KeepsRead input host _ = Unit {0}

-- the file that could not be read: the module's, or else the profile's
abbrev pub IsUnreadOf : (input profile_name : List ℕ) → HostState → (name : List ℕ) → Type 0
IsUnreadOf input profile_name old name =
    (name ≡ input) ⊎ ((name ≡ profile_name) × (IsTrue old.tells → (program : Program) × ReadsAs old input program))

-- the problem is one of a module or of its profile
abbrev pub IsOfReading : Problem → Type 0
IsOfReading TooLong = Unit {0}
IsOfReading (Text refusal excerpt) = Unit {0}
IsOfReading LongProfile = Unit {0}
IsOfReading (BadProfile problem) = Unit {0}
IsOfReading _ = ⊥

-- why the module and the profile were not accepted; no file changed
abbrev pub AreUnaccepted : (input profile : List ℕ) → HostState → HostState → Stop → Type 0
AreUnaccepted input profile old new (Refused file problem) =
    IsOfReading problem × (file.now ≡ unread_file input profile problem) × (new.file ≡ old.file)
    × (IsTrue old.tells → HasReadProblem input profile old problem × KeepsRead input old problem)
AreUnaccepted input profile old new (ReadFault name) =
    (new.file ≡ old.file) × Rose old.read_faults new.read_faults × IsUnreadOf input profile old name.now
AreUnaccepted input profile old new OutOfMemory = new.file ≡ old.file
AreUnaccepted input profile old new _ = ⊥
