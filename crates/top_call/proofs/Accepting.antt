-- Why a module and its profile were not accepted, by what stopped it.
use Rattle.std.proofs.Common.{◌≡◌, ◌≤◌, ℕ, List, length, Option, Some, IsTrue, inl, inr, sym, ap, subst, ◌∙◌}
use Rattle.mc_host.specs.Host.{HostState, OnlyReads}
use Rattle.mc_host.proofs.PutsLemmas.{rose_after}
use Rattle.ir_types.specs.Program.{Program}
use Rattle.ir_types.specs.WellFormed.{IsWellFormed}
use Rattle.ir_reader.specs.Reading.{Reads}
use Rattle.profile.specs.Reading as profile
use Rattle.profile.specs.declared.counts.FnCounts.{FnCounts}
use Rattle.call_lines.specs.declared.ending.Problem.{Problem}
use Rattle.call_lines.specs.declared.ending.Problem.TheVariants.{TooLong, Text, Grown, NoMain, LongProfile, BadProfile, LongOutput, BadCertificate}
use Rattle.call_lines.specs.declared.ending.Stop.{Stop}
use Rattle.call_lines.specs.declared.ending.Stop.TheVariants.{Usage, Refused, ReadFault, WriteFault, OutOfMemory, No, Trapped, StepLimit}
use Rattle.top_call.specs.Print.{ReadsAs, HasProblem, text_limit}
use Rattle.top_call.specs.Accepted.{AreUnaccepted, HasCounts, HasReadProblem, IsOfReading, KeepsRead, unread_file}
use Rattle.top_call.specs.Stops.{StopsReading, StopsParsing, StopsCounting}
use Rattle.top_call.proofs.ReadLemmas.{reads_twice, still_tells}

-- what a host that only read since holds was held before
held_before : (name : List ℕ) (before mid : HostState) → OnlyReads before mid → (content : List ℕ) → (IsTrue mid.tells → mid.file name ≡ Some content) → IsTrue before.tells
    → before.file name ≡ Some content
held_before name before mid read content there tells =
    sym (ap (λ (file : List ℕ → Option (List ℕ)). file name) read.files) ∙ there (still_tells before mid read tells)

-- the file of the profile has the counts that its bytes say
pub profile_read : (counted_by : List ℕ) (before mid : HostState) → OnlyReads before mid → (program : Program) (content : List ℕ)
    → (IsTrue mid.tells → mid.file counted_by ≡ Some content) → length content ≤ text_limit → (counts : List FnCounts) → profile.Reads program content counts
    → IsTrue before.tells → HasCounts before counted_by program counts
profile_read counted_by before mid read program content there few counts says tells =
    record { content = content; holds = held_before counted_by before mid read content there tells; short = few; reads = says }

module _ (input counted_by : List ℕ) where
  abbrev IsRefusedSo : (file : List ℕ) → HostState → HostState → Problem → Type 0
  IsRefusedSo file old new p =
      IsOfReading p × (file ≡ unread_file input counted_by p) × (new.file ≡ old.file)
      × (IsTrue old.tells → HasReadProblem input counted_by old p × KeepsRead input old p)

  -- the module's file was not read
  pub module_unread : (old new : HostState) (stop : Stop) → StopsReading input TooLong old new stop → OnlyReads old new → AreUnaccepted input counted_by old new stop
  module_unread old new (Refused file problem) stops reads =
      let long : IsRefusedSo file.now old new TooLong = (tt, stops.0, reads.files, λ tells. (stops.2 tells, tt)) in
      subst (IsRefusedSo file.now old new) (sym stops.1) long
  module_unread old new (ReadFault name) stops reads = (reads.files, stops.1, inl stops.0)
  module_unread old new OutOfMemory stops reads = reads.files
  module_unread old new Usage stops reads = absurd stops
  module_unread old new (No reason) stops reads = absurd stops
  module_unread old new (WriteFault name) stops reads = absurd stops
  module_unread old new (Trapped trap) stops reads = absurd stops
  module_unread old new (StepLimit steps) stops reads = absurd stops

  module _ (before mid : HostState) (bytes : List ℕ) (read : OnlyReads before mid) (holds : IsTrue before.tells → before.file input ≡ Some bytes)
      (short : length bytes ≤ text_limit) where
    -- its text was not read as a program
    pub module_unparsed : (stop : Stop) → StopsParsing input bytes stop → AreUnaccepted input counted_by before mid stop
    module_unparsed (Refused file TooLong) stops = absurd stops.1
    module_unparsed (Refused file (Text refusal excerpt)) stops =
        (tt, stops.0, read.files, λ tells. ((bytes, holds tells, short, stops.1.0, stops.1.1), tt))
    module_unparsed (Refused file Grown) stops = absurd stops.1
    module_unparsed (Refused file NoMain) stops = absurd stops.1
    module_unparsed (Refused file LongOutput) stops = absurd stops.1
    module_unparsed (Refused file (BadCertificate path)) stops = absurd stops.1
    module_unparsed (Refused file LongProfile) stops = absurd stops.1
    module_unparsed (Refused file (BadProfile problem)) stops = absurd stops.1
    module_unparsed OutOfMemory stops = read.files
    module_unparsed Usage stops = absurd stops
    module_unparsed (No reason) stops = absurd stops
    module_unparsed (ReadFault name) stops = absurd stops
    module_unparsed (WriteFault name) stops = absurd stops
    module_unparsed (Trapped trap) stops = absurd stops
    module_unparsed (StepLimit steps) stops = absurd stops

    module _ (program : Program) (reads : Reads bytes program) (late : HostState) (again : OnlyReads mid late) where
      pub module_read : IsTrue before.tells → ReadsAs before input program
      module_read tells = record { content = bytes; holds = holds tells; short = short; reads = reads }

      both : OnlyReads before late
      both = reads_twice before mid late read again

      -- the file of the profile was not read
      pub profile_unread : (stop : Stop) → StopsReading counted_by LongProfile mid late stop → AreUnaccepted input counted_by before late stop
      profile_unread (Refused file problem) stops =
          let content : (tells : IsTrue before.tells) → HasProblem before counted_by TooLong =
          λ tells. let long = stops.2 (still_tells before mid read tells) in
          (long.0, sym (ap (λ (file : List ℕ → Option (List ℕ)). file counted_by) read.files) ∙ long.1, long.2) in
          let long : IsRefusedSo file.now before late LongProfile = (tt, stops.0, both.files, λ tells. ((program, module_read tells, content tells), tt)) in
          subst (IsRefusedSo file.now before late) (sym stops.1) long
      profile_unread (ReadFault name) stops =
          (both.files, rose_after before.read_faults mid.read_faults late.read_faults read.read_faults stops.1 again.read_faults, inr (stops.0, λ tells. (program, module_read tells)))
      profile_unread OutOfMemory stops = both.files
      profile_unread Usage stops = absurd stops
      profile_unread (No reason) stops = absurd stops
      profile_unread (WriteFault name) stops = absurd stops
      profile_unread (Trapped trap) stops = absurd stops
      profile_unread (StepLimit steps) stops = absurd stops

      module _ (content : List ℕ) (there : IsTrue mid.tells → mid.file counted_by ≡ Some content) (few : length content ≤ text_limit) where
        there_before : IsTrue before.tells → before.file counted_by ≡ Some content
        there_before tells = held_before counted_by before mid read content there tells

        -- its bytes gave no counts
        pub profile_unsaid : IsWellFormed program → (stop : Stop) → StopsCounting counted_by content program stop → AreUnaccepted input counted_by before late stop
        profile_unsaid rules (Refused file (BadProfile problem)) stops = (
          tt,
          stops.0,
          both.files,
          λ tells. (
            (program, module_read tells, record { content = content; holds = there_before tells; short = few; bad = stops.1 }),
            (program, module_read tells, rules),
          ),
        )
        profile_unsaid rules (Refused file TooLong) stops = absurd stops
        profile_unsaid rules (Refused file (Text refusal excerpt)) stops = absurd stops
        profile_unsaid rules (Refused file Grown) stops = absurd stops
        profile_unsaid rules (Refused file NoMain) stops = absurd stops
        profile_unsaid rules (Refused file LongOutput) stops = absurd stops
        profile_unsaid rules (Refused file (BadCertificate path)) stops = absurd stops
        profile_unsaid rules (Refused file LongProfile) stops = absurd stops
        profile_unsaid rules OutOfMemory stops = both.files
        profile_unsaid rules Usage stops = absurd stops
        profile_unsaid rules (No reason) stops = absurd stops
        profile_unsaid rules (ReadFault name) stops = absurd stops
        profile_unsaid rules (WriteFault name) stops = absurd stops
        profile_unsaid rules (Trapped trap) stops = absurd stops
        profile_unsaid rules (StepLimit steps) stops = absurd stops
