-- How `check` ends, by what stopped it.
use Rattle.std.proofs.Common.{◌≡◌, ◌≤◌, ℕ, List, length, Option, Some, Ok, Err, IsTrue, inl, inr, sym, ap, subst, ◌∙◌}
use Rattle.mc_host.specs.Faults.{Rose}
use Rattle.mc_host.specs.Host.{HostState, OnlyReads}
use Rattle.mc_host.proofs.PutsLemmas.{rose_after}
use Rattle.ir_types.specs.Program.{Program}
use Rattle.ir_types.specs.WellFormed.{IsWellFormed}
use Rattle.certificate.specs.declared.types.Certificate.{Certificate}
use Rattle.certificate.specs.Holds.{Holds}
use Rattle.certified.specs.Certified.{AreAllBest, IsYes}
use Rattle.profile.specs.declared.counts.FnCounts.{FnCounts}
use Rattle.call_lines.specs.declared.ending.Problem.{Problem}
use Rattle.call_lines.specs.declared.ending.Problem.TheVariants.{TooLong, Text, Grown, NoMain, LongProfile, BadProfile, LongOutput, BadCertificate}
use Rattle.call_lines.specs.declared.ending.Done.TheVariants.{Checked}
use Rattle.call_lines.specs.declared.ending.Stop.{Stop}
use Rattle.call_lines.specs.declared.ending.Stop.TheVariants.{Usage, Refused, ReadFault, WriteFault, OutOfMemory, No, Trapped, StepLimit}
use Rattle.top_call.specs.Row.{OptFiles}
use Rattle.top_call.specs.Print.{ReadsAs, HasProblem, text_limit}
use Rattle.top_call.specs.Opt.{AreAccepted}
use Rattle.top_call.specs.Accepted.{AreUnaccepted, HasCounts, IsUnreadOf}
use Rattle.top_call.specs.Check.{AreChecked, CheckEnds, HasCheckProblem, HasText, IsCheckUnread, KeepsCheckRules, checked_file}
use Rattle.top_call.specs.Stops.{StopsReading, StopsReadingWhole, StopsCertifying, StopsChecking}
use Rattle.top_call.proofs.Accepting.{module_unread}
use Rattle.top_call.proofs.ReadLemmas.{reads_twice, still_tells}

-- what a refusal says
abbrev IsRefusedSo : OptFiles → HostState → HostState → List ℕ → Problem → Type 0
IsRefusedSo files old new file p = (file ≡ checked_file files p) × (new.file ≡ old.file) × (IsTrue old.tells → HasCheckProblem files old p × KeepsCheckRules files old p)

-- the file that could not be read
unread : (files : OptFiles) (old : HostState) (name : List ℕ) → IsUnreadOf files.input files.profile old name → IsCheckUnread files old name
unread files old name (inl is) = inl is
unread files old name (inr is) = inr (inl is)

-- why the files were not accepted is how `check` ends
pub unaccepted : (files : OptFiles) (old new : HostState) (stop : Stop) → AreUnaccepted files.input files.profile old new stop → CheckEnds files old new (Err stop)
unaccepted files old new (Refused file TooLong) stops = (stops.1, stops.2, stops.3)
unaccepted files old new (Refused file (Text refusal excerpt)) stops = (stops.1, stops.2, stops.3)
unaccepted files old new (Refused file LongProfile) stops = (stops.1, stops.2, stops.3)
unaccepted files old new (Refused file (BadProfile problem)) stops = (stops.1, stops.2, stops.3)
unaccepted files old new (Refused file Grown) stops = absurd stops.0
unaccepted files old new (Refused file NoMain) stops = absurd stops.0
unaccepted files old new (Refused file LongOutput) stops = absurd stops.0
unaccepted files old new (Refused file (BadCertificate path)) stops = absurd stops.0
unaccepted files old new (ReadFault name) stops = (stops.0, stops.1, unread files old name.now stops.2)
unaccepted files old new OutOfMemory stops = stops
unaccepted files old new Usage stops = absurd stops
unaccepted files old new (No reason) stops = absurd stops
unaccepted files old new (WriteFault name) stops = absurd stops
unaccepted files old new (Trapped trap) stops = absurd stops
unaccepted files old new (StepLimit steps) stops = absurd stops

-- the module's file was not read
pub read_stopped : (files : OptFiles) (old new : HostState) (stop : Stop) → StopsReading files.input TooLong old new stop → OnlyReads old new
    → CheckEnds files old new (Err stop)
read_stopped files old new stop stops only = unaccepted files old new stop (module_unread files.input files.profile old new stop stops only)

module _ (files : OptFiles) (before late : HostState) (both : OnlyReads before late) (program : Program) (rules : IsWellFormed program) (counts : List FnCounts)
    (reads : IsTrue before.tells → ReadsAs before files.input program) (says : IsTrue before.tells → HasCounts before files.profile program counts) where
  abbrev accepted : IsTrue before.tells → AreAccepted files before program
  accepted tells = record { reads = reads tells; counts = counts; profile = says tells }

  -- what a host that only read since holds was held before
  held : (now : HostState) → OnlyReads before now → (name content : List ℕ) → (IsTrue now.tells → now.file name ≡ Some content) → IsTrue before.tells → before.file name ≡ Some content
  held now since name content there tells =
      sym (ap (λ (file : List ℕ → Option (List ℕ)). file name) since.files) ∙ there (still_tells before now since tells)

  too_long : (IsTrue late.tells → HasProblem late files.output TooLong) → IsTrue before.tells → HasProblem before files.output TooLong
  too_long long tells =
      let there = long (still_tells before late both tells) in
      (there.0, sym (ap (λ (file : List ℕ → Option (List ℕ)). file files.output) both.files) ∙ there.1, there.2)

  risen : (new : HostState) → OnlyReads late new → Rose late.read_faults new.read_faults → Rose before.read_faults new.read_faults
  risen new last rose = rose_after before.read_faults late.read_faults new.read_faults both.read_faults rose last.read_faults

  module _ (later : HostState) (then : OnlyReads late later) where
    abbrev all_so_far : OnlyReads before later
    all_so_far = reads_twice before late later both then

    -- OUT was not read
    pub output_stopped : (stop : Stop) → StopsReading files.output LongOutput late later stop → CheckEnds files before later (Err stop)
    output_stopped (Refused file problem) stops =
        let long : IsRefusedSo files before later file.now LongOutput =
        (stops.0, all_so_far.files, λ tells. ((program, accepted tells, too_long stops.2 tells), (program, reads tells, rules))) in
        subst (IsRefusedSo files before later file.now) (sym stops.1) long
    output_stopped (ReadFault name) stops = (all_so_far.files, risen later then stops.1, inr (inr (inl (stops.0, λ tells. (program, accepted tells)))))
    output_stopped OutOfMemory stops = all_so_far.files
    output_stopped Usage stops = absurd stops
    output_stopped (No reason) stops = absurd stops
    output_stopped (WriteFault name) stops = absurd stops
    output_stopped (Trapped trap) stops = absurd stops
    output_stopped (StepLimit steps) stops = absurd stops

    module _ (text : List ℕ) (text_there : IsTrue late.tells → late.file files.output ≡ Some text) (text_short : length text ≤ text_limit) (new : HostState) (last : OnlyReads later new) where
      abbrev output : IsTrue before.tells → HasText before files.output text
      output tells = record { holds = held late both files.output text text_there tells; short = text_short }

      abbrev all_read : OnlyReads before new
      all_read = reads_twice before later new all_so_far last

      -- CERT was not read
      pub certificate_stopped : (stop : Stop) → StopsReadingWhole files.certificate later new stop → CheckEnds files before new (Err stop)
      certificate_stopped (ReadFault name) stops =
          (all_read.files, rose_after before.read_faults later.read_faults new.read_faults all_so_far.read_faults stops.1 last.read_faults, inr (inr (inr (stops.0, λ tells. ((program, accepted tells), (text, output tells))))))
      certificate_stopped OutOfMemory stops = all_read.files
      certificate_stopped (Refused file problem) stops = absurd stops
      certificate_stopped Usage stops = absurd stops
      certificate_stopped (No reason) stops = absurd stops
      certificate_stopped (WriteFault name) stops = absurd stops
      certificate_stopped (Trapped trap) stops = absurd stops
      certificate_stopped (StepLimit steps) stops = absurd stops

      module _ (json : List ℕ) (json_there : IsTrue later.tells → later.file files.certificate ≡ Some json) where
        -- its bytes hold no certificate
        pub certify_stopped : (stop : Stop) → StopsCertifying files.certificate json stop → CheckEnds files before new (Err stop)
        certify_stopped (Refused file (BadCertificate path)) stops = (
          stops.0,
          all_read.files,
          λ tells. (
            (program, accepted tells, (text, output tells), record { content = json; there = held later all_so_far files.certificate json json_there tells; wrong = stops.1 }),
            (program, reads tells, rules),
          ),
        )
        certify_stopped (Refused file TooLong) stops = absurd stops
        certify_stopped (Refused file (Text refusal excerpt)) stops = absurd stops
        certify_stopped (Refused file Grown) stops = absurd stops
        certify_stopped (Refused file NoMain) stops = absurd stops
        certify_stopped (Refused file LongProfile) stops = absurd stops
        certify_stopped (Refused file LongOutput) stops = absurd stops
        certify_stopped (Refused file (BadProfile problem)) stops = absurd stops
        certify_stopped OutOfMemory stops = all_read.files
        certify_stopped Usage stops = absurd stops
        certify_stopped (No reason) stops = absurd stops
        certify_stopped (ReadFault name) stops = absurd stops
        certify_stopped (WriteFault name) stops = absurd stops
        certify_stopped (Trapped trap) stops = absurd stops
        certify_stopped (StepLimit steps) stops = absurd stops

        module _ (certificate : Certificate) (is : Holds json certificate) where
          abbrev checked : IsTrue before.tells → AreChecked files before
          checked tells = record {
            program = program;
            accepted = accepted tells;
            text = text;
            output = output tells;
            certificate = certificate;
            certified = record { content = json; there = held later all_so_far files.certificate json json_there tells; holds = is };
          }

          -- the checker says no
          pub check_stopped : (stop : Stop) → StopsChecking program counts text certificate stop → CheckEnds files before new (Err stop)
          check_stopped (No reason) stops = (all_read.files, λ tells. record { denied = record { checked = checked tells; not_yes = stops.0 }; rules = rules; first = stops.1 })
          check_stopped OutOfMemory stops = all_read.files
          check_stopped (Refused file problem) stops = absurd stops
          check_stopped Usage stops = absurd stops
          check_stopped (ReadFault name) stops = absurd stops
          check_stopped (WriteFault name) stops = absurd stops
          check_stopped (Trapped trap) stops = absurd stops
          check_stopped (StepLimit steps) stops = absurd stops

          -- it says yes
          pub done : IsYes program counts text certificate → AreAllBest program counts certificate → CheckEnds files before new (Ok Checked)
          done says best = (all_read.files, λ tells. record { agreed = record { checked = checked tells; yes = says }; rules = rules; best = best })
