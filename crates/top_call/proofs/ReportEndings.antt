-- What an ending of `report` or `self` says.
use Rattle.std.proofs.Common.{◌≡◌, ◌⊎◌, ℕ, List, [], Ok, Err, IsTrue, inl, inr, refl, sym, subst, arith}
use Rattle.std.specs.Prelude.{IfErr, IfOk}
use Rattle.std.proofs.lemmas.List.{append-nil}
use Rattle.mc_host.specs.Faults.{Rose}
use Rattle.mc_host.specs.Host.{HostState}
use Rattle.mc_host.specs.Streams.{SinkState}
use Rattle.ir_types.specs.Program.{Program}
use Rattle.ir_types.specs.WellFormed.{IsWellFormed}
use Rattle.ir_reader.specs.Reading.{HasOneAnswer}
use Rattle.workload.specs.Workload.{workload_program, workload_counts}
use Rattle.profile.specs.Reading as profile
use Rattle.call_lines.specs.declared.ending.Problem.{Problem}
use Rattle.call_lines.specs.declared.ending.Problem.TheVariants.{TooLong, Text, Grown, NoMain, LongProfile, BadProfile, LongOutput, BadCertificate}
use Rattle.call_lines.specs.declared.ending.Done.TheVariants.{Written, Checked, Returned}
use Rattle.call_lines.specs.declared.ending.Stop.{Stop}
use Rattle.call_lines.specs.declared.ending.Stop.TheVariants.{Usage, Refused, ReadFault, WriteFault, OutOfMemory, No, Trapped, StepLimit}
use Rattle.call_lines.specs.Ending.{Ending, status_of}
use Rattle.top_call.specs.Row.{OptFiles}
use Rattle.top_call.specs.Accepted.{AreReadAs, AreUnaccepted, HasReadProblem, KeepsRead}
use Rattle.top_call.specs.Opt.{IsGrown, KeepsRules}
use Rattle.top_call.specs.Report.{HasGrownItself, HasPut, HasPutPart, IsReported, IsSummarised, ItselfEnds, ReportEnds}
use Rattle.top_call.specs.Stops.{StopsPutting, StopsSummarising}
use Rattle.top_call.proofs.OptEndings.{OneOptimised, keeps_rules, no_problem}

-- what was put whole was put in part
pub whole_part : (text : List ℕ) (old new : SinkState) → HasPut text old new → HasPutPart text old new
whole_part text old new put = λ tells. (text, [], put tells, sym (append-nil text))

-- ---- how `report` ends

module _ (input counted_by : List ℕ) (old new : HostState) (out out' : SinkState) where
  pub unaccepted_ends : (stop : Stop) → AreUnaccepted input counted_by old new stop → out' ≡ out → ReportEnds input counted_by old new out out' (Err stop)
  unaccepted_ends (Refused file problem) stops still = (stops, still)
  unaccepted_ends (ReadFault name) stops still = (stops, still)
  unaccepted_ends OutOfMemory stops still = (stops, still)
  unaccepted_ends Usage stops still = absurd stops
  unaccepted_ends (No reason) stops still = absurd stops
  unaccepted_ends (WriteFault name) stops still = absurd stops
  unaccepted_ends (Trapped trap) stops still = absurd stops
  unaccepted_ends (StepLimit steps) stops still = absurd stops

  unput_ends : (text : List ℕ) → new.file ≡ old.file → (IsTrue old.tells → IsReported input counted_by old text) → (stop : Stop) → StopsPutting text out out' stop
      → ReportEnds input counted_by old new out out' (Err stop)
  unput_ends text files made (WriteFault name) stops = (files, (stops.0.0, stops.0.1), λ tells. (text, made tells, stops.1))
  unput_ends text files made (Refused file problem) stops = absurd stops
  unput_ends text files made (ReadFault name) stops = absurd stops
  unput_ends text files made OutOfMemory stops = absurd stops
  unput_ends text files made Usage stops = absurd stops
  unput_ends text files made (No reason) stops = absurd stops
  unput_ends text files made (Trapped trap) stops = absurd stops
  unput_ends text files made (StepLimit steps) stops = absurd stops

  -- the report stood whole, and was put or not
  pub put_ends : (text : List ℕ) → new.file ≡ old.file → (IsTrue old.tells → IsReported input counted_by old text) → (ending : Ending)
      → IfOk ending (λ done. done ≡ Written) → IfOk ending (λ done. HasPut text out out') → IfErr ending (StopsPutting text out out')
      → ReportEnds input counted_by old new out out' ending
  put_ends text files made (Ok Written) written put stops = (files, λ tells. (text, made tells, put))
  put_ends text files made (Ok Checked) written put stops = absurd (cc)
  put_ends text files made (Ok (Returned value)) written put stops = absurd (cc)
  put_ends text files made (Err stop) written put stops = unput_ends text files made stop stops

-- ---- how `self` ends

module _ (n : ℕ) (out out' : SinkState) where
  pub unsummed_ends : (stop : Stop) → StopsSummarising n stop → out' ≡ out → ItselfEnds n out out' (Err stop)
  unsummed_ends (Refused file problem) stops still = (still, stops.0, stops.1, stops.2)
  unsummed_ends OutOfMemory stops still = still
  unsummed_ends (ReadFault name) stops still = absurd stops
  unsummed_ends Usage stops still = absurd stops
  unsummed_ends (No reason) stops still = absurd stops
  unsummed_ends (WriteFault name) stops still = absurd stops
  unsummed_ends (Trapped trap) stops still = absurd stops
  unsummed_ends (StepLimit steps) stops still = absurd stops

  unput_summary_ends : (text : List ℕ) → IsSummarised n text → (stop : Stop) → StopsPutting text out out' stop → ItselfEnds n out out' (Err stop)
  unput_summary_ends text made (WriteFault name) stops = ((stops.0.0, stops.0.1), (text, made, stops.1))
  unput_summary_ends text made (Refused file problem) stops = absurd stops
  unput_summary_ends text made (ReadFault name) stops = absurd stops
  unput_summary_ends text made OutOfMemory stops = absurd stops
  unput_summary_ends text made Usage stops = absurd stops
  unput_summary_ends text made (No reason) stops = absurd stops
  unput_summary_ends text made (Trapped trap) stops = absurd stops
  unput_summary_ends text made (StepLimit steps) stops = absurd stops

  -- the summary stood whole, and was put or not
  pub put_summary_ends : (text : List ℕ) → IsSummarised n text → (ending : Ending)
      → IfOk ending (λ done. done ≡ Written) → IfOk ending (λ done. HasPut text out out') → IfErr ending (StopsPutting text out out') → ItselfEnds n out out' ending
  put_summary_ends text made (Ok Written) written put stops = (text, made, put)
  put_summary_ends text made (Ok Checked) written put stops = absurd (cc)
  put_summary_ends text made (Ok (Returned value)) written put stops = absurd (cc)
  put_summary_ends text made (Err stop) written put stops = unput_summary_ends text made stop stops

-- ---- what an ending says

module _ (one : (bytes : List ℕ) → HasOneAnswer bytes) (one_profile : (m : Program) → IsWellFormed m → (bytes : List ℕ) → profile.HasOneAnswer m bytes)
    (input counted_by : List ℕ) (old : HostState) where
  abbrev files : OptFiles
  files = record { input = input; profile = counted_by; output = []; certificate = [] }

  -- what is reported was read without a problem
  reported_without_problem : (text : List ℕ) → IsReported input counted_by old text → (problem : Problem) → ¬ (HasReadProblem input counted_by old problem)
  reported_without_problem text made problem has =
      no_problem one one_profile files old made.program made.accepted problem
      (keeps_rules one one_profile files old made.program made.accepted.reads made.rules problem) has

  kept : (problem : Problem) → HasReadProblem input counted_by old problem → KeepsRead input old problem → KeepsRules files old problem
  kept TooLong has keeps = tt
  kept (Text refusal excerpt) has keeps = tt
  kept LongProfile has keeps = tt
  kept (BadProfile problem) has keeps = keeps
  kept Grown has keeps = absurd has
  kept NoMain has keeps = absurd has
  kept LongOutput has keeps = absurd has
  kept (BadCertificate path) has keeps = absurd has

  accepted_without_problem : (program : Program) → AreReadAs input counted_by old program → (problem : Problem) → HasReadProblem input counted_by old problem
      → KeepsRead input old problem → ⊥
  accepted_without_problem program accepted problem has keeps = no_problem one one_profile files old program accepted problem (kept problem has keeps) has

  module _ (new : HostState) (out out' : SinkState) where
    pub report_not_done : (ending : Ending) → ReportEnds input counted_by old new out out' ending → IsTrue old.tells
        → (problem : Problem) × HasReadProblem input counted_by old problem → (status_of ending ≡ 1) ⊎ (status_of ending ≡ 3) ⊎ (status_of ending ≡ 5)
    report_not_done (Ok Written) ends tells has = absurd (let made = ends.1 tells in reported_without_problem made.0 made.1 has.0 has.1)
    report_not_done (Ok (Returned value)) ends tells has = absurd ends
    report_not_done (Ok Checked) ends tells has = absurd ends
    report_not_done (Err (Refused file told)) ends tells has = inl refl
    report_not_done (Err (ReadFault name)) ends tells has = inr (inl refl)
    report_not_done (Err (WriteFault name)) ends tells has = absurd (let made = ends.2 tells in reported_without_problem made.0 made.1 has.0 has.1)
    report_not_done (Err OutOfMemory) ends tells has = inr (inr refl)
    report_not_done (Err Usage) ends tells has = absurd ends
    report_not_done (Err (No reason)) ends tells has = absurd ends
    report_not_done (Err (Trapped trap)) ends tells has = absurd ends
    report_not_done (Err (StepLimit steps)) ends tells has = absurd ends

    pub report_complete : (ending : Ending) → ReportEnds input counted_by old new out out' ending → IsTrue old.tells
        → (program : Program) → AreReadAs input counted_by old program → ¬ (Rose old.read_faults new.read_faults) → ¬ (Rose out.faults out'.faults)
        → (status_of ending ≡ 0) ⊎ (status_of ending ≡ 5)
    report_complete (Ok done) ends tells program accepted reads writes = inl refl
    report_complete (Err (Refused file told)) ends tells program accepted reads writes =
        absurd (let has = ends.0.3 tells in accepted_without_problem program accepted told has.0 has.1)
    report_complete (Err (ReadFault name)) ends tells program accepted reads writes = absurd (reads ends.0.1)
    report_complete (Err (WriteFault name)) ends tells program accepted reads writes = absurd (writes ends.1.1)
    report_complete (Err OutOfMemory) ends tells program accepted reads writes = inr refl
    report_complete (Err Usage) ends tells program accepted reads writes = absurd ends
    report_complete (Err (No reason)) ends tells program accepted reads writes = absurd ends
    report_complete (Err (Trapped trap)) ends tells program accepted reads writes = absurd ends
    report_complete (Err (StepLimit steps)) ends tells program accepted reads writes = absurd ends

    -- what was put is a first part of the report
    pub report_moved : (ending : Ending) → ReportEnds input counted_by old new out out' ending → IsTrue old.tells
        → (out' ≡ out) ⊎ ((text : List ℕ) × IsReported input counted_by old text × HasPutPart text out out')
    report_moved (Ok Written) ends tells = let made = ends.1 tells in inr (made.0, made.1, whole_part made.0 out out' made.2)
    report_moved (Ok (Returned value)) ends tells = absurd ends
    report_moved (Ok Checked) ends tells = absurd ends
    report_moved (Err (Refused file told)) ends tells = inl ends.1
    report_moved (Err (ReadFault name)) ends tells = inl ends.1
    report_moved (Err (WriteFault name)) ends tells = inr (ends.2 tells)
    report_moved (Err OutOfMemory) ends tells = inl ends.1
    report_moved (Err Usage) ends tells = absurd ends
    report_moved (Err (No reason)) ends tells = absurd ends
    report_moved (Err (Trapped trap)) ends tells = absurd ends
    report_moved (Err (StepLimit steps)) ends tells = absurd ends

neither_of : (n : ℕ) → (n ≡ 0) ⊎ (n ≡ 4) → (n ≡ 1) ⊎ (n ≡ 3) ⊎ (n ≡ 5) → ⊥
neither_of n is not = absurd (grind (arith, is, not))

-- nothing was put before the report stood whole
pub report_silent : (input counted_by : List ℕ) (old new : HostState) (out out' : SinkState) (ending : Ending) → ReportEnds input counted_by old new out out' ending
    → (status_of ending ≡ 1) ⊎ (status_of ending ≡ 3) ⊎ (status_of ending ≡ 5) → out' ≡ out
report_silent input counted_by old new out out' (Ok done) ends status = absurd (neither_of 0 (inl refl) status)
report_silent input counted_by old new out out' (Err (WriteFault name)) ends status = absurd (neither_of 4 (inr refl) status)
report_silent input counted_by old new out out' (Err (Refused file told)) ends status = ends.1
report_silent input counted_by old new out out' (Err (ReadFault name)) ends status = ends.1
report_silent input counted_by old new out out' (Err OutOfMemory) ends status = ends.1
report_silent input counted_by old new out out' (Err Usage) ends status = absurd ends
report_silent input counted_by old new out out' (Err (No reason)) ends status = absurd ends
report_silent input counted_by old new out out' (Err (Trapped trap)) ends status = absurd ends
report_silent input counted_by old new out out' (Err (StepLimit steps)) ends status = absurd ends

-- ---- what an ending of `self` says

-- what is summed up isn't too large
summed_not_grown : OneOptimised → (n : ℕ) (text : List ℕ) → IsSummarised n text → ¬ (HasGrownItself n)
summed_not_grown once n text made (inl large) =
    let is = once.one (workload_program n) (workload_counts n) large.0 made.fit.program' large.1 made.fit.optimised in
    made.fit.not_grown (subst IsGrown is large.2)
summed_not_grown once n text made (inr many) = once.not_both (workload_program n) (workload_counts n) made.fit.program' made.fit.optimised many

module _ (n : ℕ) (out out' : SinkState) where
  pub itself_complete : (ending : Ending) → ItselfEnds n out out' ending → ¬ (HasGrownItself n) → ¬ (Rose out.faults out'.faults) → (status_of ending ≡ 0) ⊎ (status_of ending ≡ 5)
  itself_complete (Ok done) ends fits writes = inl refl
  itself_complete (Err (Refused file told)) ends fits writes = absurd (fits ends.3)
  itself_complete (Err (WriteFault name)) ends fits writes = absurd (writes ends.0.1)
  itself_complete (Err OutOfMemory) ends fits writes = inr refl
  itself_complete (Err (ReadFault name)) ends fits writes = absurd ends
  itself_complete (Err Usage) ends fits writes = absurd ends
  itself_complete (Err (No reason)) ends fits writes = absurd ends
  itself_complete (Err (Trapped trap)) ends fits writes = absurd ends
  itself_complete (Err (StepLimit steps)) ends fits writes = absurd ends

  pub itself_not_done : OneOptimised → (ending : Ending) → ItselfEnds n out out' ending → HasGrownItself n
      → (status_of ending ≡ 1) ⊎ (status_of ending ≡ 3) ⊎ (status_of ending ≡ 5)
  itself_not_done once (Ok Written) ends grown = absurd (summed_not_grown once n ends.0 ends.1 grown)
  itself_not_done once (Ok (Returned value)) ends grown = absurd ends
  itself_not_done once (Ok Checked) ends grown = absurd ends
  itself_not_done once (Err (Refused file told)) ends grown = inl refl
  itself_not_done once (Err (WriteFault name)) ends grown = absurd (summed_not_grown once n ends.1.0 ends.1.1 grown)
  itself_not_done once (Err OutOfMemory) ends grown = inr (inr refl)
  itself_not_done once (Err (ReadFault name)) ends grown = absurd ends
  itself_not_done once (Err Usage) ends grown = absurd ends
  itself_not_done once (Err (No reason)) ends grown = absurd ends
  itself_not_done once (Err (Trapped trap)) ends grown = absurd ends
  itself_not_done once (Err (StepLimit steps)) ends grown = absurd ends

  pub itself_moved : (ending : Ending) → ItselfEnds n out out' ending → (out' ≡ out) ⊎ ((text : List ℕ) × IsSummarised n text × HasPutPart text out out')
  itself_moved (Ok Written) ends = inr (ends.0, ends.1, whole_part ends.0 out out' ends.2)
  itself_moved (Ok (Returned value)) ends = absurd ends
  itself_moved (Ok Checked) ends = absurd ends
  itself_moved (Err (Refused file told)) ends = inl ends.0
  itself_moved (Err (WriteFault name)) ends = inr ends.1
  itself_moved (Err OutOfMemory) ends = inl ends
  itself_moved (Err (ReadFault name)) ends = absurd ends
  itself_moved (Err Usage) ends = absurd ends
  itself_moved (Err (No reason)) ends = absurd ends
  itself_moved (Err (Trapped trap)) ends = absurd ends
  itself_moved (Err (StepLimit steps)) ends = absurd ends

  pub itself_silent : (ending : Ending) → ItselfEnds n out out' ending → (status_of ending ≡ 1) ⊎ (status_of ending ≡ 3) ⊎ (status_of ending ≡ 5) → out' ≡ out
  itself_silent (Ok done) ends status = absurd (neither_of 0 (inl refl) status)
  itself_silent (Err (WriteFault name)) ends status = absurd (neither_of 4 (inr refl) status)
  itself_silent (Err (Refused file told)) ends status = ends.0
  itself_silent (Err OutOfMemory) ends status = ends
  itself_silent (Err (ReadFault name)) ends status = absurd ends
  itself_silent (Err Usage) ends status = absurd ends
  itself_silent (Err (No reason)) ends status = absurd ends
  itself_silent (Err (Trapped trap)) ends status = absurd ends
  itself_silent (Err (StepLimit steps)) ends status = absurd ends
