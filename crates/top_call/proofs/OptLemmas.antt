-- How `opt` ends, by what stopped it.
use Rattle.std.proofs.Common.{◌≡◌, ◌≤◌, ◌⊎◌, ℕ, List, length, Option, Some, Ok, Err, IsTrue, inl, inr, refl, sym, ap, subst, ◌∙◌}
use Rattle.mc_host.specs.Faults.{Rose}
use Rattle.mc_host.specs.Host.{HostState, OnlyReads, IsBeforeOrPart}
use Rattle.std.specs.Prelude.{All}
use Rattle.ir_types.specs.Limits.{IsWithinLimits}
use Rattle.ir_types.specs.Program.{Program}
use Rattle.ir_types.specs.WellFormed.{IsWellFormed}
use Rattle.ir_types.specs.Same.{plain}
use Rattle.ir_machine.specs.Same.{Same}
use Rattle.ir_printer.specs.Text.{text_of}
use Rattle.ir_reader.specs.Reading.{ReadsBack}
use Rattle.certificate.specs.declared.types.Certificate.{Certificate}
use Rattle.certificate.specs.Holds.{Holds}
use Rattle.certificate.specs.Text.{json}
use Rattle.certified.specs.Certified.{AreAllBest, IsCertified}
use Rattle.optimise.specs.Optimised.{HasTooMany, IsOptimised, IsOptimisedBy}
use Rattle.profile.specs.Counts.{IsAccepted}
use Rattle.profile.specs.declared.counts.FnCounts.{FnCounts}
use Rattle.call_lines.specs.declared.ending.Problem.{Problem}
use Rattle.call_lines.specs.declared.ending.Problem.TheVariants.{TooLong, Text, Grown, NoMain, LongProfile, BadProfile, LongOutput, BadCertificate}
use Rattle.call_lines.specs.declared.ending.Done.TheVariants.{Written}
use Rattle.call_lines.specs.declared.ending.Stop.{Stop}
use Rattle.call_lines.specs.declared.ending.Stop.TheVariants.{Usage, Refused, ReadFault, WriteFault, OutOfMemory, No, Trapped, StepLimit}
use Rattle.top_call.specs.Row.{OptFiles}
use Rattle.top_call.specs.Print.{ReadsAs, text_limit}
use Rattle.top_call.specs.Accepted.{AreUnaccepted, HasCounts}
use Rattle.top_call.specs.Opt.{OptEnds, AreAccepted, HasGrown, HasOptProblem, IsGrown, KeepsRules, IsOutput, LeavesParts, IsOutputFault, IsCertificateFault, refused_file}
use Rattle.top_call.specs.Stops.{StopsReading, StopsOptimising, StopsWritingBoth, AreOptimisedTexts}
use Rattle.top_call.proofs.Accepting.{module_unread}
use Rattle.top_call.proofs.ReadLemmas.{still_tells}

-- the texts of an optimised module that isn't too large, and of its certificate
pub texts_made : (m : Program) (counts : List FnCounts) (certificate : Certificate) (m' : Program) (text certificate_text : List ℕ) → IsOptimisedBy m counts certificate m' → IsAccepted m counts
    → (IsCertified m counts certificate m' → AreAllBest m counts certificate) → Holds (json certificate) certificate → All IsWithinLimits m'.functions → ReadsBack m'
    → (Same m m' → Same m (plain m')) → text ≡ text_of m' → length text ≤ text_limit → certificate_text ≡ json certificate → AreOptimisedTexts m counts text certificate_text
texts_made m counts certificate m' text certificate_text is accepted best holds limits back plain_same is_text short is_json =
    let P : List ℕ → Type 0 = λ text. length text ≤ text_limit in
    let certified : IsCertified m counts certificate m' = record { placed = is.placed; each_good = is.each_good; transformed = is.transformed } in
    record {
      program' = m';
      optimised = record { placed = is.placed; are_chosen = is.are_chosen; transformed = is.transformed };
      certificate = certificate;
      shown = record { optimised = is; yes = record { program' = m'; certified = certified; text = refl }; best = best certified; holds = holds };
      is_text = is_text;
      is_json = is_json;
      fit = record { fits = subst P is_text short; limits = limits; back = back };
      again = subst (Same m) (sym back.same) (plain_same is.transformed.same);
    }

-- an optimised module that is too large
pub made_large : (m : Program) (counts : List FnCounts) (certificate : Certificate) (m' : Program) → IsOptimisedBy m counts certificate m' → IsGrown m' → (program' : Program) × IsOptimised m counts program' × IsGrown program'
made_large m counts certificate m' is grown = (m', record { placed = is.placed; are_chosen = is.are_chosen; transformed = is.transformed }, grown)

-- why the files were not accepted is how `opt` ends
pub unaccepted : (files : OptFiles) (old new : HostState) (stop : Stop) → AreUnaccepted files.input files.profile old new stop → OptEnds files old new (Err stop)
unaccepted files old new (Refused file TooLong) stops = (stops.1, stops.2, stops.3)
unaccepted files old new (Refused file (Text refusal excerpt)) stops = (stops.1, stops.2, stops.3)
unaccepted files old new (Refused file LongProfile) stops = (stops.1, stops.2, stops.3)
unaccepted files old new (Refused file (BadProfile problem)) stops = (stops.1, stops.2, stops.3)
unaccepted files old new (Refused file Grown) stops = absurd stops.0
unaccepted files old new (Refused file NoMain) stops = absurd stops.0
unaccepted files old new (Refused file LongOutput) stops = absurd stops.0
unaccepted files old new (Refused file (BadCertificate path)) stops = absurd stops.0
unaccepted files old new (ReadFault name) stops = stops
unaccepted files old new OutOfMemory stops = λ tells. inl stops
unaccepted files old new Usage stops = absurd stops
unaccepted files old new (No reason) stops = absurd stops
unaccepted files old new (WriteFault name) stops = absurd stops
unaccepted files old new (Trapped trap) stops = absurd stops
unaccepted files old new (StepLimit steps) stops = absurd stops

-- the module's file was not read
pub read_stopped : (files : OptFiles) (old new : HostState) (stop : Stop) → StopsReading files.input TooLong old new stop → OnlyReads old new
    → OptEnds files old new (Err stop)
read_stopped files old new stop stops only = unaccepted files old new stop (module_unread files.input files.profile old new stop stops only)

module _ (files : OptFiles) (before late : HostState) (both : OnlyReads before late) (program : Program) (rules : IsWellFormed program) (counts : List FnCounts)
    (reads : IsTrue before.tells → ReadsAs before files.input program) (says : IsTrue before.tells → HasCounts before files.profile program counts) where
  abbrev accepted : IsTrue before.tells → AreAccepted files before program
  accepted tells = record { reads = reads tells; counts = counts; profile = says tells }

  has_grown : IsTrue before.tells → ((program' : Program) × IsOptimised program counts program' × IsGrown program') ⊎ HasTooMany program counts → HasGrown files before
  has_grown tells (inl large) = inl (large.0, record { program = program; accepted = accepted tells; optimised = large.1 }, large.2)
  has_grown tells (inr many) = inr (record { program = program; accepted = accepted tells; many = many })

  -- there is no text of the optimised module
  pub optimise_stopped : (stop : Stop) → StopsOptimising files.input program counts stop → OptEnds files before late (Err stop)
  optimise_stopped (Refused file problem) stops =
      let P : Problem → Type 0 = λ p. (file.now ≡ refused_file files p) × (late.file ≡ before.file) × (IsTrue before.tells → HasOptProblem files before p × KeepsRules files before p) in
      let grown : P Grown = (stops.0, both.files, λ tells. (has_grown tells stops.2, (program, reads tells, rules))) in
      subst P (sym stops.1) grown
  optimise_stopped OutOfMemory stops = λ tells. inl both.files
  optimise_stopped Usage stops = absurd stops
  optimise_stopped (No reason) stops = absurd stops
  optimise_stopped (ReadFault name) stops = absurd stops
  optimise_stopped (WriteFault name) stops = absurd stops
  optimise_stopped (Trapped trap) stops = absurd stops
  optimise_stopped (StepLimit steps) stops = absurd stops

  module _ (text certificate_text : List ℕ) (made : AreOptimisedTexts program counts text certificate_text) (new : HostState) where
    abbrev output : IsTrue before.tells → IsOutput files before made.program'
    output tells = record {
      optimises = record { program = program; accepted = accepted tells; optimised = made.optimised };
      certificate = made.certificate;
      shown = made.shown;
      rules = rules;
      same = made.optimised.transformed.same;
      fit = made.fit;
      again = made.again;
    }

    same_file : (name : List ℕ) → late.file name ≡ before.file name
    same_file name = ap (λ (file : List ℕ → Option (List ℕ)). file name) both.files

    part_left : (name bytes : List ℕ) → IsBeforeOrPart name bytes late new → IsBeforeOrPart name bytes before new
    part_left name bytes (inl same) = inl (same ∙ same_file name)
    part_left name bytes (inr part) = inr part

    parts_left : LeavesParts files text certificate_text late new → LeavesParts files text certificate_text before new
    parts_left (inl left) = inl (part_left files.output text left.0, left.1 ∙ same_file files.certificate)
    parts_left (inr left) = inr (left.0, part_left files.certificate certificate_text left.1)

    fault_left : (name : List ℕ) → Rose late.write_faults new.write_faults → Rose before.write_faults new.write_faults
    fault_left name rose = let P : ℕ → Type 0 = λ n. Rose n new.write_faults in subst P both.write_faults rose

    told_fault : (name : List ℕ)
        → ((name ≡ files.output) × (new.file files.certificate ≡ late.file files.certificate) × (IsTrue late.tells → IsBeforeOrPart files.output text late new))
        ⊎ ((name ≡ files.certificate) × (IsTrue late.tells → (new.file files.output ≡ Some text) × IsBeforeOrPart files.certificate certificate_text late new))
        → IsOutputFault files before new name ⊎ IsCertificateFault files before new name
    told_fault name (inl fault) =
        let P : List ℕ → Type 0 = λ text. IsBeforeOrPart files.output text before new in
        inl (
          fault.0,
          fault.1 ∙ same_file files.certificate,
          λ tells.
              (made.program', output tells, subst P made.is_text (part_left files.output text (fault.2 (still_tells before late both tells)))),
        )
    told_fault name (inr fault) =
        let P : List ℕ → Type 0 = λ text. new.file files.output ≡ Some text in
        let Q : List ℕ → Type 0 = λ text. IsBeforeOrPart files.certificate text before new in
        inr (
          fault.0,
          λ tells.
              let left = fault.1 (still_tells before late both tells) in
              (made.program', output tells, subst P made.is_text left.0, subst Q made.is_json (part_left files.certificate certificate_text left.1)),
        )

    -- the files were not both written
    pub write_stopped : (stop : Stop) → StopsWritingBoth files text certificate_text late new stop → OptEnds files before new (Err stop)
    write_stopped (WriteFault name) stops = (fault_left name.now stops.0, told_fault name.now stops.1)
    write_stopped OutOfMemory stops = λ tells.
        let P : List ℕ → Type 0 = λ text. LeavesParts files text certificate_text before new in
        let Q : List ℕ → Type 0 = λ json. LeavesParts files (text_of made.program') json before new in
        inr (made.program', output tells, subst Q made.is_json (subst P made.is_text (parts_left (stops (still_tells before late both tells)))))
    write_stopped Usage stops = absurd stops
    write_stopped (No reason) stops = absurd stops
    write_stopped (Refused file problem) stops = absurd stops
    write_stopped (ReadFault name) stops = absurd stops
    write_stopped (Trapped trap) stops = absurd stops
    write_stopped (StepLimit steps) stops = absurd stops

    -- all is done
    pub done : (IsTrue late.tells → new.file files.output ≡ Some text) → (IsTrue late.tells → new.file files.certificate ≡ Some certificate_text)
        → OptEnds files before new (Ok Written)
    done out cert = λ tells. record {
      program' = made.program';
      is_output = output tells;
      output = out (still_tells before late both tells) ∙ ap (λ (text : List ℕ). Some text) made.is_text;
      certificate = cert (still_tells before late both tells) ∙ ap (λ (text : List ℕ). Some text) made.is_json;
    }
