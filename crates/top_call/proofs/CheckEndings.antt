-- What an ending of `check` says of its files.
use Rattle.std.proofs.Common.{◌≡◌, ◌⊎◌, ℕ, List, length, Some, None, Ok, Err, IsTrue, inl, inr, refl, sym, ap, subst, ◌∙◌, arith}
use Rattle.mc_host.specs.Faults.{Rose}
use Rattle.mc_host.specs.Host.{HostState}
use Rattle.ir_types.specs.Program.{Program}
use Rattle.ir_types.specs.WellFormed.{IsWellFormed}
use Rattle.ir_reader.specs.Reading.{HasOneAnswer}
use Rattle.ir_printer.specs.Text.{text_of}
use Rattle.certificate.specs.declared.types.Certificate.{Certificate}
use Rattle.certificate.specs.Holds.{Holds}
use Rattle.certificate.specs.Parts.{first_wrong, text_parts}
use Rattle.certificate.specs.Text.{json}
use Rattle.certified.specs.Certified.{IsYes}
use Rattle.profile.specs.Reading as profile
use Rattle.profile.specs.declared.counts.FnCounts.{FnCounts}
use Rattle.call_lines.specs.declared.ending.Problem.{Problem}
use Rattle.call_lines.specs.declared.ending.Problem.TheVariants.{TooLong, Text, Grown, NoMain, LongProfile, BadProfile, LongOutput, BadCertificate}
use Rattle.call_lines.specs.declared.ending.Done.TheVariants.{Written, Checked, Returned}
use Rattle.call_lines.specs.declared.ending.Stop.TheVariants.{Usage, Refused, ReadFault, WriteFault, OutOfMemory, No, Trapped, StepLimit}
use Rattle.call_lines.specs.Ending.{Ending, status_of}
use Rattle.top_call.specs.Row.{OptFiles}
use Rattle.top_call.specs.Print.{ReadsAs, HasProblem}
use Rattle.top_call.specs.Opt.{IsOptDone}
use Rattle.top_call.specs.Check.{AreChecked, CheckEnds, HasBadCertificate, HasCertificate, HasCheckProblem, IsAgreed, IsCheckDone, IsDenied, KeepsCheckRules, SaysYes}
use Rattle.top_call.proofs.Endings.{same_program}
use Rattle.top_call.proofs.OptEndings.{carried, no_problem, same_content}

-- a text holds one certificate at most, and then no part of it is wrong
pub record OneCertificate : Type 0 where
  pub one : (bytes : List ℕ) (one other : Certificate) → Holds bytes one → Holds bytes other → one ≡ other
  pub right : (bytes : List ℕ) (certificate : Certificate) → Holds bytes certificate → first_wrong (text_parts bytes) ≡ None

module _ (one : (bytes : List ℕ) → HasOneAnswer bytes) (one_profile : (m : Program) → IsWellFormed m → (bytes : List ℕ) → profile.HasOneAnswer m bytes) (certificates : OneCertificate)
    (files : OptFiles) (old : HostState) where
  one_certificate : (x y : Certificate) → HasCertificate old files.certificate x → HasCertificate old files.certificate y → x ≡ y
  one_certificate x y is also =
      let same = same_content one one_profile files old files.certificate is.content also.content is.there also.there in
      certificates.one also.content x y (subst (λ (bytes : List ℕ). Holds bytes x) same is.holds) also.holds

  -- the files say yes or no, however they were read
  yes_carried : (x y : AreChecked files old) → IsWellFormed y.program → SaysYes files old x → SaysYes files old y
  yes_carried x y rules says =
      let P : Program → List FnCounts → Type 0 = λ m counts. IsYes m counts x.text x.certificate in
      let there = carried one one_profile files old P x.program y.program rules x.accepted y.accepted says in
      let text = same_content one one_profile files old files.output x.text y.text x.output.holds y.output.holds in
      let certificate = one_certificate x.certificate y.certificate x.certified y.certified in
      subst (λ (c : Certificate). IsYes y.program y.accepted.counts y.text c) certificate
      (subst (λ (text : List ℕ). IsYes y.program y.accepted.counts text x.certificate) text there)

  abbrev Keeps : Program → Type 0
  Keeps program = (m : Program) × ReadsAs old files.input m × IsWellFormed m

  rules_there : (program : Program) → ReadsAs old files.input program → Keeps program → IsWellFormed program
  rules_there program reads kept = subst IsWellFormed (same_program one old files.input kept.0 program kept.1 reads) kept.2

  long_output : (c : AreChecked files old) → ¬ (HasProblem old files.output TooLong)
  long_output c long =
      let same = same_content one one_profile files old files.output c.text long.0 c.output.holds long.1 in
      let l = ap (λ (l : List ℕ). length l) same in
      absurd (omega (arith, l, c.output.short, long.2))

  bad_certificate : (c : AreChecked files old) (path : _) → ¬ (HasBadCertificate old files.certificate path)
  bad_certificate c path bad =
      let same = same_content one one_profile files old files.certificate c.certified.content bad.content c.certified.there bad.there in
      let right = certificates.right bad.content c.certificate (subst (λ (bytes : List ℕ). Holds bytes c.certificate) same c.certified.holds) in
      absurd (none_some path (sym right ∙ bad.wrong))
    where
      none_some : {X : Type 0} (x : X) → None ≡ Some x → ⊥
      none_some x e = cc

  -- files that are checked have no problem
  without_problem : (c : AreChecked files old) (problem : Problem) → HasCheckProblem files old problem → (KeepsCheckRules files old problem) ⊎ IsWellFormed c.program → ⊥
  without_problem c TooLong has rules = no_problem one one_profile files old c.program c.accepted TooLong tt has
  without_problem c (Text refusal excerpt) has rules = no_problem one one_profile files old c.program c.accepted (Text refusal excerpt) tt has
  without_problem c LongProfile has rules = no_problem one one_profile files old c.program c.accepted LongProfile tt has
  without_problem c (BadProfile problem) has (inl kept) = no_problem one one_profile files old c.program c.accepted (BadProfile problem) kept has
  without_problem c (BadProfile problem) has (inr rules) = no_problem one one_profile files old c.program c.accepted (BadProfile problem) (c.program, c.accepted.reads, rules) has
  without_problem c LongOutput has rules = long_output c has.2
  without_problem c (BadCertificate path) has rules = bad_certificate c path has.3
  without_problem c Grown has rules = absurd has
  without_problem c NoMain has rules = absurd has

  -- the same files don't say yes and no
  not_denied : IsCheckDone files old → ¬ (IsDenied files old)
  not_denied done denied =
      let reads = denied.checked.accepted.reads in
      let rules = rules_there denied.checked.program reads (done.agreed.checked.program, done.agreed.checked.accepted.reads, done.rules) in
      denied.not_yes (yes_carried done.agreed.checked denied.checked rules done.agreed.yes)

  not_agreed : (denied : IsDenied files old) → IsWellFormed denied.checked.program → ¬ (IsAgreed files old)
  not_agreed denied rules agreed = denied.not_yes (yes_carried agreed.checked denied.checked rules agreed.yes)

  pub check_not_done : (new : HostState) (ending : Ending) → CheckEnds files old new ending → IsTrue old.tells
      → (problem : Problem) × HasCheckProblem files old problem → (status_of ending ≡ 1) ⊎ (status_of ending ≡ 3) ⊎ (status_of ending ≡ 5)
  check_not_done new (Ok Checked) ends tells has = absurd (let done = ends.1 tells in without_problem done.agreed.checked has.0 has.1 (inr done.rules))
  check_not_done new (Ok Written) ends tells has = absurd ends
  check_not_done new (Ok (Returned value)) ends tells has = absurd ends
  check_not_done new (Err (No reason)) ends tells has = absurd (let no = ends.1 tells in without_problem no.denied.checked has.0 has.1 (inr no.rules))
  check_not_done new (Err (Refused file told)) ends tells has = inl refl
  check_not_done new (Err (ReadFault name)) ends tells has = inr (inl refl)
  check_not_done new (Err OutOfMemory) ends tells has = inr (inr refl)
  check_not_done new (Err Usage) ends tells has = absurd ends
  check_not_done new (Err (WriteFault name)) ends tells has = absurd ends
  check_not_done new (Err (Trapped trap)) ends tells has = absurd ends
  check_not_done new (Err (StepLimit steps)) ends tells has = absurd ends

  pub check_complete : (new : HostState) (ending : Ending) → CheckEnds files old new ending → IsTrue old.tells
      → IsAgreed files old → ¬ (Rose old.read_faults new.read_faults) → (status_of ending ≡ 0) ⊎ (status_of ending ≡ 5)
  check_complete new (Ok done) ends tells agreed reads = inl refl
  check_complete new (Err (No reason)) ends tells agreed reads = absurd (let no = ends.1 tells in not_agreed no.denied no.rules agreed)
  check_complete new (Err (Refused file told)) ends tells agreed reads = absurd (let has = ends.2 tells in without_problem agreed.checked told has.0 (inl has.1))
  check_complete new (Err (ReadFault name)) ends tells agreed reads = absurd (reads ends.1)
  check_complete new (Err OutOfMemory) ends tells agreed reads = inr refl
  check_complete new (Err Usage) ends tells agreed reads = absurd ends
  check_complete new (Err (WriteFault name)) ends tells agreed reads = absurd ends
  check_complete new (Err (Trapped trap)) ends tells agreed reads = absurd ends
  check_complete new (Err (StepLimit steps)) ends tells agreed reads = absurd ends

  pub check_deny : (new : HostState) (ending : Ending) → CheckEnds files old new ending → IsTrue old.tells
      → IsDenied files old → (status_of ending ≡ 6) ⊎ (status_of ending ≡ 3) ⊎ (status_of ending ≡ 5)
  check_deny new (Ok Checked) ends tells denied = absurd (not_denied (ends.1 tells) denied)
  check_deny new (Ok Written) ends tells denied = absurd ends
  check_deny new (Ok (Returned value)) ends tells denied = absurd ends
  check_deny new (Err (No reason)) ends tells denied = inl refl
  check_deny new (Err (Refused file told)) ends tells denied = absurd (let has = ends.2 tells in without_problem denied.checked told has.0 (inl has.1))
  check_deny new (Err (ReadFault name)) ends tells denied = inr (inl refl)
  check_deny new (Err OutOfMemory) ends tells denied = inr (inr refl)
  check_deny new (Err Usage) ends tells denied = absurd ends
  check_deny new (Err (WriteFault name)) ends tells denied = absurd ends
  check_deny new (Err (Trapped trap)) ends tells denied = absurd ends
  check_deny new (Err (StepLimit steps)) ends tells denied = absurd ends

-- what `opt` left is agreed
pub agrees_with_opt : (files these : OptFiles) (old new host : HostState) → IsOptDone files old new
    → host.file these.input ≡ old.file files.input → host.file these.profile ≡ old.file files.profile
    → host.file these.output ≡ new.file files.output → host.file these.certificate ≡ new.file files.certificate
    → IsAgreed these host
agrees_with_opt files these old new host done input profile_file output_file certificate_file =
    let made = done.is_output.optimises in
    let reads = made.accepted.reads in
    let says = made.accepted.profile in
    record {
      checked = record {
        program = made.program;
        accepted = record {
          reads = record { content = reads.content; holds = input ∙ reads.holds; short = reads.short; reads = reads.reads };
          counts = made.accepted.counts;
          profile = record { content = says.content; holds = profile_file ∙ says.holds; short = says.short; reads = says.reads };
        };
        text = text_of done.program';
        output = record { holds = output_file ∙ done.output; short = done.is_output.fit.fits };
        certificate = done.is_output.certificate;
        certified = record { content = json done.is_output.certificate; there = certificate_file ∙ done.certificate; holds = done.is_output.shown.holds };
      };
      yes = done.is_output.shown.yes;
    }
