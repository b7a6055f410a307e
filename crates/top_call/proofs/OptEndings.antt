-- What an ending of `opt` says of its files.
use Rattle.std.proofs.Common.{◌≡◌, ◌⊎◌, ℕ, List, length, Some, Ok, Err, IsTrue, inl, inr, refl, sym, ap, subst, ◌∙◌, arith}
use Rattle.mc_host.specs.Faults.{Rose}
use Rattle.mc_host.specs.Host.{HostState}
use Rattle.ir_types.specs.Program.{Program}
use Rattle.ir_types.specs.WellFormed.{IsWellFormed}
use Rattle.ir_reader.specs.Reading.{HasOneAnswer}
use Rattle.profile.specs.Reading as profile
use Rattle.profile.specs.declared.counts.FnCounts.{FnCounts}
use Rattle.profile.specs.declared.reading.ProfileError.{ProfileError}
use Rattle.profile.specs.declared.reading.ProfileError.TheVariants as errors
use Rattle.optimise.specs.Optimised.{HasTooMany, IsOptimised}
use Rattle.call_lines.specs.declared.ending.Problem.{Problem}
use Rattle.call_lines.specs.declared.ending.Problem.TheVariants.{TooLong, Text, Grown, NoMain, LongProfile, BadProfile, LongOutput, BadCertificate}
use Rattle.call_lines.specs.declared.ending.ProfileProblem.{ProfileProblem}
use Rattle.call_lines.specs.declared.ending.Done.TheVariants.{Written, Checked, Returned}
use Rattle.call_lines.specs.declared.ending.Stop.TheVariants.{Usage, Refused, ReadFault, WriteFault, OutOfMemory, No, Trapped, StepLimit}
use Rattle.call_lines.specs.Ending.{Ending, status_of}
use Rattle.top_call.specs.Row.{OptFiles}
use Rattle.call_lines.specs.RefusedProfile.{problem_of}
use Rattle.top_call.specs.Print.{ReadsAs, HasProblem}
use Rattle.top_call.specs.Accepted.{HasBadProfile, HasCounts}
use Rattle.top_call.specs.Opt.{OptEnds, AreAccepted, AreOptimisable, HasOptProblem, HasFileProblem, HasGrown, KeepsRules, IsFit, IsGrown, IsOutput}
use Rattle.top_call.proofs.Endings.{same_program, not_long, not_refused}

-- an error that tells a problem isn't want of memory
told_problem : (error : ProfileError) (problem : ProfileProblem) → problem_of error ≡ Some problem → ¬ (error ≡ errors.NoMemory)
told_problem error problem is none =
    let P : ProfileError → Type 0 = λ e. problem_of e ≡ Some problem in
    let h = subst P none is in absurd (cc)

-- by its counts a module has one optimised module, and has none where too much would be inserted
pub record OneOptimised : Type 0 where
  pub one : (m : Program) (counts : List FnCounts) (one other : Program) → IsOptimised m counts one → IsOptimised m counts other → one ≡ other
  pub not_both : (m : Program) (counts : List FnCounts) (one : Program) → IsOptimised m counts one → ¬ (HasTooMany m counts)

-- what is fit isn't too large
fit_not_grown : (m : Program) → IsFit m → ¬ (IsGrown m)
fit_not_grown m fit (inl long) = absurd (omega (arith, fit.fits, long))
fit_not_grown m fit (inr above) = above fit.limits

module _ (one : (bytes : List ℕ) → HasOneAnswer bytes) (one_profile : (m : Program) → IsWellFormed m → (bytes : List ℕ) → profile.HasOneAnswer m bytes)
    (files : OptFiles) (old : HostState) where
  pub same_content : (name a b : List ℕ) → old.file name ≡ Some a → old.file name ≡ Some b → a ≡ b
  same_content name a b e f = let g : Some a ≡ Some b = sym e ∙ f in cc

  -- a profile that says counts isn't too long
  not_long_profile : (program : Program) (counts : List FnCounts) → HasCounts old files.profile program counts → ¬ (HasProblem old files.profile TooLong)
  not_long_profile program counts says has =
      let same = same_content files.profile says.content has.0 says.holds has.1 in
      let l = ap (λ (l : List ℕ). length l) same in
      absurd (omega (arith, l, says.short, has.2))

  -- and it isn't refused
  not_bad_profile : (program program' : Program) (counts : List FnCounts) (problem : ProfileProblem) → IsWellFormed program → program' ≡ program
      → HasCounts old files.profile program counts → ¬ (HasBadProfile old files.profile program' problem)
  not_bad_profile program program' counts problem rules is says has =
      let same = same_content files.profile says.content has.content says.holds has.holds in
      let P : List ℕ → Type 0 = λ l. profile.Reads program l counts in
      let Q : Program → Type 0 = λ m. profile.Refuses m has.content has.bad.error in
      told_problem has.bad.error problem has.bad.is_problem
      ((one_profile program rules has.content).not_both counts has.bad.error (subst P same says.reads) (subst Q is has.bad.refuses))

  -- a file is the profile of one list of counts
  one_counts : (program : Program) (counts others : List FnCounts) → IsWellFormed program → HasCounts old files.profile program counts → HasCounts old files.profile program others → counts ≡ others
  one_counts program counts others rules says also =
      let same = same_content files.profile says.content also.content says.holds also.holds in
      let P : List ℕ → Type 0 = λ l. profile.Reads program l counts in
      (one_profile program rules also.content).one_profile counts others (subst P same says.reads) also.reads

  -- what holds of the module and the counts of the files holds of them, however they were read
  pub carried : (P : Program → List FnCounts → Type 0) (program other : Program) → IsWellFormed other → (x : AreAccepted files old program) (y : AreAccepted files old other) → P program x.counts → P other y.counts
  carried P program other rules x y holds =
      let same = same_program one old files.input program other x.reads y.reads in
      let Says : Program → Type 0 = λ m. HasCounts old files.profile m x.counts in
      let Holds : Program → Type 0 = λ m. P m x.counts in
      let counts = one_counts other x.counts y.counts rules (subst Says same x.profile) y.profile in
      subst (P other) counts (subst Holds same holds)

  -- files that are accepted have no problem
  pub no_problem : (program : Program) → AreAccepted files old program → (problem : Problem) → KeepsRules files old problem → ¬ (HasFileProblem files old problem)
  no_problem program accepted TooLong rules has = not_long one old files.input program accepted.reads has
  no_problem program accepted (Text refusal excerpt) rules has = not_refused one old files.input program refusal excerpt accepted.reads has
  no_problem program accepted LongProfile rules has = not_long_profile program accepted.counts accepted.profile has.2
  no_problem program accepted (BadProfile problem) rules has =
      let kept = same_program one old files.input rules.0 program rules.1 accepted.reads in
      not_bad_profile program has.0 accepted.counts problem (subst IsWellFormed kept rules.2)
      (same_program one old files.input has.0 program has.1 accepted.reads) accepted.profile has.2
  no_problem program accepted Grown rules has = absurd has
  no_problem program accepted NoMain rules has = absurd has
  no_problem program accepted LongOutput rules has = absurd has
  no_problem program accepted (BadCertificate path) rules has = absurd has

  -- where a module was made, the files have no problem
  pub keeps_rules : (program : Program) → ReadsAs old files.input program → IsWellFormed program → (problem : Problem) → KeepsRules files old problem
  keeps_rules program reads rules (BadProfile problem) = (program, reads, rules)
  keeps_rules program reads rules LongProfile = tt
  keeps_rules program reads rules LongOutput = tt
  keeps_rules program reads rules (BadCertificate path) = tt
  keeps_rules program reads rules TooLong = tt
  keeps_rules program reads rules (Text refusal excerpt) = tt
  keeps_rules program reads rules Grown = (program, reads, rules)
  keeps_rules program reads rules NoMain = tt

  file_without_problem : (program' : Program) → IsOutput files old program' → (problem : Problem) → ¬ HasFileProblem files old problem
  file_without_problem program' output problem has =
      let reads = output.optimises.accepted.reads in
      no_problem output.optimises.program output.optimises.accepted problem (keeps_rules output.optimises.program reads output.rules problem) has

  output_without_problem : OneOptimised → (program' : Program) → IsOutput files old program' → (problem : Problem) → ¬ HasOptProblem files old problem
  output_without_problem once program' output Grown (inl large) =
      let program = output.optimises.program in
      let made = large.1 in
      let P : Program → List FnCounts → Type 0 = λ m counts. IsOptimised m counts large.0 in
      let optimised : IsOptimised program output.optimises.accepted.counts large.0 = carried P made.program program output.rules made.accepted output.optimises.accepted made.optimised in
      let is : large.0 ≡ program' = once.one program output.optimises.accepted.counts large.0 program' optimised output.optimises.optimised in
      fit_not_grown program' output.fit (subst IsGrown is large.2)
  output_without_problem once program' output Grown (inr crowded) =
      let many = carried HasTooMany crowded.program output.optimises.program output.rules crowded.accepted output.optimises.accepted crowded.many in
      once.not_both output.optimises.program output.optimises.accepted.counts program' output.optimises.optimised many
  output_without_problem once program' output TooLong has = file_without_problem program' output TooLong has
  output_without_problem once program' output (Text refusal excerpt) has = file_without_problem program' output (Text refusal excerpt) has
  output_without_problem once program' output LongProfile has = file_without_problem program' output LongProfile has
  output_without_problem once program' output (BadProfile problem) has = file_without_problem program' output (BadProfile problem) has
  output_without_problem once program' output NoMain has = absurd has
  output_without_problem once program' output LongOutput has = absurd has
  output_without_problem once program' output (BadCertificate path) has = absurd has

  -- what is refused of accepted files is that the module is too large
  refused_as_grown : (program : Program) → AreAccepted files old program → (problem : Problem) → HasOptProblem files old problem → KeepsRules files old problem → HasGrown files old
  refused_as_grown program accepted Grown has rules = has
  refused_as_grown program accepted TooLong has rules = absurd (no_problem program accepted TooLong rules has)
  refused_as_grown program accepted (Text refusal excerpt) has rules = absurd (no_problem program accepted (Text refusal excerpt) rules has)
  refused_as_grown program accepted LongProfile has rules = absurd (no_problem program accepted LongProfile rules has)
  refused_as_grown program accepted LongOutput has rules = absurd (no_problem program accepted LongOutput rules has)
  refused_as_grown program accepted (BadCertificate path) has rules = absurd (no_problem program accepted (BadCertificate path) rules has)
  refused_as_grown program accepted (BadProfile problem) has rules = absurd (no_problem program accepted (BadProfile problem) rules has)
  refused_as_grown program accepted NoMain has rules = absurd has

  -- where the module keeps the rules, what can be optimised doesn't grow
  optimisable_not_grown : (can : AreOptimisable files old) → IsWellFormed can.program → ¬ (HasGrown files old)
  optimisable_not_grown can rules (inl large) =
      let made = large.1 in
      let P : Program → List FnCounts → Type 0 = λ m counts. IsOptimised m counts large.0 in
      can.not_grown large.0 (carried P made.program can.program rules made.accepted can.accepted made.optimised) large.2
  optimisable_not_grown can rules (inr crowded) =
      can.few (carried HasTooMany crowded.program can.program rules crowded.accepted can.accepted crowded.many)

  -- what can be optimised isn't refused
  optimisable_without_problem : AreOptimisable files old → (problem : Problem) → HasOptProblem files old problem → KeepsRules files old problem → ⊥
  optimisable_without_problem can Grown has rules =
      let kept = same_program one old files.input rules.0 can.program rules.1 can.accepted.reads in
      optimisable_not_grown can (subst IsWellFormed kept rules.2) has
  optimisable_without_problem can TooLong has rules = no_problem can.program can.accepted TooLong rules has
  optimisable_without_problem can (Text refusal excerpt) has rules = no_problem can.program can.accepted (Text refusal excerpt) rules has
  optimisable_without_problem can LongProfile has rules = no_problem can.program can.accepted LongProfile rules has
  optimisable_without_problem can (BadProfile problem) has rules = no_problem can.program can.accepted (BadProfile problem) rules has
  optimisable_without_problem can NoMain has rules = absurd has
  optimisable_without_problem can LongOutput has rules = absurd has
  optimisable_without_problem can (BadCertificate path) has rules = absurd has

  pub opt_not_done : OneOptimised → (new : HostState) (ending : Ending) → OptEnds files old new ending → IsTrue old.tells
      → (problem : Problem) × HasOptProblem files old problem → (status_of ending ≡ 1) ⊎ (status_of ending ≡ 3) ⊎ (status_of ending ≡ 5)
  opt_not_done once new (Ok Written) ends tells has = absurd (let made = ends tells in output_without_problem once made.program' made.is_output has.0 has.1)
  opt_not_done once new (Ok (Returned value)) ends tells has = absurd ends
  opt_not_done once new (Ok Checked) ends tells has = absurd ends
  opt_not_done once new (Err (Refused file told)) ends tells has = inl refl
  opt_not_done once new (Err (ReadFault name)) ends tells has = inr (inl refl)
  opt_not_done once new (Err (WriteFault name)) (rose, inl fault) tells has = absurd (let made = fault.2 tells in output_without_problem once made.0 made.1 has.0 has.1)
  opt_not_done once new (Err (WriteFault name)) (rose, inr fault) tells has = absurd (let made = fault.1 tells in output_without_problem once made.0 made.1 has.0 has.1)
  opt_not_done once new (Err OutOfMemory) ends tells has = inr (inr refl)
  opt_not_done once new (Err Usage) ends tells has = absurd ends
  opt_not_done once new (Err (No reason)) ends tells has = absurd ends
  opt_not_done once new (Err (Trapped trap)) ends tells has = absurd ends
  opt_not_done once new (Err (StepLimit steps)) ends tells has = absurd ends

  pub opt_grown : (new : HostState) (ending : Ending) → OptEnds files old new ending → IsTrue old.tells
      → (program : Program) → AreAccepted files old program → ¬ (Rose old.read_faults new.read_faults) → ¬ (Rose old.write_faults new.write_faults)
      → (status_of ending ≡ 0) ⊎ (status_of ending ≡ 5) ⊎ ((status_of ending ≡ 1) × HasGrown files old)
  opt_grown new (Ok done) ends tells program accepted reads writes = inl refl
  opt_grown new (Err (Refused file told)) ends tells program accepted reads writes =
      let has = ends.2 tells in inr (inr (refl, refused_as_grown program accepted told has.0 has.1))
  opt_grown new (Err (ReadFault name)) ends tells program accepted reads writes = absurd (reads ends.1)
  opt_grown new (Err (WriteFault name)) ends tells program accepted reads writes = absurd (writes ends.0)
  opt_grown new (Err OutOfMemory) ends tells program accepted reads writes = inr (inl refl)
  opt_grown new (Err Usage) ends tells program accepted reads writes = absurd ends
  opt_grown new (Err (No reason)) ends tells program accepted reads writes = absurd ends
  opt_grown new (Err (Trapped trap)) ends tells program accepted reads writes = absurd ends
  opt_grown new (Err (StepLimit steps)) ends tells program accepted reads writes = absurd ends

  pub opt_complete : (new : HostState) (ending : Ending) → OptEnds files old new ending → IsTrue old.tells
      → AreOptimisable files old → ¬ (Rose old.read_faults new.read_faults) → ¬ (Rose old.write_faults new.write_faults)
      → (status_of ending ≡ 0) ⊎ (status_of ending ≡ 5)
  opt_complete new (Ok done) ends tells can reads writes = inl refl
  opt_complete new (Err (Refused file told)) ends tells can reads writes = absurd (let has = ends.2 tells in optimisable_without_problem can told has.0 has.1)
  opt_complete new (Err (ReadFault name)) ends tells can reads writes = absurd (reads ends.1)
  opt_complete new (Err (WriteFault name)) ends tells can reads writes = absurd (writes ends.0)
  opt_complete new (Err OutOfMemory) ends tells can reads writes = inr refl
  opt_complete new (Err Usage) ends tells can reads writes = absurd ends
  opt_complete new (Err (No reason)) ends tells can reads writes = absurd ends
  opt_complete new (Err (Trapped trap)) ends tells can reads writes = absurd ends
  opt_complete new (Err (StepLimit steps)) ends tells can reads writes = absurd ends
