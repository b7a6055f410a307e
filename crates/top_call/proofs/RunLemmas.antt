-- How `run` ends, by what stopped it.
use Rattle.std.proofs.Common.{◌≡◌, ◌≤◌, ◌⊎◌, ℕ, List, length, Option, None, Some, Result, Ok, Err, IsTrue, inl, inr, refl, sym, ap, subst, ◌∙◌}
use Rattle.std.specs.Prelude.{IfSome}
use Rattle.mc_num.specs.declared.memory.NoMemory.{NoMemory}
use Rattle.mc_num.specs.declared.op.Width.{Width}
use Rattle.mc_host.specs.Faults.{Rose}
use Rattle.mc_host.specs.Host.{HostState, OnlyReads, IsBeforeOrPart}
use Rattle.mc_host.specs.Streams.{SourceState, SinkState}
use Rattle.ir_types.specs.Program.{Program}
use Rattle.ir_reader.specs.Reading.{Reads}
use Rattle.profile.specs.Text.{prof_text}
use Rattle.profile.specs.declared.counts.Profile.{Profile}
use Rattle.interp.specs.Run.{Ran}
use Rattle.interp.specs.declared.ends.RunEnd.{RunEnd}
use Rattle.interp.specs.declared.ends.RunEnd.TheVariants as runs
use Rattle.call_lines.specs.declared.ending.Problem.{Problem}
use Rattle.call_lines.specs.declared.ending.Problem.TheVariants.{TooLong, Text, Grown, NoMain, LongProfile, BadProfile, LongOutput, BadCertificate}
use Rattle.call_lines.specs.declared.ending.Done.TheVariants.{Returned}
use Rattle.call_lines.specs.declared.ending.Stop.{Stop}
use Rattle.call_lines.specs.declared.ending.Stop.TheVariants.{Usage, Refused, ReadFault, WriteFault, OutOfMemory, No, Trapped, StepLimit}
use Rattle.top_call.specs.World.{world}
use Rattle.top_call.specs.Print.{ReadsAs, text_limit}
use Rattle.top_call.specs.Run.{HasRunProblem, HasReturned, RanAs, RunEnds, LeavesProfilePart, typed_value}
use Rattle.top_call.specs.Stops.{StopsReading, StopsParsing, StopsRunning, StopsProfiling}

-- the file was not read
pub read_stopped : (limit : ℕ) (input : List ℕ) (profile : Option (List ℕ)) (old new : HostState) (source : SourceState) (sink : SinkState) (stop : Stop)
    → StopsReading input TooLong old new stop → OnlyReads old new → RunEnds limit input profile (world old source sink) (world new source sink) (Err stop)
read_stopped limit input profile old new source sink (Refused file problem) stops reads =
    let P : Problem → Type 0 = λ p. IsTrue old.tells → HasRunProblem old input p in
    (stops.0, reads.files, record { input = refl; out = refl }, subst P (sym stops.1) stops.2)
read_stopped limit input profile old new source sink (ReadFault name) stops reads =
    (reads.files, inl (stops.0, record { input = refl; out = refl }, stops.1))
read_stopped limit input profile old new source sink OutOfMemory stops reads = λ tells. (inl (record { input = refl; out = refl }), inl reads.files)
read_stopped limit input profile old new source sink Usage stops reads = absurd stops
read_stopped limit input profile old new source sink (No reason) stops reads = absurd stops
read_stopped limit input profile old new source sink (WriteFault name) stops reads = absurd stops
read_stopped limit input profile old new source sink (Trapped trap) stops reads = absurd stops
read_stopped limit input profile old new source sink (StepLimit steps) stops reads = absurd stops

module _ (limit : ℕ) (input : List ℕ) (profile : Option (List ℕ)) (before mid : HostState) (bytes : List ℕ)
    (read : OnlyReads before mid) (holds : IsTrue before.tells → before.file input ≡ Some bytes) (short : length bytes ≤ text_limit) where
  same_files : (name : List ℕ) → mid.file name ≡ before.file name
  same_files name = ap (λ (file : List ℕ → Option (List ℕ)). file name) read.files

  -- its text was not read as a program
  pub parse_stopped : (source : SourceState) (sink : SinkState) (stop : Stop) → StopsParsing input bytes stop
      → RunEnds limit input profile (world before source sink) (world mid source sink) (Err stop)
  parse_stopped source sink (Refused file TooLong) stops = absurd stops.1
  parse_stopped source sink (Refused file (Text refusal excerpt)) stops =
      (stops.0, read.files, record { input = refl; out = refl }, λ tells. (bytes, holds tells, short, stops.1.0, stops.1.1))
  parse_stopped source sink (Refused file Grown) stops = absurd stops.1
  parse_stopped source sink (Refused file NoMain) stops = absurd stops.1
  parse_stopped source sink (Refused file LongOutput) stops = absurd stops.1
  parse_stopped source sink (Refused file (BadCertificate path)) stops = absurd stops.1
  parse_stopped source sink (Refused file LongProfile) stops = absurd stops.1
  parse_stopped source sink (Refused file (BadProfile problem)) stops = absurd stops.1
  parse_stopped source sink OutOfMemory stops = λ tells. (inl (record { input = refl; out = refl }), inl read.files)
  parse_stopped source sink Usage stops = absurd stops
  parse_stopped source sink (No reason) stops = absurd stops
  parse_stopped source sink (ReadFault name) stops = absurd stops
  parse_stopped source sink (WriteFault name) stops = absurd stops
  parse_stopped source sink (Trapped trap) stops = absurd stops
  parse_stopped source sink (StepLimit steps) stops = absurd stops

  module _ (program : Program) (reads : Reads bytes program) (source source' : SourceState) (sink sink' : SinkState) where
    abbrev as_read : IsTrue before.tells → ReadsAs before input program
    as_read tells = record { content = bytes; holds = holds tells; short = short; reads = reads }

    abbrev ran_as : (new : HostState) (result : Result RunEnd NoMemory) → Ran program limit source source' sink sink' result
        → IsTrue before.tells → RanAs limit input (world before source sink) (world new source' sink') result
    ran_as new result ran tells = record { program = program; reads = as_read tells; ran = ran }

    -- main did not return
    pub run_stopped : (stop : Stop) → StopsRunning input limit program (world mid source sink) (world mid source' sink') stop
        → RunEnds limit input profile (world before source sink) (world mid source' sink') (Err stop)
    run_stopped (Refused file problem) stops =
        let ran = stops.2.cause in
        let P : Problem → Type 0 = λ p. IsTrue before.tells → HasRunProblem before input p in
        let none : IsTrue before.tells → HasRunProblem before input NoMain = λ tells. (program, as_read tells, ran.0) in
        (stops.0, read.files, record { input = ran.1; out = ran.2 }, subst P (sym stops.1) none)
    run_stopped (ReadFault name) stops = (read.files, inr (stops.0, stops.1.cause.1, ran_as mid _ stops.1))
    run_stopped (WriteFault name) stops = inl (stops.0, read.files, stops.1.cause.1, ran_as mid _ stops.1)
    run_stopped OutOfMemory stops = λ tells. (inr (Err stops.0, ran_as mid _ stops.1 tells), inl read.files)
    run_stopped (Trapped trap) stops = (read.files, ran_as mid _ stops)
    run_stopped (StepLimit steps) stops = (stops.0, read.files, ran_as mid _ stops.1)
    run_stopped Usage stops = absurd stops
    run_stopped (No reason) stops = absurd stops

    module _ (value : Option ℕ) (counts : Profile) (new : HostState)
        (ran : Ran program limit source source' sink sink' (Ok (runs.Returned value counts))) where
      abbrev has_returned : IsTrue before.tells → HasReturned limit input (world before source sink) (world new source' sink')
      has_returned tells = record { value = value; profile = counts; run = ran_as new _ ran tells }

      left : (name text : List ℕ) → IsBeforeOrPart name text mid new → IsBeforeOrPart name text before new
      left name text (inl same) = inl (same ∙ same_files name)
      left name text (inr part) = inr part

      told : IsTrue before.tells → IsTrue mid.tells
      told tells = read.rights.tells ∙ tells

      memory_left : (text : List ℕ) → text ≡ prof_text program counts.functions
          → (new.file ≡ mid.file) ⊎ ((name : List ℕ) × (profile ≡ Some name) × (IsTrue mid.tells → IsBeforeOrPart name text mid new))
          → IsTrue before.tells → LeavesProfilePart limit input profile (world before source sink) (world new source' sink')
      memory_left text is_text (inl same) tells = inl (same ∙ read.files)
      memory_left text is_text (inr part) tells =
          let P : List ℕ → Type 0 = λ text. IsBeforeOrPart part.0 text before new in
          inr (part.0, has_returned tells, part.1, subst P is_text (left part.0 text (part.2 (told tells))))

      -- the profile was not written
      pub profile_stopped : (stop : Stop) → StopsProfiling profile (prof_text program counts.functions) mid new stop
          → RunEnds limit input profile (world before source sink) (world new source' sink') (Err stop)
      profile_stopped (WriteFault name) stops =
          let P : ℕ → Type 0 = λ n. Rose n new.write_faults in
          inr (stops.0, subst P read.write_faults stops.1, λ tells. (has_returned tells, left name.now _ (stops.2 (told tells))))
      profile_stopped OutOfMemory stops = λ tells. (inr (_, ran_as new _ ran tells), memory_left (prof_text program counts.functions) refl stops tells)
      profile_stopped Usage stops = absurd stops
      profile_stopped (No reason) stops = absurd stops
      profile_stopped (Refused file problem) stops = absurd stops
      profile_stopped (ReadFault name) stops = absurd stops
      profile_stopped (Trapped trap) stops = absurd stops
      profile_stopped (StepLimit steps) stops = absurd stops

      -- all is done
      pub done : (typed : Option (Width × ℕ)) → typed ≡ typed_value program value
          → IfSome profile (λ name. IsTrue mid.tells → new.file name ≡ Some (prof_text program counts.functions))
          → RunEnds limit input profile (world before source sink) (world new source' sink') (Ok (Returned typed))
      done typed is_typed written = λ tells. (has_returned tells, is_typed, holding profile written tells)
        where
          holding : (asked : Option (List ℕ)) → IfSome asked (λ name. IsTrue mid.tells → new.file name ≡ Some (prof_text program counts.functions))
              → IsTrue before.tells → IfSome asked (λ name. new.file name ≡ Some (prof_text program counts.functions))
          holding None written tells = tt
          holding (Some name) written tells = written (told tells)
