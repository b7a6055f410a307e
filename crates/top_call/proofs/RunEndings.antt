-- What an ending of `run` says of its file and of its run.
use Rattle.std.proofs.Common.{◌≡◌, true, false, ℕ, List, Option, None, Some, Result, Ok, Err, IsSome, IsTrue, ◌⊎◌, inl, inr, refl, sym, ap, subst, arith}
use Rattle.mc_num.specs.declared.memory.NoMemory.{NoMemory}
use Rattle.mc_num.specs.declared.op.Trap.{Trap}
use Rattle.mc_host.specs.Faults.{Rose}
use Rattle.ir_types.specs.Program.{Program}
use Rattle.ir_types.specs.declared.syntax.Function.{Function}
use Rattle.ir_machine.specs.Step.{Globals}
use Rattle.ir_machine.specs.declared.frame.Frame.{Frame}
use Rattle.machines.specs.Runs.{Exchange, Progress, At, Over}
use Rattle.machines.specs.Meaning.{State, End, ByReturn, ByTrap}
use Rattle.ir_reader.specs.Reading.{HasOneAnswer}
use Rattle.profile.specs.declared.counts.FnCounts.{FnCounts}
use Rattle.interp.specs.Main.{main_of, run_of, prof_of}
use Rattle.interp.specs.Run.{EndsWith}
use Rattle.interp.specs.declared.ends.RunEnd.{RunEnd}
use Rattle.interp.specs.declared.ends.RunEnd.TheVariants as runs
use Rattle.call_lines.specs.declared.ending.Problem.{Problem}
use Rattle.call_lines.specs.declared.ending.Problem.TheVariants.{TooLong, Text, Grown, NoMain, LongProfile, BadProfile, LongOutput, BadCertificate}
use Rattle.call_lines.specs.declared.ending.Done.TheVariants.{Written, Checked, Returned}
use Rattle.call_lines.specs.declared.ending.Stop.TheVariants.{Usage, Refused, ReadFault, WriteFault, OutOfMemory, No, Trapped, StepLimit}
use Rattle.call_lines.specs.Ending.{Ending, status_of}
use Rattle.top_call.specs.World.{World, AreStill}
use Rattle.top_call.specs.Run.{HasRunProblem, RunsTo, Returns, Traps, EndsNothing, RanAs, RunEnds, HasMoved, IsFileFault, IsInputFault}
use Rattle.top_call.proofs.Endings.{same_program, not_long, not_refused}

-- where a run stands
abbrev Place : Type 0
Place = Progress (State Frame Globals) End

-- ---- what an answer says of main

-- main is there
abbrev HasMain : RunEnd → Program → Type 0
HasMain runs.NoMain program = Unit {0}
HasMain _ program = IsSome (main_of program)

has_main : (limit : ℕ) (input : List ℕ) (old new : World) (end : RunEnd) (run : RanAs limit input old new (Ok end)) → HasMain end run.program
has_main limit input old new (runs.Returned value profile) run = run.ran.cause.0
has_main limit input old new (runs.Trapped trap) run = run.ran.cause
has_main limit input old new runs.StepLimit run = run.ran.cause
has_main limit input old new runs.ReadFault run = run.ran.cause.0
has_main limit input old new runs.WriteFault run = run.ran.cause.0
has_main limit input old new runs.NoMain run = tt

no_main : (program : Program) → main_of program ≡ None → ¬ (IsSome (main_of program))
no_main program e some = let P : Option (ℕ × Function) → Type 0 = λ o. IsSome o in let h : false ≡ true = subst P e some in cc

-- a run that has come somewhere has a main
no_run : (program : Program) (input : List ℕ) (limit : ℕ) (progress : Place) → main_of program ≡ None → ¬ (run_of program input limit ≡ Some progress)
no_run program input limit progress e some = let f : Option Place = run_of program input limit in let none : f ≡ None = rw e refl in cc

-- where a run stands that came to this answer
stands_trapped : (place : Option Place) (counts : Option (List FnCounts)) (trap : Trap) → EndsWith place counts (runs.Trapped trap) → (transcript : List Exchange) × (place ≡ Some (Over (ByTrap trap) transcript))
stands_trapped None counts trap ends = absurd ends
stands_trapped (Some (At state)) counts trap ends = absurd ends
stands_trapped (Some (Over (ByReturn value) transcript)) counts trap ends = absurd ends
stands_trapped (Some (Over (ByTrap trap') transcript)) counts trap ends = (transcript, ap (λ (trap : Trap). let place : Place = Over (ByTrap trap) transcript in Some place) (sym ends))

stands_at : (place : Option Place) (counts : Option (List FnCounts)) → EndsWith place counts runs.StepLimit → (state : State Frame Globals) × (place ≡ Some (At state))
stands_at None counts ends = absurd ends
stands_at (Some (At state)) counts ends = (state, refl)
stands_at (Some (Over (ByReturn value) transcript)) counts ends = absurd ends
stands_at (Some (Over (ByTrap trap) transcript)) counts ends = absurd ends

pub run_trapped : (limit : ℕ) (input : List ℕ) (profile : Option (List ℕ)) (old new : World) (trap : Trap) → RunEnds limit input profile old new (Err (Trapped trap)) → IsTrue old.host.tells → IsTrue old.input.tells → Traps limit input old
run_trapped limit input profile old new trap ends tells told =
    let run = ends.1 tells in
    let stands = stands_trapped (run_of run.program old.input.left limit) (prof_of run.program old.input.left limit) trap (run.ran.ends told) in
    (trap, stands.0, (run.program, run.reads, stands.1))

pub run_limited : (limit : ℕ) (input : List ℕ) (profile : Option (List ℕ)) (old new : World) (steps : ℕ) → RunEnds limit input profile old new (Err (StepLimit steps)) → IsTrue old.host.tells → IsTrue old.input.tells → EndsNothing limit input old
run_limited limit input profile old new steps ends tells told =
    let run = ends.2 tells in
    let stands = stands_at (run_of run.program old.input.left limit) (prof_of run.program old.input.left limit) (run.ran.ends told) in
    (stands.0, (run.program, run.reads, stands.1))

module _ (one : (bytes : List ℕ) → HasOneAnswer bytes) (limit : ℕ) (input : List ℕ) (profile : Option (List ℕ)) (old new : World) where
  -- a file whose main was run has no problem
  no_problem : (result : Result RunEnd NoMemory) (run : RanAs limit input old new result) → IsSome (main_of run.program) → (problem : Problem) → ¬ (HasRunProblem old.host input problem)
  no_problem result run some TooLong has = not_long one old.host input run.program run.reads has
  no_problem result run some (Text refusal excerpt) has = not_refused one old.host input run.program refusal excerpt run.reads has
  no_problem result run some Grown has = absurd has
  no_problem result run some LongProfile has = absurd has
  no_problem result run some LongOutput has = absurd has
  no_problem result run some (BadCertificate path) has = absurd has
  no_problem result run some (BadProfile problem) has = absurd has
  no_problem result run some NoMain has =
      let P : Program → Type 0 = λ m. IsSome (main_of m) in
      no_main has.0 has.2 (subst P (same_program one old.host input run.program has.0 run.reads has.1) some)

  -- nor has one whose main runs somewhere
  runs_without_problem : (progress : Place) → RunsTo limit input old progress → (problem : Problem) → ¬ (HasRunProblem old.host input problem)
  runs_without_problem progress to TooLong has = not_long one old.host input to.0 to.1 has
  runs_without_problem progress to (Text refusal excerpt) has = not_refused one old.host input to.0 refusal excerpt to.1 has
  runs_without_problem progress to Grown has = absurd has
  runs_without_problem progress to LongProfile has = absurd has
  runs_without_problem progress to LongOutput has = absurd has
  runs_without_problem progress to (BadCertificate path) has = absurd has
  runs_without_problem progress to (BadProfile problem) has = absurd has
  runs_without_problem progress to NoMain has =
      let P : Program → Type 0 = λ m. main_of m ≡ None in
      no_run to.0 old.input.left limit progress (subst P (same_program one old.host input has.0 to.0 has.1 to.1) has.2) to.2

  -- the answer is that of the place to which the run comes
  comes : (progress : Place) (end : RunEnd) → RanAs limit input old new (Ok end) → IsTrue old.input.tells → RunsTo limit input old progress → (counts : Option (List FnCounts)) × EndsWith (Some progress) counts end
  comes progress end run tells to =
      let counts = prof_of run.program old.input.left limit in
      let P : Program → Type 0 = λ m. EndsWith (run_of m old.input.left limit) counts end in
      let Q : Option Place → Type 0 = λ o. EndsWith o counts end in
      (counts, subst Q to.2 (subst P (same_program one old.host input run.program to.0 run.reads to.1) (run.ran.ends tells)))

  pub run_not_done : (ending : Ending) → RunEnds limit input profile old new ending → IsTrue old.host.tells
      → (problem : Problem) → HasRunProblem old.host input problem → (status_of ending ≡ 1) ⊎ (status_of ending ≡ 3) ⊎ (status_of ending ≡ 5)
  run_not_done (Ok Written) ends tells problem has = absurd ends
  run_not_done (Ok Checked) ends tells problem has = absurd ends
  run_not_done (Ok (Returned value)) ends tells problem has = absurd (let run = (ends tells).0.run in no_problem _ run (has_main limit input old new _ run) problem has)
  run_not_done (Err (Refused file told)) ends tells problem has = inl refl
  run_not_done (Err (ReadFault name)) ends tells problem has = inr (inl refl)
  run_not_done (Err (WriteFault name)) (inl fault) tells problem has = absurd (let run = fault.3 tells in no_problem _ run (has_main limit input old new _ run) problem has)
  run_not_done (Err (WriteFault name)) (inr fault) tells problem has = absurd (let run = (fault.2 tells).0.run in no_problem _ run (has_main limit input old new _ run) problem has)
  run_not_done (Err OutOfMemory) ends tells problem has = inr (inr refl)
  run_not_done (Err (Trapped trap)) ends tells problem has = absurd (let run = ends.1 tells in no_problem _ run (has_main limit input old new _ run) problem has)
  run_not_done (Err (StepLimit steps)) ends tells problem has = absurd (let run = ends.2 tells in no_problem _ run (has_main limit input old new _ run) problem has)
  run_not_done (Err Usage) ends tells problem has = absurd ends
  run_not_done (Err (No reason)) ends tells problem has = absurd ends

  -- ---- what the run comes to, and the ending

  no_read_fault : (name : List ℕ) → IsFileFault input old new name ⊎ IsInputFault limit input old new name
      → ¬ (Rose old.host.read_faults new.host.read_faults ⊎ Rose old.input.faults new.input.faults) → ⊥
  no_read_fault name (inl fault) reads = reads (inl fault.2)
  no_read_fault name (inr fault) reads = reads (inr fault.1)

  pub run_complete : (ending : Ending) → RunEnds limit input profile old new ending → IsTrue old.host.tells → IsTrue old.input.tells → Returns limit input old
      → ¬ (Rose old.host.read_faults new.host.read_faults ⊎ Rose old.input.faults new.input.faults)
      → ¬ (Rose old.host.write_faults new.host.write_faults ⊎ Rose old.out.faults new.out.faults) → (status_of ending ≡ 0) ⊎ (status_of ending ≡ 5)
  run_complete (Ok done) ends tells told to reads writes = inl refl
  run_complete (Err (Refused file problem)) ends tells told to reads writes = absurd (runs_without_problem _ to.2 problem (ends.3 tells))
  run_complete (Err (ReadFault name)) ends tells told to reads writes = absurd (no_read_fault name.now ends.1 reads)
  run_complete (Err (WriteFault name)) (inl fault) tells told to reads writes = absurd (writes (inr fault.2))
  run_complete (Err (WriteFault name)) (inr fault) tells told to reads writes = absurd (writes (inl fault.1))
  run_complete (Err OutOfMemory) ends tells told to reads writes = inr refl
  run_complete (Err (Trapped trap)) ends tells told to reads writes = absurd (comes _ _ (ends.1 tells) told to.2).1
  run_complete (Err (StepLimit steps)) ends tells told to reads writes = absurd (comes _ _ (ends.2 tells) told to.2).1
  run_complete (Err Usage) ends tells told to reads writes = absurd ends
  run_complete (Err (No reason)) ends tells told to reads writes = absurd ends

  pub run_traps : (ending : Ending) → RunEnds limit input profile old new ending → IsTrue old.host.tells → IsTrue old.input.tells → Traps limit input old
      → (status_of ending ≡ 7) ⊎ (status_of ending ≡ 3) ⊎ (status_of ending ≡ 4) ⊎ (status_of ending ≡ 5)
  run_traps (Ok Written) ends tells told to = absurd ends
  run_traps (Ok Checked) ends tells told to = absurd ends
  run_traps (Ok (Returned value)) ends tells told to = absurd (comes _ _ (ends tells).0.run told to.2).1
  run_traps (Err (Refused file problem)) ends tells told to = absurd (runs_without_problem _ to.2 problem (ends.3 tells))
  run_traps (Err (ReadFault name)) ends tells told to = inr (inl refl)
  run_traps (Err (WriteFault name)) ends tells told to = inr (inr (inl refl))
  run_traps (Err OutOfMemory) ends tells told to = inr (inr (inr refl))
  run_traps (Err (Trapped trap)) ends tells told to = inl refl
  run_traps (Err (StepLimit steps)) ends tells told to = absurd (comes _ _ (ends.2 tells) told to.2).1
  run_traps (Err Usage) ends tells told to = absurd ends
  run_traps (Err (No reason)) ends tells told to = absurd ends

  pub run_ends_nothing : (ending : Ending) → RunEnds limit input profile old new ending → IsTrue old.host.tells → IsTrue old.input.tells → EndsNothing limit input old
      → (status_of ending ≡ 8) ⊎ (status_of ending ≡ 3) ⊎ (status_of ending ≡ 4) ⊎ (status_of ending ≡ 5)
  run_ends_nothing (Ok Written) ends tells told to = absurd ends
  run_ends_nothing (Ok Checked) ends tells told to = absurd ends
  run_ends_nothing (Ok (Returned value)) ends tells told to = absurd (comes _ _ (ends tells).0.run told to.1).1
  run_ends_nothing (Err (Refused file problem)) ends tells told to = absurd (runs_without_problem _ to.1 problem (ends.3 tells))
  run_ends_nothing (Err (ReadFault name)) ends tells told to = inr (inl refl)
  run_ends_nothing (Err (WriteFault name)) ends tells told to = inr (inr (inl refl))
  run_ends_nothing (Err OutOfMemory) ends tells told to = inr (inr (inr refl))
  run_ends_nothing (Err (Trapped trap)) ends tells told to = absurd (comes _ _ (ends.1 tells) told to.1).1
  run_ends_nothing (Err (StepLimit steps)) ends tells told to = inl refl
  run_ends_nothing (Err Usage) ends tells told to = absurd ends
  run_ends_nothing (Err (No reason)) ends tells told to = absurd ends

  -- ---- what is taken and put

  read_moved : (name : List ℕ) → IsFileFault input old new name ⊎ IsInputFault limit input old new name → IsTrue old.host.tells → HasMoved limit input old new
  read_moved name (inl fault) tells = inl fault.1
  read_moved name (inr fault) tells = inr (_, fault.2 tells)

  pub run_moved : (ending : Ending) → RunEnds limit input profile old new ending → IsTrue old.host.tells → HasMoved limit input old new
  run_moved (Ok Written) ends tells = absurd ends
  run_moved (Ok Checked) ends tells = absurd ends
  run_moved (Ok (Returned value)) ends tells = inr (_, (ends tells).0.run)
  run_moved (Err (Refused file problem)) ends tells = inl ends.2
  run_moved (Err (ReadFault name)) ends tells = read_moved name.now ends.1 tells
  run_moved (Err (WriteFault name)) (inl fault) tells = inr (_, fault.3 tells)
  run_moved (Err (WriteFault name)) (inr fault) tells = inr (_, (fault.2 tells).0.run)
  run_moved (Err OutOfMemory) ends tells = (ends tells).0
  run_moved (Err (Trapped trap)) ends tells = inr (_, ends.1 tells)
  run_moved (Err (StepLimit steps)) ends tells = inr (_, ends.2 tells)
  run_moved (Err Usage) ends tells = absurd ends
  run_moved (Err (No reason)) ends tells = absurd ends

  read_still : (name : List ℕ) → IsFileFault input old new name ⊎ IsInputFault limit input old new name → ¬ (Rose old.input.faults new.input.faults) → AreStill old new
  read_still name (inl fault) calm = fault.1
  read_still name (inr fault) calm = absurd (calm fault.1)

  fault_still : (name : List ℕ) → IsFileFault input old new name ⊎ IsInputFault limit input old new name → IsTrue old.host.tells
      → (problem : Problem) → HasRunProblem old.host input problem → AreStill old new
  fault_still name (inl fault) tells problem has = fault.1
  fault_still name (inr fault) tells problem has = absurd (let run = fault.2 tells in no_problem _ run (has_main limit input old new _ run) problem has)

  moved_still : HasMoved limit input old new → (problem : Problem) → HasRunProblem old.host input problem → AreStill old new
  moved_still (inl still) problem has = still
  moved_still (inr (Ok runs.NoMain, run)) problem has = record { input = run.ran.cause.1; out = run.ran.cause.2 }
  moved_still (inr (Ok (runs.Returned value profile), run)) problem has = absurd (no_problem _ run (has_main limit input old new _ run) problem has)
  moved_still (inr (Ok (runs.Trapped trap), run)) problem has = absurd (no_problem _ run (has_main limit input old new _ run) problem has)
  moved_still (inr (Ok runs.StepLimit, run)) problem has = absurd (no_problem _ run (has_main limit input old new _ run) problem has)
  moved_still (inr (Ok runs.ReadFault, run)) problem has = absurd (no_problem _ run (has_main limit input old new _ run) problem has)
  moved_still (inr (Ok runs.WriteFault, run)) problem has = absurd (no_problem _ run (has_main limit input old new _ run) problem has)
  moved_still (inr (Err reason, run)) problem has = absurd (no_problem (Err reason) run run.ran.main problem has)

  not_four : (n : ℕ) → n ≡ 4 → (n ≡ 1) ⊎ (n ≡ 3) ⊎ (n ≡ 5) → ⊥
  not_four n four (inl e) = absurd (omega (arith, four, e))
  not_four n four (inr (inl e)) = absurd (omega (arith, four, e))
  not_four n four (inr (inr e)) = absurd (omega (arith, four, e))

  -- in the quiet cases, nothing
  pub run_still : (ending : Ending) → RunEnds limit input profile old new ending
      → (status_of ending ≡ 1) ⊎ ((status_of ending ≡ 3) × ¬ (Rose old.input.faults new.input.faults))
      ⊎ (IsTrue old.host.tells × ((problem : Problem) × HasRunProblem old.host input problem)) → AreStill old new
  run_still (Err (Refused file problem)) ends quiet = ends.2
  run_still (Err (ReadFault name)) ends (inl status) = absurd (omega (arith, status))
  run_still (Err (ReadFault name)) ends (inr (inl both)) = read_still name.now ends.1 both.1
  run_still (Err (ReadFault name)) ends (inr (inr has)) = fault_still name.now ends.1 has.0 has.1.0 has.1.1
  run_still (Err OutOfMemory) ends (inl status) = absurd (omega (arith, status))
  run_still (Err OutOfMemory) ends (inr (inl both)) = absurd (omega (arith, both.0))
  run_still (Err OutOfMemory) ends (inr (inr has)) = moved_still (ends has.0).0 has.1.0 has.1.1
  run_still (Ok Written) ends quiet = absurd ends
  run_still (Ok Checked) ends quiet = absurd ends
  run_still (Ok (Returned value)) ends (inl status) = absurd (omega (arith, status))
  run_still (Ok (Returned value)) ends (inr (inl both)) = absurd (omega (arith, both.0))
  run_still (Ok (Returned value)) ends (inr (inr has)) = absurd (let run = (ends has.0).0.run in no_problem _ run (has_main limit input old new _ run) has.1.0 has.1.1)
  run_still (Err (WriteFault name)) ends (inl status) = absurd (omega (arith, status))
  run_still (Err (WriteFault name)) ends (inr (inl both)) = absurd (omega (arith, both.0))
  run_still (Err (WriteFault name)) ends (inr (inr has)) = absurd (let h = run_not_done (Err (WriteFault name)) ends has.0 has.1.0 has.1.1 in not_four (status_of (Err (WriteFault name))) refl h)
  run_still (Err (Trapped trap)) ends (inl status) = absurd (omega (arith, status))
  run_still (Err (Trapped trap)) ends (inr (inl both)) = absurd (omega (arith, both.0))
  run_still (Err (Trapped trap)) ends (inr (inr has)) = absurd (let run = ends.1 has.0 in no_problem _ run (has_main limit input old new _ run) has.1.0 has.1.1)
  run_still (Err (StepLimit steps)) ends (inl status) = absurd (omega (arith, status))
  run_still (Err (StepLimit steps)) ends (inr (inl both)) = absurd (omega (arith, both.0))
  run_still (Err (StepLimit steps)) ends (inr (inr has)) = absurd (let run = ends.2 has.0 in no_problem _ run (has_main limit input old new _ run) has.1.0 has.1.1)
  run_still (Err Usage) ends quiet = absurd ends
  run_still (Err (No reason)) ends quiet = absurd ends
