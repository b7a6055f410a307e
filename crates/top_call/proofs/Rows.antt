-- What an ending of a row says.
use Rattle.std.proofs.Common.{◌≡◌, ◌<◌, ℕ, List, Option, None, Some, Ok, Err, IsTrue, ◌⊎◌, inl, inr, refl, sym, ap, subst, ◌∙◌, arith}
use Rattle.std.specs.Prelude.{◌↔◌, IsNone}
use Rattle.mc_num.specs.declared.op.Trap.{Trap}
use Rattle.mc_host.specs.Host.{HostState}
use Rattle.ir_types.specs.Program.{Program}
use Rattle.ir_types.specs.WellFormed.{IsWellFormed}
use Rattle.ir_reader.specs.Reading.{HasOneAnswer}
use Rattle.profile.specs.Reading as profile
use Rattle.call_lines.specs.declared.ending.Done.{Done}
use Rattle.call_lines.specs.declared.ending.Done.TheVariants.{Written, Checked, Returned}
use Rattle.call_lines.specs.declared.ending.Problem.{Problem}
use Rattle.call_lines.specs.declared.ending.Stop.{Stop}
use Rattle.call_lines.specs.declared.ending.Stop.TheVariants.{Usage, Refused, ReadFault, WriteFault, OutOfMemory, No, Trapped, StepLimit}
use Rattle.call_lines.specs.Ending.{Ending, status_of}
use Rattle.top_call.specs.Row.{Row, Print, Run, Opt, Check, Report, Itself}
use Rattle.top_call.specs.Report.{HasPutPart, IsReported, IsSummarised}
use Rattle.top_call.specs.World.{World}
use Rattle.top_call.specs.Top.{Ends, IsAccepted, IsRowDenied, IsTrapped, IsAtLimit, IsDone, IsPartlyDone, HasReadFault, HasWriteFault, IsQuiet, IsSilent, HasMoved, IsRefused, AreRead, IsTooLarge}
use Rattle.checker.specs.declared.verdict.Reason.{Reason}
use Rattle.top_call.proofs.CheckEndings.{OneCertificate, check_not_done, check_complete, check_deny}
use Rattle.top_call.proofs.Endings.{print_not_done, print_complete, print_grown}
use Rattle.top_call.proofs.OptEndings.{OneOptimised, opt_not_done, opt_complete, opt_grown}
use Rattle.top_call.proofs.ReportEndings.{report_not_done, report_complete, report_moved, report_silent, itself_not_done, itself_complete, itself_moved, itself_silent}
use Rattle.top_call.proofs.RunEndings.{run_not_done, run_complete, run_traps, run_ends_nothing, run_trapped, run_limited, run_moved, run_still}

-- the ending of a status

trapped_at : (ending : Ending) → status_of ending ≡ 7 → (trap : Trap) × (ending ≡ Err (Trapped trap))
trapped_at (Ok done) e = absurd (omega (arith, e))
trapped_at (Err Usage) e = absurd (omega (arith, e))
trapped_at (Err (No reason)) e = absurd (omega (arith, e))
trapped_at (Err (Refused file problem)) e = absurd (omega (arith, e))
trapped_at (Err (ReadFault name)) e = absurd (omega (arith, e))
trapped_at (Err (WriteFault name)) e = absurd (omega (arith, e))
trapped_at (Err OutOfMemory) e = absurd (omega (arith, e))
trapped_at (Err (Trapped trap)) e = (trap, refl)
trapped_at (Err (StepLimit steps)) e = absurd (omega (arith, e))

limited_at : (ending : Ending) → status_of ending ≡ 8 → (steps : ℕ) × (ending ≡ Err (StepLimit steps))
limited_at (Ok done) e = absurd (omega (arith, e))
limited_at (Err Usage) e = absurd (omega (arith, e))
limited_at (Err (No reason)) e = absurd (omega (arith, e))
limited_at (Err (Refused file problem)) e = absurd (omega (arith, e))
limited_at (Err (ReadFault name)) e = absurd (omega (arith, e))
limited_at (Err (WriteFault name)) e = absurd (omega (arith, e))
limited_at (Err OutOfMemory) e = absurd (omega (arith, e))
limited_at (Err (Trapped trap)) e = absurd (omega (arith, e))
limited_at (Err (StepLimit steps)) e = (steps, refl)

done_at : (ending : Ending) → status_of ending ≡ 0 → (done : Done) × (ending ≡ Ok done)
done_at (Ok done) e = (done, refl)
done_at (Err Usage) e = absurd (omega (arith, e))
done_at (Err (No reason)) e = absurd (omega (arith, e))
done_at (Err (Refused file problem)) e = absurd (omega (arith, e))
done_at (Err (ReadFault name)) e = absurd (omega (arith, e))
done_at (Err (WriteFault name)) e = absurd (omega (arith, e))
done_at (Err OutOfMemory) e = absurd (omega (arith, e))
done_at (Err (Trapped trap)) e = absurd (omega (arith, e))
done_at (Err (StepLimit steps)) e = absurd (omega (arith, e))

neither : (n : ℕ) → (n < 4) ⊎ (5 < n) → (n ≡ 4) ⊎ (n ≡ 5) → ⊥
neither n out (inl e) = absurd (grind (arith, out, e))
neither n out (inr e) = absurd (grind (arith, out, e))

module _ (one : (bytes : List ℕ) → HasOneAnswer bytes) (old new : World) (ending : Ending) where
  pub not_done : OneOptimised → OneCertificate → (one_profile : (m : Program) → IsWellFormed m → (bytes : List ℕ) → profile.HasOneAnswer m bytes) → (row : Option Row) → Ends row old new ending → IsTrue old.host.tells → IsRefused row old.host
      → (status_of ending ≡ 1) ⊎ (status_of ending ≡ 3) ⊎ (status_of ending ≡ 5)
  not_done once held one_profile None ends tells refused = absurd refused
  not_done once held one_profile (Some (Print input output)) ends tells refused = print_not_done one old.host input output new.host ending ends.0 tells refused.0 refused.1
  not_done once held one_profile (Some (Run limit input profile)) ends tells refused = run_not_done one limit input profile old new ending ends tells refused.0 refused.1
  not_done once held one_profile (Some (Opt files)) ends tells refused = opt_not_done one one_profile files old.host once new.host ending ends.0 tells refused
  not_done once held one_profile (Some (Check files)) ends tells refused = check_not_done one one_profile held files old.host new.host ending ends.0 tells refused
  not_done once held one_profile (Some (Report input counted_by)) ends tells refused =
      report_not_done one one_profile input counted_by old.host new.host old.out new.out ending ends.0 tells refused
  not_done once held one_profile (Some (Itself n)) ends tells refused = itself_not_done n old.out new.out once ending ends.0 refused

  pub complete : OneCertificate → (one_profile : (m : Program) → IsWellFormed m → (bytes : List ℕ) → profile.HasOneAnswer m bytes) → (row : Option Row) → Ends row old new ending → IsTrue old.host.tells → IsAccepted row old
      → ¬ (HasReadFault row old new) → ¬ (HasWriteFault row old new) → (status_of ending ≡ 0) ⊎ (status_of ending ≡ 5)
  complete held one_profile None ends tells accepted reads writes = absurd accepted
  complete held one_profile (Some (Print input output)) ends tells accepted reads writes =
      print_complete one old.host input output new.host ending ends.0 tells accepted.0 accepted.1 reads writes
  complete held one_profile (Some (Run limit input profile)) ends tells accepted reads writes =
      run_complete one limit input profile old new ending ends tells accepted.0 accepted.1 reads writes
  complete held one_profile (Some (Opt files)) ends tells accepted reads writes = opt_complete one one_profile files old.host new.host ending ends.0 tells accepted reads writes
  complete held one_profile (Some (Check files)) ends tells accepted reads writes = check_complete one one_profile held files old.host new.host ending ends.0 tells accepted reads
  complete held one_profile (Some (Report input counted_by)) ends tells accepted reads writes =
      report_complete one one_profile input counted_by old.host new.host old.out new.out ending ends.0 tells accepted.0 accepted.1 reads writes
  complete held one_profile (Some (Itself n)) ends tells accepted reads writes = itself_complete n old.out new.out ending ends.0 accepted writes

  pub grown : (one_profile : (m : Program) → IsWellFormed m → (bytes : List ℕ) → profile.HasOneAnswer m bytes) → (row : Option Row) → Ends row old new ending → IsTrue old.host.tells → AreRead row old
      → ¬ (HasReadFault row old new) → ¬ (HasWriteFault row old new) → (status_of ending ≡ 0) ⊎ (status_of ending ≡ 5) ⊎ ((status_of ending ≡ 1) × IsTooLarge row old)
  grown one_profile None ends tells read reads writes = absurd read
  grown one_profile (Some (Print input output)) ends tells read reads writes =
      print_grown one old.host input output new.host ending ends.0 tells read.0 read.1 reads writes
  grown one_profile (Some (Run limit input profile)) ends tells read reads writes = absurd read
  grown one_profile (Some (Opt files)) ends tells read reads writes =
      opt_grown one one_profile files old.host new.host ending ends.0 tells read.0 read.1 reads writes
  grown one_profile (Some (Check files)) ends tells read reads writes = absurd read
  grown one_profile (Some (Report input counted_by)) ends tells read reads writes = absurd read
  grown one_profile (Some (Itself n)) ends tells read reads writes = absurd read

  pub traps : (row : Option Row) → Ends row old new ending → IsTrue old.host.tells → IsTrue old.input.tells → IsTrapped row old
      → (status_of ending ≡ 7) ⊎ (status_of ending ≡ 3) ⊎ (status_of ending ≡ 4) ⊎ (status_of ending ≡ 5)
  traps None ends tells told trap = absurd trap
  traps (Some (Print input output)) ends tells told trap = absurd trap
  traps (Some (Opt files)) ends tells told trap = absurd trap
  traps (Some (Check files)) ends tells told trap = absurd trap
  traps (Some (Report input counted_by)) ends tells told trap = absurd trap
  traps (Some (Itself n)) ends tells told trap = absurd trap
  traps (Some (Run limit input profile)) ends tells told trap = run_traps one limit input profile old new ending ends tells told trap

  pub ends_nothing : (row : Option Row) → Ends row old new ending → IsTrue old.host.tells → IsTrue old.input.tells → IsAtLimit row old
      → (status_of ending ≡ 8) ⊎ (status_of ending ≡ 3) ⊎ (status_of ending ≡ 4) ⊎ (status_of ending ≡ 5)
  ends_nothing None ends tells told stands = absurd stands
  ends_nothing (Some (Print input output)) ends tells told stands = absurd stands
  ends_nothing (Some (Opt files)) ends tells told stands = absurd stands
  ends_nothing (Some (Check files)) ends tells told stands = absurd stands
  ends_nothing (Some (Report input counted_by)) ends tells told stands = absurd stands
  ends_nothing (Some (Itself n)) ends tells told stands = absurd stands
  ends_nothing (Some (Run limit input profile)) ends tells told stands = run_ends_nothing one limit input profile old new ending ends tells told stands

  pub moved : (one_profile : (m : Program) → IsWellFormed m → (bytes : List ℕ) → profile.HasOneAnswer m bytes) → (row : Option Row) → Ends row old new ending → IsTrue old.host.tells → HasMoved row old new
  moved one_profile None ends tells = record { input = ap (λ (w : World). w.input) ends.1; out = ap (λ (w : World). w.out) ends.1 }
  moved one_profile (Some (Print input output)) ends tells = ends.1
  moved one_profile (Some (Opt files)) ends tells = ends.1
  moved one_profile (Some (Check files)) ends tells = ends.1
  moved one_profile (Some (Report input counted_by)) ends tells = by (report_moved one one_profile input counted_by old.host new.host old.out new.out ending ends.0 tells)
    where
      by : (new.out ≡ old.out) ⊎ ((text : List ℕ) × IsReported input counted_by old.host text × HasPutPart text old.out new.out) → HasMoved (Some (Report input counted_by)) old new
      by (inl still) = inl (record { input = ends.1; out = still })
      by (inr put) = inr (ends.1, put)
  moved one_profile (Some (Itself n)) ends tells = by (itself_moved n old.out new.out ending ends.0)
    where
      by : (new.out ≡ old.out) ⊎ ((text : List ℕ) × IsSummarised n text × HasPutPart text old.out new.out) → HasMoved (Some (Itself n)) old new
      by (inl still) = inl (record { input = ends.1; out = still })
      by (inr put) = inr (ends.1, put)
  moved one_profile (Some (Run limit input profile)) ends tells = run_moved one limit input profile old new ending ends tells

  run_by : (limit : ℕ) (input : List ℕ) (profile : Option (List ℕ)) (status : ℕ) → status ≡ status_of ending
      → IsQuiet (Some (Run limit input profile)) old new status → IsQuiet (Some (Run limit input profile)) old new (status_of ending)
  run_by limit input profile status is (inl e) = inl (sym is ∙ e)
  run_by limit input profile status is (inr (inl both)) = inr (inl (sym is ∙ both.0, both.1))
  run_by limit input profile status is (inr (inr both)) = inr (inr both)

  -- nothing was taken
  pub untaken : (row : Option Row) → Ends row old new ending → (status : ℕ) → status ≡ status_of ending → IsQuiet row old new status → new.input ≡ old.input
  untaken None ends status is quiet = ap (λ (w : World). w.input) ends.1
  untaken (Some (Print input output)) ends status is quiet = ends.1.input
  untaken (Some (Opt files)) ends status is quiet = ends.1.input
  untaken (Some (Check files)) ends status is quiet = ends.1.input
  untaken (Some (Report input counted_by)) ends status is quiet = ends.1
  untaken (Some (Itself n)) ends status is quiet = ends.1
  untaken (Some (Run limit input profile)) ends status is quiet =
      (run_still one limit input profile old new ending ends (run_by limit input profile status is quiet)).input

  status_by : (status : ℕ) → status ≡ status_of ending → (status ≡ 1) ⊎ (status ≡ 3) ⊎ (status ≡ 5)
      → (status_of ending ≡ 1) ⊎ (status_of ending ≡ 3) ⊎ (status_of ending ≡ 5)
  status_by status is (inl e) = inl (sym is ∙ e)
  status_by status is (inr (inl e)) = inr (inl (sym is ∙ e))
  status_by status is (inr (inr e)) = inr (inr (sym is ∙ e))

  -- nothing was put
  pub silent : (row : Option Row) → Ends row old new ending → (status : ℕ) → status ≡ status_of ending → IsSilent row old new status → new.out ≡ old.out
  silent None ends status is quiet = ap (λ (w : World). w.out) ends.1
  silent (Some (Print input output)) ends status is quiet = ends.1.out
  silent (Some (Opt files)) ends status is quiet = ends.1.out
  silent (Some (Check files)) ends status is quiet = ends.1.out
  silent (Some (Report input counted_by)) ends status is quiet =
      report_silent input counted_by old.host new.host old.out new.out ending ends.0 (status_by status is quiet)
  silent (Some (Itself n)) ends status is quiet = itself_silent n old.out new.out ending ends.0 (status_by status is quiet)
  silent (Some (Run limit input profile)) ends status is quiet =
      (run_still one limit input profile old new ending ends (run_by limit input profile status is quiet)).out

-- ---- the cause of a status

module _ (old new : World) where
  trapped_so : (row : Option Row) (trap : Trap) → Ends row old new (Err (Trapped trap)) → IsTrue old.host.tells → IsTrue old.input.tells → IsTrapped row old
  trapped_so None trap ends tells told = absurd (let e = ap status_of ends.0 in omega (arith, e))
  trapped_so (Some (Print input output)) trap ends tells told = absurd ends.0
  trapped_so (Some (Opt files)) trap ends tells told = absurd ends.0
  trapped_so (Some (Check files)) trap ends tells told = absurd ends.0
  trapped_so (Some (Report input counted_by)) trap ends tells told = absurd ends.0
  trapped_so (Some (Itself n)) trap ends tells told = absurd ends.0
  trapped_so (Some (Run limit input profile)) trap ends tells told = run_trapped limit input profile old new trap ends tells told

  limited_so : (row : Option Row) (steps : ℕ) → Ends row old new (Err (StepLimit steps)) → IsTrue old.host.tells → IsTrue old.input.tells → IsAtLimit row old
  limited_so None steps ends tells told = absurd (let e = ap status_of ends.0 in omega (arith, e))
  limited_so (Some (Print input output)) steps ends tells told = absurd ends.0
  limited_so (Some (Opt files)) steps ends tells told = absurd ends.0
  limited_so (Some (Check files)) steps ends tells told = absurd ends.0
  limited_so (Some (Report input counted_by)) steps ends tells told = absurd ends.0
  limited_so (Some (Itself n)) steps ends tells told = absurd ends.0
  limited_so (Some (Run limit input profile)) steps ends tells told = run_limited limit input profile old new steps ends tells told

  done_so : (row : Option Row) (done : Done) → Ends row old new (Ok done) → IsTrue old.host.tells → IsDone row old new
  done_so None done ends tells = absurd (let e = ap status_of ends.0 in omega (arith, e))
  done_so (Some (Print input output)) Written ends tells = ends.0 tells
  done_so (Some (Print input output)) (Returned value) ends tells = absurd ends.0
  done_so (Some (Print input output)) Checked ends tells = absurd ends.0
  done_so (Some (Run limit input profile)) Written ends tells = absurd ends
  done_so (Some (Run limit input profile)) Checked ends tells = absurd ends
  done_so (Some (Run limit input profile)) (Returned value) ends tells = (value, ends tells)
  done_so (Some (Opt files)) Written ends tells = ends.0 tells
  done_so (Some (Opt files)) (Returned value) ends tells = absurd ends.0
  done_so (Some (Opt files)) Checked ends tells = absurd ends.0
  done_so (Some (Check files)) Checked ends tells = (ends.0.1 tells, ends.0.0)
  done_so (Some (Check files)) Written ends tells = absurd ends.0
  done_so (Some (Check files)) (Returned value) ends tells = absurd ends.0
  done_so (Some (Report input counted_by)) Written ends tells = (ends.0.0, ends.0.1 tells)
  done_so (Some (Report input counted_by)) Checked ends tells = absurd ends.0
  done_so (Some (Report input counted_by)) (Returned value) ends tells = absurd ends.0
  done_so (Some (Itself n)) Written ends tells = (ends.2, ends.0)
  done_so (Some (Itself n)) Checked ends tells = absurd ends.0
  done_so (Some (Itself n)) (Returned value) ends tells = absurd ends.0

  -- a write failed, or memory ran out
  unwritten_so : (row : Option Row) (name : _) → Ends row old new (Err (WriteFault name)) → IsTrue old.host.tells → IsPartlyDone row old new
  unwritten_so None name ends tells = absurd (let e = ap status_of ends.0 in omega (arith, e))
  unwritten_so (Some (Print input output)) name ends tells = inr (ends.0.2 tells)
  unwritten_so (Some (Run limit input profile)) name (inl fault) tells = inl fault.1
  unwritten_so (Some (Run limit input profile)) name (inr fault) tells = inr (name.now, (fault.2 tells).0, fault.0, (fault.2 tells).1)
  unwritten_so (Some (Opt files)) name ((rose, inl fault), still) tells = let made = fault.2 tells in inr (made.0, made.1, inl (made.2, fault.1))
  unwritten_so (Some (Opt files)) name ((rose, inr fault), still) tells = let made = fault.1 tells in inr (made.0, made.1, inr (made.2, made.3))
  unwritten_so (Some (Check files)) name ends tells = absurd ends.0
  unwritten_so (Some (Report input counted_by)) name ends tells = ends.0.0
  unwritten_so (Some (Itself n)) name ends tells = ap (λ (host : HostState). host.file) ends.2

  memory_so : (row : Option Row) → Ends row old new (Err OutOfMemory) → IsTrue old.host.tells → IsPartlyDone row old new
  memory_so None ends tells = absurd (let e = ap status_of ends.0 in omega (arith, e))
  memory_so (Some (Print input output)) ends tells = ends.0 tells
  memory_so (Some (Run limit input profile)) ends tells = (ends tells).1
  memory_so (Some (Opt files)) ends tells = ends.0 tells
  memory_so (Some (Check files)) ends tells = ends.0
  memory_so (Some (Report input counted_by)) ends tells = ends.0.0
  memory_so (Some (Itself n)) ends tells = ap (λ (host : HostState). host.file) ends.2

  pub trapped : (row : Option Row) (ending : Ending) → Ends row old new ending → (status : ℕ) → status ≡ status_of ending → IsTrue old.host.tells → IsTrue old.input.tells → status ≡ 7 → IsTrapped row old
  trapped row ending ends status is tells told seven =
      let at = trapped_at ending (sym is ∙ seven) in
      let P : Ending → Type 0 = λ ending. Ends row old new ending in
      trapped_so row at.0 (subst P at.1 ends) tells told

  pub limited : (row : Option Row) (ending : Ending) → Ends row old new ending → (status : ℕ) → status ≡ status_of ending → IsTrue old.host.tells → IsTrue old.input.tells → status ≡ 8 → IsAtLimit row old
  limited row ending ends status is tells told eight =
      let at = limited_at ending (sym is ∙ eight) in
      let P : Ending → Type 0 = λ ending. Ends row old new ending in
      limited_so row at.0 (subst P at.1 ends) tells told

  pub done : (row : Option Row) (ending : Ending) → Ends row old new ending → (status : ℕ) → status ≡ status_of ending → IsTrue old.host.tells → status ≡ 0 → IsDone row old new
  done row ending ends status is tells zero =
      let at = done_at ending (sym is ∙ zero) in
      let P : Ending → Type 0 = λ ending. Ends row old new ending in
      done_so row at.0 (subst P at.1 ends) tells

  cut : (row : Option Row) (ending : Ending) → Ends row old new ending → IsTrue old.host.tells → (status_of ending ≡ 4) ⊎ (status_of ending ≡ 5) → IsPartlyDone row old new
  cut row (Err (WriteFault name)) ends tells status = unwritten_so row name ends tells
  cut row (Err OutOfMemory) ends tells status = memory_so row ends tells
  cut row (Ok done) ends tells status = absurd (neither 0 (inl (omega arith)) status)
  cut row (Err Usage) ends tells status = absurd (neither 2 (inl (omega arith)) status)
  cut row (Err (No reason)) ends tells status = absurd (neither 6 (inr (omega arith)) status)
  cut row (Err (Refused file problem)) ends tells status = absurd (neither 1 (inl (omega arith)) status)
  cut row (Err (ReadFault name)) ends tells status = absurd (neither 3 (inl (omega arith)) status)
  cut row (Err (Trapped trap)) ends tells status = absurd (neither 7 (inr (omega arith)) status)
  cut row (Err (StepLimit steps)) ends tells status = absurd (neither 8 (inr (omega arith)) status)

  pub partly : (row : Option Row) (ending : Ending) → Ends row old new ending → (status : ℕ) → status ≡ status_of ending → IsTrue old.host.tells → (status ≡ 4) ⊎ (status ≡ 5) → IsPartlyDone row old new
  partly row ending ends status is tells (inl four) = cut row ending ends tells (inl (sym is ∙ four))
  partly row ending ends status is tells (inr five) = cut row ending ends tells (inr (sym is ∙ five))

  -- the file that is refused has the problem that is told
  refused_so : (row : Option Row) (file : _) (problem : Problem) → Ends row old new (Err (Refused file problem)) → IsTrue old.host.tells → IsRefused row old.host
  refused_so None file problem ends tells = absurd (let e = ap status_of ends.0 in omega (arith, e))
  refused_so (Some (Print input output)) file problem ends tells = (problem, ends.0.2 tells)
  refused_so (Some (Run limit input profile)) file problem ends tells = (problem, ends.3 tells)
  refused_so (Some (Opt files)) file problem ends tells = (problem, (ends.0.2 tells).0)
  refused_so (Some (Check files)) file problem ends tells = (problem, (ends.0.2 tells).0)
  refused_so (Some (Report input counted_by)) file problem ends tells = (problem, (ends.0.0.3 tells).0)
  refused_so (Some (Itself n)) file problem ends tells = ends.0.3

  told_so : (row : Option Row) (ending : Ending) → Ends row old new ending → IsTrue old.host.tells → status_of ending ≡ 1 → IsRefused row old.host
  told_so row (Err (Refused file problem)) ends tells e = refused_so row file problem ends tells
  told_so row (Ok done) ends tells e = absurd (omega (arith, e))
  told_so row (Err Usage) ends tells e = absurd (omega (arith, e))
  told_so row (Err (ReadFault name)) ends tells e = absurd (omega (arith, e))
  told_so row (Err (WriteFault name)) ends tells e = absurd (omega (arith, e))
  told_so row (Err OutOfMemory) ends tells e = absurd (omega (arith, e))
  told_so row (Err (No reason)) ends tells e = absurd (omega (arith, e))
  told_so row (Err (Trapped trap)) ends tells e = absurd (omega (arith, e))
  told_so row (Err (StepLimit steps)) ends tells e = absurd (omega (arith, e))

  pub refused : (row : Option Row) (ending : Ending) → Ends row old new ending → (status : ℕ) → status ≡ status_of ending → IsTrue old.host.tells → status ≡ 1 → IsRefused row old.host
  refused row ending ends status is tells one = told_so row ending ends tells (sym is ∙ one)

  -- what stopped before anything was written changed no file
  kept_so : (row : Option Row) (stop : Stop) → Ends row old new (Err stop) → ¬ ((status_of (Err stop) ≡ 4) ⊎ (status_of (Err stop) ≡ 5)) → new.host.file ≡ old.host.file
  kept_so None stop ends not = ap (λ (w : World). w.host.file) ends.1
  kept_so (Some (Itself n)) stop ends not = ap (λ (host : HostState). host.file) ends.2
  kept_so (Some (Print input output)) Usage ends not = absurd ends.0
  kept_so (Some (Print input output)) (Refused file problem) ends not = ends.0.1
  kept_so (Some (Print input output)) (ReadFault name) ends not = ends.0.1
  kept_so (Some (Print input output)) (No reason) ends not = absurd ends.0
  kept_so (Some (Print input output)) (Trapped trap) ends not = absurd ends.0
  kept_so (Some (Print input output)) (StepLimit steps) ends not = absurd ends.0
  kept_so (Some (Print input output)) (WriteFault name) ends not = absurd (not (inl refl))
  kept_so (Some (Print input output)) OutOfMemory ends not = absurd (not (inr refl))
  kept_so (Some (Run limit input profile)) Usage ends not = absurd ends
  kept_so (Some (Run limit input profile)) (Refused file problem) ends not = ends.1
  kept_so (Some (Run limit input profile)) (ReadFault name) ends not = ends.0
  kept_so (Some (Run limit input profile)) (No reason) ends not = absurd ends
  kept_so (Some (Run limit input profile)) (Trapped trap) ends not = ends.0
  kept_so (Some (Run limit input profile)) (StepLimit steps) ends not = ends.1
  kept_so (Some (Run limit input profile)) (WriteFault name) ends not = absurd (not (inl refl))
  kept_so (Some (Run limit input profile)) OutOfMemory ends not = absurd (not (inr refl))
  kept_so (Some (Opt files)) Usage ends not = absurd ends.0
  kept_so (Some (Opt files)) (Refused file problem) ends not = ends.0.1
  kept_so (Some (Opt files)) (ReadFault name) ends not = ends.0.0
  kept_so (Some (Opt files)) (No reason) ends not = absurd ends.0
  kept_so (Some (Opt files)) (Trapped trap) ends not = absurd ends.0
  kept_so (Some (Opt files)) (StepLimit steps) ends not = absurd ends.0
  kept_so (Some (Opt files)) (WriteFault name) ends not = absurd (not (inl refl))
  kept_so (Some (Opt files)) OutOfMemory ends not = absurd (not (inr refl))
  kept_so (Some (Check files)) Usage ends not = absurd ends.0
  kept_so (Some (Check files)) (Refused file problem) ends not = ends.0.1
  kept_so (Some (Check files)) (ReadFault name) ends not = ends.0.0
  kept_so (Some (Check files)) (No reason) ends not = ends.0.0
  kept_so (Some (Check files)) (Trapped trap) ends not = absurd ends.0
  kept_so (Some (Check files)) (StepLimit steps) ends not = absurd ends.0
  kept_so (Some (Check files)) (WriteFault name) ends not = absurd (not (inl refl))
  kept_so (Some (Check files)) OutOfMemory ends not = absurd (not (inr refl))
  kept_so (Some (Report input counted_by)) Usage ends not = absurd ends.0
  kept_so (Some (Report input counted_by)) (Refused file problem) ends not = ends.0.0.2
  kept_so (Some (Report input counted_by)) (ReadFault name) ends not = ends.0.0.0
  kept_so (Some (Report input counted_by)) (No reason) ends not = absurd ends.0
  kept_so (Some (Report input counted_by)) (Trapped trap) ends not = absurd ends.0
  kept_so (Some (Report input counted_by)) (StepLimit steps) ends not = absurd ends.0
  kept_so (Some (Report input counted_by)) (WriteFault name) ends not = absurd (not (inl refl))
  kept_so (Some (Report input counted_by)) OutOfMemory ends not = absurd (not (inr refl))

  before_writing : (n : ℕ) → (n ≡ 1) ⊎ (n ≡ 2) ⊎ (n ≡ 3) ⊎ (n ≡ 6) ⊎ (n ≡ 7) ⊎ (n ≡ 8) → ¬ ((n ≡ 4) ⊎ (n ≡ 5))
  before_writing n is (inl four) = absurd (grind (arith, is, four))
  before_writing n is (inr five) = absurd (grind (arith, is, five))

  not_done_yet : (n : ℕ) → (n ≡ 1) ⊎ (n ≡ 2) ⊎ (n ≡ 3) ⊎ (n ≡ 6) ⊎ (n ≡ 7) ⊎ (n ≡ 8) → ¬ (n ≡ 0)
  not_done_yet n is zero = absurd (grind (arith, is, zero))

  pub untouched : (row : Option Row) (ending : Ending) → Ends row old new ending → (status : ℕ) → status ≡ status_of ending
      → (status ≡ 1) ⊎ (status ≡ 2) ⊎ (status ≡ 3) ⊎ (status ≡ 6) ⊎ (status ≡ 7) ⊎ (status ≡ 8) → new.host.file ≡ old.host.file
  untouched row (Ok done) ends status is told = absurd (not_done_yet status told is)
  untouched row (Err stop) ends status is told =
      let Before : ℕ → Type 0 = λ n. ¬ ((n ≡ 4) ⊎ (n ≡ 5)) in
      kept_so row stop ends (subst Before is (before_writing status told))

  -- the checker's no
  pub deny : (one : (bytes : List ℕ) → HasOneAnswer bytes) → OneCertificate → (one_profile : (m : Program) → IsWellFormed m → (bytes : List ℕ) → profile.HasOneAnswer m bytes) → (row : Option Row) (ending : Ending) → Ends row old new ending
      → IsTrue old.host.tells → IsRowDenied row old.host → (status_of ending ≡ 6) ⊎ (status_of ending ≡ 3) ⊎ (status_of ending ≡ 5)
  deny one held one_profile None ending ends tells denied = absurd denied
  deny one held one_profile (Some (Print input output)) ending ends tells denied = absurd denied
  deny one held one_profile (Some (Run limit input profile)) ending ends tells denied = absurd denied
  deny one held one_profile (Some (Opt files)) ending ends tells denied = absurd denied
  deny one held one_profile (Some (Report input counted_by)) ending ends tells denied = absurd denied
  deny one held one_profile (Some (Itself n)) ending ends tells denied = absurd denied
  deny one held one_profile (Some (Check files)) ending ends tells denied = check_deny one one_profile held files old.host new.host ending ends.0 tells denied

  no_at : (ending : Ending) → status_of ending ≡ 6 → (reason : Reason) × (ending ≡ Err (No reason))
  no_at (Err (No reason)) e = (reason, refl)
  no_at (Ok done) e = absurd (omega (arith, e))
  no_at (Err Usage) e = absurd (omega (arith, e))
  no_at (Err (Refused file problem)) e = absurd (omega (arith, e))
  no_at (Err (ReadFault name)) e = absurd (omega (arith, e))
  no_at (Err (WriteFault name)) e = absurd (omega (arith, e))
  no_at (Err OutOfMemory) e = absurd (omega (arith, e))
  no_at (Err (Trapped trap)) e = absurd (omega (arith, e))
  no_at (Err (StepLimit steps)) e = absurd (omega (arith, e))

  denied_so : (row : Option Row) (reason : Reason) → Ends row old new (Err (No reason)) → IsTrue old.host.tells → IsRowDenied row old.host
  denied_so None reason ends tells = absurd (let e = ap status_of ends.0 in omega (arith, e))
  denied_so (Some (Print input output)) reason ends tells = absurd ends.0
  denied_so (Some (Run limit input profile)) reason ends tells = absurd ends
  denied_so (Some (Opt files)) reason ends tells = absurd ends.0
  denied_so (Some (Report input counted_by)) reason ends tells = absurd ends.0
  denied_so (Some (Itself n)) reason ends tells = absurd ends.0
  denied_so (Some (Check files)) reason ends tells = (ends.0.1 tells).denied

  pub denied : (row : Option Row) (ending : Ending) → Ends row old new ending → (status : ℕ) → status ≡ status_of ending → IsTrue old.host.tells → status ≡ 6 → IsRowDenied row old.host
  denied row ending ends status is tells six =
      let at = no_at ending (sym is ∙ six) in
      let P : Ending → Type 0 = λ ending. Ends row old new ending in
      denied_so row at.0 (subst P at.1 ends) tells

  -- usage is told just where there is no row
  usage_at : (ending : Ending) → status_of ending ≡ 2 → ending ≡ Err Usage
  usage_at (Err Usage) e = refl
  usage_at (Ok done) e = absurd (omega (arith, e))
  usage_at (Err (No reason)) e = absurd (omega (arith, e))
  usage_at (Err (Refused file problem)) e = absurd (omega (arith, e))
  usage_at (Err (ReadFault name)) e = absurd (omega (arith, e))
  usage_at (Err (WriteFault name)) e = absurd (omega (arith, e))
  usage_at (Err OutOfMemory) e = absurd (omega (arith, e))
  usage_at (Err (Trapped trap)) e = absurd (omega (arith, e))
  usage_at (Err (StepLimit steps)) e = absurd (omega (arith, e))

  never_usage : (row : Row) → Ends (Some row) old new (Err Usage) → ⊥
  never_usage (Print input output) ends = ends.0
  never_usage (Run limit input profile) ends = ends
  never_usage (Opt files) ends = ends.0
  never_usage (Check files) ends = ends.0
  never_usage (Report input counted_by) ends = ends.0
  never_usage (Itself n) ends = ends.0

  some_none : (row : Row) → IsNone (Some row) → ⊥
  some_none row e = cc

  pub usage : (row : Option Row) (ending : Ending) → Ends row old new ending → (status : ℕ) → status ≡ status_of ending → (status ≡ 2) ↔ IsNone row
  usage None ending ends status is = ((λ two. refl), (λ none. is ∙ ap status_of ends.0))
  usage (Some row) ending ends status is =
      let P : Ending → Type 0 = λ ending. Ends (Some row) old new ending in
      ((λ two. absurd (never_usage row (subst P (usage_at ending (sym is ∙ two)) ends))), (λ none. absurd (some_none row none)))
