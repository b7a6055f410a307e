-- What a run has done when it stops.
use Rattle.std.proofs.Common.{◌≡◌, ◌⊎◌, inl, inr, ⊎_elim, ℕ, ◌+◌, ◌-◌, ◌^◌, ◌<◌, ◌≤◌, true, List, [], ◌∷◌, ◌++◌, length, map, Option, Some, refl, sym, ap, ◌∙◌, subst, arith, append_assoc}
use Rattle.std.specs.Prelude.{IsTrue, IsSome, Result, Ok, Err, is_some, slice_get, option_map}
use Rattle.std.proofs.lemmas.Bool.{cases_lt}
use Rattle.mc_num.specs.declared.memory.NoMemory.{NoMemory}
use Rattle.mc_num.specs.declared.op.Trap.{Trap}
use Rattle.mc_host.specs.declared.faults.Failed.{Failed}
use Rattle.mc_host.specs.Faults.{Rose, last_count}
use Rattle.mc_host.specs.Streams.{SourceState, SinkState, Draws, Puts}
use Rattle.ir_types.specs.Program.{Program}
use Rattle.ir_types.specs.WellFormed.{IsWellFormed}
use Rattle.ir_types.specs.declared.syntax.Function.{Function}
use Rattle.machines.specs.declared.events.Event.{Event}
use Rattle.machines.specs.declared.events.Event.TheVariants.{Wants, Shows, Returned, Trapped}
use Rattle.machines.specs.Runs.{Exchange, ShowedByte, Progress, At, Over, after}
use Rattle.machines.specs.Events.{events_of}
use Rattle.machines.specs.Acts.{turn}
use Rattle.machines.specs.Meaning.{State, End, ByReturn, ByTrap, machine_of, effect_of, followed}
use Rattle.machines.proofs.Lockstep.{after-add, after_over}
use Rattle.ir_machine.specs.declared.frame.Frame.{Frame}
use Rattle.ir_machine.specs.Step.{Globals, frames_of}
use Rattle.ir_machine.specs.Same.{start, is_defined}
use Rattle.ir_machine.specs.Prof.{counts_of}
use Rattle.ir_machine.specs.Code.{MachineState}
use Rattle.profile.specs.declared.counts.FnCounts.{FnCounts}
use Rattle.profile.specs.Counts.{IsAccepted}
use Rattle.run_counts.specs.Counted.{run_after, fn_counts, counts_after}
use Rattle.run_counts.proofs.Runs.{over_events}
use Rattle.run_counts.proofs.Walked.{walk_ends}
use Rattle.run_counts.proofs.Accepted.{accepted}
use Rattle.interp.specs.Main.{main_of, run_of, prof_of}
use Rattle.interp.specs.Run.{bytes_taken, bytes_shown, transcript_of, NextIs, EndsWith, EndsAs, HasCause, StandsFor, HasPut, CameTo, Ran}
use Rattle.interp.specs.Follows.{Follows, Stays, ended_by}
use Rattle.interp.specs.declared.tally.Tally.{Tally}
use Rattle.interp.specs.declared.ends.RunEnd.{RunEnd}
use Rattle.interp.specs.declared.ends.RunEnd.TheVariants as end
use Rattle.interp.specs.declared.ends.Stop.{Stop}
use Rattle.interp.specs.declared.ends.Stop.TheVariants as stop
use Rattle.interp.proofs.Going.{Going, Stepped, events_of-add, event_is, run_on, events_on, on_shows, shown_more, taken_same, told_sink}

-- a count that rose in the last call has risen since before
rose_since : (first before now : ℕ) → first ≤ before → before ≤ now → Rose before now → Rose first now
rose_since first before now le le' rose =
    ⊎_elim
    (λ lt. inl (omega arith))
    (λ last. ⊎_elim (λ lt. inl (omega arith)) (λ at_least. inr (omega arith)) (cases_lt first last_count))
    rose

module _ (m : Program) (main : ℕ) (f : Function) (is_main : main_of m ≡ Some (main, f)) where
  pub run_is : (input : List ℕ) (n : ℕ) → run_of m input n ≡ Some (run_after m main f input n)
  run_is input n = ap (option_map (λ (main : ℕ × Function). run_after m main.0 main.1 input n)) is_main

  prof_is : (input : List ℕ) (n : ℕ) → prof_of m input n ≡ Some (counts_after m main f input n)
  prof_is input n = ap (option_map (λ (main : ℕ × Function). counts_after m main.0 main.1 input n)) is_main

  pub has_main : IsSome (main_of m)
  has_main = ap is_some is_main

  -- a run that is over stays over, with the same events
  stays_over : (input : List ℕ) (k limit : ℕ) (by : End) (w : List Exchange) → k ≤ limit → run_after m main f input k ≡ Over by w → (run_after m main f input limit ≡ Over by w) × (events_of (frames_of m) limit (At (start m main f [] input)) ≡ events_of (frames_of m) k (At (start m main f [] input)))
  stays_over input k limit by w le over =
      let frames = frames_of m in
      let M = machine_of frames in
      let p : Progress (State Frame Globals) End = At (start m main f [] input) in
      let e : k + (limit - k) ≡ limit = omega (arith, le) in
      let a = ap (λ n. after M n p) (sym e) ∙ after-add M k (limit - k) p ∙ ap (after M (limit - k)) over ∙ after_over M (limit - k) by w in
      let b = ap (λ n. events_of frames n p) (sym e) ∙ events_of-add frames k (limit - k) p ∙ ap (λ q. events_of frames k p ++ events_of frames (limit - k) q) over ∙ ap (λ l. events_of frames k p ++ l) (over_events frames (limit - k) by w) ∙ append-nil (events_of frames k p) in
      (a, b) where
        append-nil : (xs : List Event) → xs ++ [] ≡ xs
        append-nil [] = refl
        append-nil (x ∷ xs) = ap (λ l. x ∷ l) (append-nil xs)

  -- the answer at the limit
  ends_as : (input : List ℕ) (limit : ℕ) (answer : RunEnd) (p : Progress (State Frame Globals) End) (counts : List FnCounts) → run_after m main f input limit ≡ p → counts_after m main f input limit ≡ counts → EndsWith (Some p) (Some counts) answer → EndsAs m input limit answer
  ends_as input limit answer p counts run prof ends =
      subst (λ r. EndsWith r (prof_of m input limit) answer) (sym (run_is input limit ∙ ap Some run))
      (subst (λ c. EndsWith (Some p) c answer) (sym (prof_is input limit ∙ ap Some prof)) ends)

  came : (limit n : ℕ) (answer : Result RunEnd NoMemory) (source source' : SourceState) (sink sink' : SinkState) (w : List Exchange) → n ≤ limit → StandsFor m source.left limit n answer → transcript_of (run_of m source.left n) ≡ w → source.left ≡ bytes_taken w ++ source'.left → (IsTrue sink.tells → HasPut answer (bytes_shown w) sink.written sink'.written) → CameTo m limit source source' sink sink' answer
  came limit n answer source source' sink sink' w le stands is taken put = record {
    steps = n;
    within = le;
    stands = stands;
    taken = taken ∙ ap (λ v. bytes_taken v ++ source'.left) (sym is);
    put = λ told. subst (λ v. HasPut answer (bytes_shown v) sink.written sink'.written) (sym is) (put told);
  }

  transcript_is : (input : List ℕ) (n : ℕ) (p : Progress (State Frame Globals) End) → run_after m main f input n ≡ p → transcript_of (run_of m input n) ≡ transcript_of (Some p)
  transcript_is input n p e = ap transcript_of (run_is input n ∙ ap Some e)

  -- ---- want of memory

  -- before the first step
  pub ran_nothing : (limit : ℕ) (source : SourceState) (sink : SinkState) (reason : NoMemory) → Ran m limit source source sink sink (Err reason)
  ran_nothing limit source sink reason = record {
    cause = tt;
    main = has_main;
    ends = λ tells. tt;
    so_far = λ tells. came limit 0 (Err reason) source source sink sink [] (omega arith) tt (transcript_is source.left 0 _ refl) refl (λ told. sym (append-nil sink.written));
    source_faults = omega arith;
    source_tells = refl;
    sink_faults = omega arith;
    sink_tells = refl;
  } where
    append-nil : (xs : List ℕ) → xs ++ [] ≡ xs
    append-nil [] = refl
    append-nil (x ∷ xs) = ap (λ l. x ∷ l) (append-nil xs)

  module _ (rules : IsWellFormed m) (limit steps : ℕ) (machine : MachineState) (tally : Tally) (source0 source : SourceState) (sink0 sink : SinkState) (going : Going m rules main f steps machine tally source0 source sink0 sink) where
    pub ran_short : steps ≤ limit → (reason : NoMemory) → Ran m limit source0 source sink0 sink (Err reason)
    ran_short le reason = record {
      cause = tt;
      main = has_main;
      ends = λ tells. tt;
      so_far = λ tells.
          let s = going.stands tells in
          came limit steps (Err reason) source0 source sink0 sink s.transcript le tt (transcript_is source0.left steps _ s.at) s.taken_are s.put;
      source_faults = going.source_faults;
      source_tells = going.source_tells;
      sink_faults = going.sink_faults;
      sink_tells = going.sink_tells;
    }

    pub ran_on : steps ≡ limit → Ran m limit source0 source sink0 sink (Ok end.StepLimit)
    ran_on is = record {
      cause = has_main;
      main = tt;
      ends = λ tells.
          let s = going.stands tells in
          ends_as source0.left limit end.StepLimit _ _ (ap (run_after m main f source0.left) (sym is) ∙ s.at) refl tt;
      so_far = λ tells.
          let s = going.stands tells in
          came limit steps (Ok end.StepLimit) source0 source sink0 sink s.transcript (omega arith) is (transcript_is source0.left steps _ s.at) s.taken_are s.put;
      source_faults = going.source_faults;
      source_tells = going.source_tells;
      sink_faults = going.sink_faults;
      sink_tells = going.sink_tells;
    }

  module _ (there : slice_get m.functions main ≡ Some f) (defined : is_defined f.blocks ≡ true) (rules : IsWellFormed m) (limit steps : ℕ) (machine machine1 machine' : MachineState) (tally tally' : Tally) (event : Event) (source0 source source' : SourceState) (sink0 sink sink' : SinkState) (going : Going m rules main f steps machine tally source0 source sink0 sink) (stepped : Stepped m main going.events machine machine1 event tally') (lt : steps < limit) (small : limit < 2 ^ 62) where
    abbrev W : IsTrue source0.tells → List Exchange
    W tells = (going.stands tells).transcript

    counted : tally'.counts.items ≡ map fn_counts (counts_of m main (going.events ++ event ∷ []))
    counted = stepped.counted.counts

    next_is : (turn (frames_of m) going.running).event ≡ event
    next_is = event_is m rules main f steps machine machine1 tally tally' event source0 source sink0 sink going stepped

    -- the run is over one step further, by this end
    is_over : (by : End) (e : Event) → event ≡ e → ((w : List Exchange) → followed (frames_of m) (effect_of e) (turn (frames_of m) going.running).running source.left w ≡ Over by w) → (tells : IsTrue source0.tells) → run_after m main f source0.left limit ≡ Over by (W tells)
    is_over by e is over tells =
        let a = run_on m rules main f steps machine machine1 tally tally' event source0 source sink0 sink going stepped tells in
        let b = a ∙ ap (λ e. followed (frames_of m) (effect_of e) (turn (frames_of m) going.running).running source.left (W tells)) is ∙ over (W tells) in
        (stays_over source0.left (steps + 1) limit by (W tells) (omega arith) b).0

    counts_are : (by : End) (e : Event) → event ≡ e → ((w : List Exchange) → followed (frames_of m) (effect_of e) (turn (frames_of m) going.running).running source.left w ≡ Over by w) → (tells : IsTrue source0.tells) → counts_after m main f source0.left limit ≡ tally'.counts.items
    counts_are by e is over tells =
        let a = run_on m rules main f steps machine machine1 tally tally' event source0 source sink0 sink going stepped tells in
        let b = a ∙ ap (λ e. followed (frames_of m) (effect_of e) (turn (frames_of m) going.running).running source.left (W tells)) is ∙ over (W tells) in
        let c = (stays_over source0.left (steps + 1) limit by (W tells) (omega arith) b).1 in
        let d = events_on m rules main f steps machine machine1 tally tally' event source0 source sink0 sink going stepped tells in
        let told : List Event → List FnCounts = λ es. map fn_counts (counts_of m main es) in
        ap told (c ∙ d) ∙ sym counted

    -- ---- ends

    -- the run ended, with its answer at the limit
    ran_over : (answer : RunEnd) (by : End) → HasCause m source0 source' sink0 sink' answer → Stays machine1 machine' source source' sink sink' → ((tells : IsTrue source0.tells) → run_after m main f source0.left limit ≡ Over by (W tells)) → ((tells : IsTrue source0.tells) → EndsAs m source0.left limit answer) → StandsFor m source0.left limit limit (Ok answer) → ((old new shown : List ℕ) → new ≡ old ++ shown → HasPut (Ok answer) shown old new) → Ran m limit source0 source' sink0 sink' (Ok answer)
    ran_over answer by cause stays over ends stands puts = record {
      cause = cause;
      main = tt;
      ends = ends;
      so_far = λ tells.
          let s = going.stands tells in
          came limit limit (Ok answer) source0 source' sink0 sink' s.transcript (omega arith) stands (transcript_is source0.left limit _ (over tells))
          (s.taken_are ∙ ap (λ (s' : SourceState). bytes_taken s.transcript ++ s'.left) (sym stays.source_is))
          (λ told. puts sink0.written sink'.written (bytes_shown s.transcript) (ap (λ (s' : SinkState). s'.written) stays.sink_is ∙ s.put told));
      source_faults = subst (λ (s : SourceState). source0.faults ≤ s.faults) (sym stays.source_is) going.source_faults;
      source_tells = ap (λ (s : SourceState). s.tells) stays.source_is ∙ going.source_tells;
      sink_faults = subst (λ (s : SinkState). sink0.faults ≤ s.faults) (sym stays.sink_is) going.sink_faults;
      sink_tells = ap (λ (s : SinkState). s.tells) stays.sink_is ∙ going.sink_tells;
    }

    returned : (value value' : Option ℕ) → event ≡ Returned value → value' ≡ value → Stays machine1 machine' source source' sink sink' → Ran m limit source0 source' sink0 sink' (Ok (end.Returned value' (record { functions = tally'.counts.items })))
    returned value value' is same stays =
        let few : length going.events + 1 < 2 ^ 62 = omega (arith, going.few, lt, small) in
        let gathered = walk_ends m rules main going.events going.running value (next_is ∙ is) few going.walked in
        let all = accepted m main (f, there, defined) (going.events ++ Returned value ∷ []) gathered in
        let told : Event → List FnCounts = λ e. map fn_counts (counts_of m main (going.events ++ e ∷ [])) in
        let fine : IsAccepted m tally'.counts.items = subst (IsAccepted m) (sym (counted ∙ ap told is)) all in
        ran_over (end.Returned value' (record { functions = tally'.counts.items })) (ByReturn value) (has_main, fine) stays
        (is_over (ByReturn value) (Returned value) is (λ w. refl))
        (λ tells. ends_as source0.left limit (end.Returned value' (record { functions = tally'.counts.items })) (Over (ByReturn value) (W tells)) tally'.counts.items
        (is_over (ByReturn value) (Returned value) is (λ w. refl) tells)
        (counts_are (ByReturn value) (Returned value) is (λ w. refl) tells)
        (same, refl))
        refl (λ old new shown e. e)

    trapped : (trap trap' : Trap) → event ≡ Trapped trap → trap' ≡ trap → Stays machine1 machine' source source' sink sink' → Ran m limit source0 source' sink0 sink' (Ok (end.Trapped trap'))
    trapped trap trap' is same stays =
        ran_over (end.Trapped trap') (ByTrap trap) has_main stays
        (is_over (ByTrap trap) (Trapped trap) is (λ w. refl))
        (λ tells. ends_as source0.left limit (end.Trapped trap') (Over (ByTrap trap) (W tells)) tally'.counts.items
        (is_over (ByTrap trap) (Trapped trap) is (λ w. refl) tells)
        (counts_are (ByTrap trap) (Trapped trap) is (λ w. refl) tells)
        same)
        refl (λ old new shown e. e)

    -- ---- faults

    -- some run at the limit, whatever it is
    some_end : (answer : RunEnd) → ((p : Progress (State Frame Globals) End) → EndsWith (Some p) (Some (counts_after m main f source0.left limit)) answer) → EndsAs m source0.left limit answer
    some_end answer ends = ends_as source0.left limit answer (run_after m main f source0.left limit) (counts_after m main f source0.left limit) refl refl (ends (run_after m main f source0.left limit))

    any_read : (p : Progress (State Frame Globals) End) (counts : Option (List FnCounts)) → EndsWith (Some p) counts end.ReadFault
    any_read (At s) counts = tt
    any_read (Over (ByReturn value) w) counts = tt
    any_read (Over (ByTrap trap) w) counts = tt

    any_write : (p : Progress (State Frame Globals) End) (counts : Option (List FnCounts)) → EndsWith (Some p) counts end.WriteFault
    any_write (At s) counts = tt
    any_write (Over (ByReturn value) w) counts = tt
    any_write (Over (ByTrap trap) w) counts = tt

    next_of_run : (e : Event) → event ≡ e → (tells : IsTrue source0.tells) → NextIs m e (run_of m source0.left steps)
    next_of_run e is tells =
        let s = going.stands tells in
        subst (NextIs m e) (sym (run_is source0.left steps ∙ ap Some s.at)) (ap (λ e. e ∷ []) (next_is ∙ is))

    read_failed : event ≡ Wants → (failed : Failed) → Draws (Err failed) source source' → sink' ≡ sink → Ran m limit source0 source' sink0 sink' (Ok end.ReadFault)
    read_failed is failed drawn sink_is = record {
      cause = (has_main, rose_since source0.faults source.faults source'.faults going.source_faults drawn.faults drawn.failed);
      main = tt;
      ends = λ tells. some_end end.ReadFault (λ p. any_read p _);
      so_far = λ tells.
          let s = going.stands tells in
          came limit steps (Ok end.ReadFault) source0 source' sink0 sink' s.transcript (omega arith) (lt, next_of_run Wants is tells) (transcript_is source0.left steps _ s.at)
          (s.taken_are ∙ ap (λ l. bytes_taken s.transcript ++ l) (sym (drawn.bytes (subst IsTrue (sym going.source_tells) tells))))
          (λ told. ap (λ (s' : SinkState). s'.written) sink_is ∙ s.put told);
      source_faults = omega (arith, going.source_faults, drawn.faults);
      source_tells = drawn.tells ∙ going.source_tells;
      sink_faults = subst (λ (s : SinkState). sink0.faults ≤ s.faults) (sym sink_is) going.sink_faults;
      sink_tells = ap (λ (s : SinkState). s.tells) sink_is ∙ going.sink_tells;
    }

    -- a first part of one byte is none or the byte
    one_or_none : (old new w : List ℕ) (byte : ℕ) (part rest : List ℕ) → new ≡ (old ++ w) ++ part → byte ∷ [] ≡ part ++ rest → (new ≡ old ++ w) ⊎ (new ≡ old ++ (w ++ byte ∷ []))
    one_or_none old new w byte [] rest is whole = inl (is ∙ append-none (old ++ w)) where
      append-none : (xs : List ℕ) → xs ++ [] ≡ xs
      append-none [] = refl
      append-none (x ∷ xs) = ap (λ l. x ∷ l) (append-none xs)
    one_or_none old new w byte (x ∷ []) rest is whole =
        let same : x ≡ byte = cc in
        inr (is ∙ append_assoc old w (x ∷ []) ∙ ap (λ x. old ++ (w ++ x ∷ [])) same)
    one_or_none old new w byte (x ∷ y ∷ part) rest is whole = cc

    write_failed : (byte : ℕ) → event ≡ Shows byte → (failed : Failed) → Puts (byte ∷ []) (Err failed) sink sink' → source' ≡ source → Ran m limit source0 source' sink0 sink' (Ok end.WriteFault)
    write_failed byte is failed puts source_is = record {
      cause = (has_main, rose_since sink0.faults sink.faults sink'.faults going.sink_faults puts.faults puts.failed);
      main = tt;
      ends = λ tells. some_end end.WriteFault (λ p. any_write p _);
      so_far = λ tells.
          let s = going.stands tells in
          let w = s.transcript in
          let on = on_shows m rules main f steps machine machine1 tally tally' event source0 source sink0 sink going stepped byte is tells in
          let shown = shown_more m rules main f steps machine machine1 tally tally' event source0 source sink0 sink going stepped byte tells in
          let same = taken_same m rules main f steps machine machine1 tally tally' event source0 source sink0 sink going stepped byte tells in
          came limit (steps + 1) (Ok end.WriteFault) source0 source' sink0 sink' (w ++ ShowedByte byte ∷ []) (omega arith)
          (steps, byte, refl, next_of_run (Shows byte) is tells)
          (transcript_is source0.left (steps + 1) _ on)
          (s.taken_are ∙ ap (λ l. l ++ source.left) (sym same) ∙ ap (λ (s' : SourceState). bytes_taken (w ++ ShowedByte byte ∷ []) ++ s'.left) (sym source_is))
          (λ told.
          let part = puts.part (told_sink m rules main f steps machine machine1 tally tally' event source0 source sink0 sink going stepped told) in
          let grown = part.2 ∙ ap (λ l. l ++ part.0) (s.put told) in
          subst (λ v. HasPut (Ok end.WriteFault) v sink0.written sink'.written) (sym shown)
          (bytes_shown w, byte, refl, one_or_none sink0.written sink'.written (bytes_shown w) byte part.0 part.1 grown part.3));
      source_faults = subst (λ (s : SourceState). source0.faults ≤ s.faults) (sym source_is) going.source_faults;
      source_tells = ap (λ (s : SourceState). s.tells) source_is ∙ going.source_tells;
      sink_faults = omega (arith, going.sink_faults, puts.faults);
      sink_tells = puts.tells ∙ going.sink_tells;
    }

    -- what stopped the run tells how it ended
    pub stops : (e : Event) → event ≡ e → (s : Stop) → Follows e (Some s) machine1 machine' source source' sink sink' → Ran m limit source0 source' sink0 sink' (Ok (ended_by s tally'.counts.items))
    stops (Returned value) is (stop.Returned value') follows = returned value value' is follows.0 follows.1
    stops (Trapped trap) is (stop.Trapped trap') follows = trapped trap trap' is follows.0 follows.1
    stops Wants is stop.ReadFault follows = read_failed is follows.0 follows.1 follows.2
    stops (Shows byte) is stop.WriteFault follows = write_failed byte is follows.0 follows.1 follows.2
    stops e is s follows = absurd follows

-- an answer that is an error has a reason
pub for_any_err : {m : Program} {limit : ℕ} {source source' : SourceState} {sink sink' : SinkState} (answer : Result RunEnd NoMemory) (reason : NoMemory) → answer ≡ Err reason → ((reason : NoMemory) → Ran m limit source source' sink sink' (Err reason)) → Ran m limit source source' sink sink' answer
for_any_err {m} {limit} {source} {source'} {sink} {sink'} answer reason is ran = subst (Ran m limit source source' sink sink') (sym is) (ran reason)
