-- A run that goes on, step by step.
use Rattle.std.proofs.Common.{◌≡◌, ℕ, zero, suc, ◌+◌, ◌-◌, ◌^◌, ◌≤◌, false, List, [], ◌∷◌, ◌++◌, length, Option, Some, None, refl, sym, ap, ◌∙◌, subst, arith, append_assoc, length-append}
use Rattle.std.specs.Prelude.{IsTrue, Ok}
use Rattle.mc_host.specs.declared.faults.Failed.{Failed}
use Rattle.mc_host.specs.Streams.{SourceState, SinkState, Draws, Puts}
use Rattle.ir_types.specs.Program.{Program}
use Rattle.ir_types.specs.WellFormed.{IsWellFormed}
use Rattle.ir_types.specs.declared.syntax.Function.{Function}
use Rattle.machines.specs.declared.events.Event.{Event}
use Rattle.machines.specs.declared.events.Event.TheVariants.{Went, Took, Entered, Wants, Shows, Returned, Trapped}
use Rattle.machines.specs.Runs.{Exchange, TookByte, MetEnd, ShowedByte, Progress, At, Machine, after, go_on}
use Rattle.machines.specs.Events.{events_of, next_events}
use Rattle.machines.specs.Acts.{Running, Frames, turn, got}
use Rattle.machines.specs.Meaning.{State, state, End, machine_of, effect_of, followed, taken}
use Rattle.machines.proofs.Lockstep.{after-add}
use Rattle.ir_machine.specs.declared.frame.Frame.{Frame}
use Rattle.ir_machine.specs.Step.{Globals, frames_of, first_frame, written}
use Rattle.ir_machine.specs.Same.{start}
use Rattle.ir_machine.specs.Code.{MachineState, started, running_of, event_of, after_step, is_wants, is_end, byte_value}
use Rattle.run_counts.specs.Counted.{run_after}
use Rattle.run_counts.proofs.Runs.{Every}
use Rattle.run_counts.proofs.Reaching.{IsFound, Reaches, turn_found}
use Rattle.run_counts.proofs.Placed.{at, target_in, IsSlotIn, IsDefinedIn, IsEndIn, module_stands}
use Rattle.run_counts.proofs.Balanced.{has_slot}
use Rattle.run_counts.proofs.Totals.{some_function}
use Rattle.run_counts.proofs.Walked.{Walked, walk_starts, walk_turns, walk_gets}
use Rattle.interp.specs.Tallies.{IsEventOf}
use Rattle.interp.specs.Run.{bytes_taken, bytes_shown}
use Rattle.interp.specs.Follows.{Follows, Stays, given}
use Rattle.interp.specs.TallyOf.{IsTally}
use Rattle.interp.specs.declared.tally.Tally.{Tally}

append-nil : {X : Type 0} (xs : List X) → xs ++ [] ≡ xs
append-nil [] = refl
append-nil (x ∷ xs) = ap (λ l. x ∷ l) (append-nil xs)

-- ---- steps

pub one_more : {S E : Type 0} (machine : Machine S E) (n : ℕ) (p : Progress S E) → after machine (n + 1) p ≡ go_on machine (after machine n p)
one_more machine n p = after-add machine n 1 p

pub events_of-add : {F G : Type 0} (frames : Frames F G) (a b : ℕ) (p : Progress (State F G) End) → events_of frames (a + b) p ≡ events_of frames a p ++ events_of frames b (after (machine_of frames) a p)
events_of-add frames zero b p = let e : 0 + b ≡ b = omega arith in ap (λ k. events_of frames k p) e
events_of-add frames (suc a) b p =
    let e : suc a + b ≡ suc (a + b) = omega arith in
    ap (λ k. events_of frames k p) e
    ∙ ap (λ l. next_events frames p ++ l) (events_of-add frames a b (go_on (machine_of frames) p))
    ∙ sym (append_assoc (next_events frames p) (events_of frames a (go_on (machine_of frames) p)) (events_of frames b (after (machine_of frames) (suc a) p)))

-- ---- what was taken and shown

pub bytes_taken-append : (v w : List Exchange) → bytes_taken (v ++ w) ≡ bytes_taken v ++ bytes_taken w
bytes_taken-append [] w = refl
bytes_taken-append (TookByte byte ∷ v) w = ap (λ l. byte ∷ l) (bytes_taken-append v w)
bytes_taken-append (MetEnd ∷ v) w = bytes_taken-append v w
bytes_taken-append (ShowedByte byte ∷ v) w = bytes_taken-append v w

pub bytes_shown-append : (v w : List Exchange) → bytes_shown (v ++ w) ≡ bytes_shown v ++ bytes_shown w
bytes_shown-append [] w = refl
bytes_shown-append (TookByte byte ∷ v) w = bytes_shown-append v w
bytes_shown-append (MetEnd ∷ v) w = bytes_shown-append v w
bytes_shown-append (ShowedByte byte ∷ v) w = ap (λ l. byte ∷ l) (bytes_shown-append v w)

-- ---- the run stands where the machine stands

abbrev pub idle : Program → Running Frame Globals → MachineState
idle m running = record { program = m; running = running; waits = false; ended = false }

pub record StandsAt (m : Program) (main : ℕ) (f : Function) (steps : ℕ) (running : Running Frame Globals) (events : List Event) (source0 source : SourceState) (sink0 sink : SinkState) : Type 0 where
  pub transcript : List Exchange
  pub at : run_after m main f source0.left steps ≡ At (state running source.left transcript)
  pub events_are : events_of (frames_of m) steps (At (start m main f [] source0.left)) ≡ events
  pub taken_are : source0.left ≡ bytes_taken transcript ++ source.left
  pub put : IsTrue sink0.tells → sink.written ≡ sink0.written ++ bytes_shown transcript

pub record Going (m : Program) (rules : IsWellFormed m) (main : ℕ) (f : Function) (steps : ℕ) (machine : MachineState) (tally : Tally) (source0 source : SourceState) (sink0 sink : SinkState) : Type 0 where
  pub running : Running Frame Globals
  pub machine_is : machine ≡ idle m running
  pub events : List Event
  pub few : length events ≤ steps
  pub counted : IsTally m main events tally
  pub walked : Walked m rules main events running
  pub stands : IsTrue source0.tells → StandsAt m main f steps running events source0 source sink0 sink
  pub source_faults : source0.faults ≤ source.faults
  pub source_tells : source.tells ≡ source0.tells
  pub sink_faults : sink0.faults ≤ sink.faults
  pub sink_tells : sink.tells ≡ sink0.tells

-- a step of the machine, and the tally with its event
pub record Stepped (m : Program) (main : ℕ) (events : List Event) (machine machine' : MachineState) (event : Event) (tally' : Tally) : Type 0 where
  pub event_is : event ≡ event_of machine
  pub machine_is : machine' ≡ after_step machine
  pub counted : IsTally m main (events ++ event ∷ []) tally'

module _ (m : Program) (rules : IsWellFormed m) (main : ℕ) (f : Function) (steps : ℕ) (machine machine1 : MachineState) (tally tally' : Tally) (event : Event) (source0 source : SourceState) (sink0 sink : SinkState) (going : Going m rules main f steps machine tally source0 source sink0 sink) (stepped : Stepped m main going.events machine machine1 event tally') where
  abbrev pub next : Running Frame Globals
  next = (turn (frames_of m) going.running).running

  abbrev pub events' : List Event
  events' = going.events ++ event ∷ []

  pub event_is : (turn (frames_of m) going.running).event ≡ event
  event_is = sym (stepped.event_is ∙ ap event_of going.machine_is)

  pub machine1_is : machine1 ≡ record { program = m; running = next; waits = is_wants event; ended = is_end event }
  machine1_is = stepped.machine_is ∙ ap after_step going.machine_is ∙ ap (λ e. record { program = m; running = next; waits = is_wants e; ended = is_end e }) event_is

  few' : length events' ≤ steps + 1
  few' = omega (arith, length-append going.events (event ∷ []), going.few)

  pub walked' : Walked m rules main events' next
  walked' = subst (λ e. Walked m rules main (going.events ++ e ∷ []) next) event_is (walk_turns m rules main going.events going.running going.walked)

  module _ (tells : IsTrue source0.tells) where
    abbrev pub here : StandsAt m main f steps going.running going.events source0 source sink0 sink
    here = going.stands tells

    -- how the run goes on
    pub run_on : run_after m main f source0.left (steps + 1) ≡ followed (frames_of m) (effect_of event) next source.left here.transcript
    run_on =
        one_more (machine_of (frames_of m)) steps (At (start m main f [] source0.left))
        ∙ ap (go_on (machine_of (frames_of m))) here.at
        ∙ ap (λ e. followed (frames_of m) (effect_of e) next source.left here.transcript) event_is

    pub events_on : events_of (frames_of m) (steps + 1) (At (start m main f [] source0.left)) ≡ events'
    events_on =
        events_of-add (frames_of m) steps 1 (At (start m main f [] source0.left))
        ∙ ap (λ p. events_of (frames_of m) steps (At (start m main f [] source0.left)) ++ (next_events (frames_of m) p ++ [])) here.at
        ∙ ap (λ l. l ++ ((turn (frames_of m) going.running).event ∷ [])) here.events_are
        ∙ ap (λ e. going.events ++ e ∷ []) event_is

  -- the run goes on with nothing taken or put
  goes_quietly : (machine' : MachineState) (source' : SourceState) (sink' : SinkState) → Stays machine1 machine' source source' sink sink' → is_wants event ≡ false → is_end event ≡ false → ((input : List ℕ) (w : List Exchange) → followed (frames_of m) (effect_of event) next input w ≡ At (state next input w)) → Going m rules main f (steps + 1) machine' tally' source0 source' sink0 sink'
  goes_quietly machine' source' sink' stays no_wants no_end quiet = record {
    running = next;
    machine_is = stays.machine_is ∙ machine1_is ∙ ap (λ b. record { program = m; running = next; waits = b; ended = is_end event }) no_wants ∙ ap (λ b. record { program = m; running = next; waits = false; ended = b }) no_end;
    events = events';
    few = few';
    counted = stepped.counted;
    walked = walked';
    stands = λ tells. record {
      transcript = (here tells).transcript;
      at = run_on tells ∙ quiet source.left (here tells).transcript ∙ ap (λ (s : SourceState). At (state next s.left (here tells).transcript)) (sym stays.source_is);
      events_are = events_on tells;
      taken_are = (here tells).taken_are ∙ ap (λ (s : SourceState). bytes_taken (here tells).transcript ++ s.left) (sym stays.source_is);
      put = λ told. ap (λ (s : SinkState). s.written) stays.sink_is ∙ (here tells).put told;
    };
    source_faults = subst (λ (s : SourceState). source0.faults ≤ s.faults) (sym stays.source_is) going.source_faults;
    source_tells = ap (λ (s : SourceState). s.tells) stays.source_is ∙ going.source_tells;
    sink_faults = subst (λ (s : SinkState). sink0.faults ≤ s.faults) (sym stays.sink_is) going.sink_faults;
    sink_tells = ap (λ (s : SinkState). s.tells) stays.sink_is ∙ going.sink_tells;
  }

  -- it goes on with a byte taken, or the end of the input met
  goes_given : event ≡ Wants → (machine' : MachineState) (source' : SourceState) (sink' : SinkState) → (byte : Option ℕ) × Draws {E = Failed} (Ok byte) source source' × (machine' ≡ given machine1 byte) × (sink' ≡ sink) → Going m rules main f (steps + 1) machine' tally' source0 source' sink0 sink'
  goes_given wants machine' source' sink' follows =
      let byte = follows.0 in
      let drawn = follows.1 in
      let value = byte_value byte in
      let after_got = got (frames_of m) next value in
      let given_to : MachineState → MachineState = λ s. given s byte in
      record {
        running = after_got;
        machine_is = follows.2 ∙ ap given_to machine1_is ∙ ap (λ e. record { program = m; running = after_got; waits = false; ended = is_end e }) wants;
        events = events';
        few = few';
        counted = stepped.counted;
        walked = walk_gets m rules main events' next value walked';
        stands = λ tells. stood_given byte tells drawn;
        source_faults = omega (arith, going.source_faults, drawn.faults);
        source_tells = drawn.tells ∙ going.source_tells;
        sink_faults = subst (λ (s : SinkState). sink0.faults ≤ s.faults) (sym follows.3) going.sink_faults;
        sink_tells = ap (λ (s : SinkState). s.tells) follows.3 ∙ going.sink_tells;
      } where
        put_same : (tells : IsTrue source0.tells) (item : Exchange) → bytes_shown (item ∷ []) ≡ [] → IsTrue sink0.tells → sink'.written ≡ sink0.written ++ bytes_shown ((here tells).transcript ++ item ∷ [])
        put_same tells item none told =
            ap (λ (s : SinkState). s.written) follows.3 ∙ (here tells).put told ∙ ap (λ l. sink0.written ++ l) (sym (append-nil (bytes_shown (here tells).transcript)) ∙ ap (λ l. bytes_shown (here tells).transcript ++ l) (sym none) ∙ sym (bytes_shown-append (here tells).transcript (item ∷ [])))

        told_source : IsTrue source0.tells → IsTrue source.tells
        told_source tells = subst IsTrue (sym going.source_tells) tells

        on_wants : (tells : IsTrue source0.tells) → run_after m main f source0.left (steps + 1) ≡ At (taken (frames_of m) next source.left (here tells).transcript)
        on_wants tells = run_on tells ∙ ap (λ e. followed (frames_of m) (effect_of e) next source.left (here tells).transcript) wants

        stood_given : (byte : Option ℕ) → (tells : IsTrue source0.tells) → Draws {E = Failed} (Ok byte) source source' → StandsAt m main f (steps + 1) (got (frames_of m) next (byte_value byte)) events' source0 source' sink0 sink'
        stood_given None tells drawn =
            let w = (here tells).transcript in
            let takes = drawn.bytes (told_source tells) in
            record {
              transcript = w ++ MetEnd ∷ [];
              at = on_wants tells
                  ∙ ap (λ i. At (taken (frames_of m) next i w)) takes.0
                  ∙ ap (λ i. At (state (got (frames_of m) next (2 ^ 32 - 1)) i (w ++ MetEnd ∷ []))) (sym takes.1);
              events_are = events_on tells;
              taken_are = (here tells).taken_are
                  ∙ ap (λ l. bytes_taken w ++ l) (takes.0 ∙ sym takes.1)
                  ∙ ap (λ l. l ++ source'.left) (sym (append-nil (bytes_taken w)) ∙ sym (bytes_taken-append w (MetEnd ∷ [])));
              put = put_same tells MetEnd refl;
            }
        stood_given (Some byte) tells drawn =
            let w = (here tells).transcript in
            let takes = drawn.bytes (told_source tells) in
            record {
              transcript = w ++ TookByte byte ∷ [];
              at = on_wants tells ∙ ap (λ i. At (taken (frames_of m) next i w)) takes;
              events_are = events_on tells;
              taken_are = (here tells).taken_are
                  ∙ ap (λ l. bytes_taken w ++ l) takes
                  ∙ sym (append_assoc (bytes_taken w) (byte ∷ []) source'.left)
                  ∙ ap (λ l. l ++ source'.left) (sym (bytes_taken-append w (TookByte byte ∷ [])));
              put = put_same tells (TookByte byte) refl;
            }

  pub on_shows : (byte : ℕ) → event ≡ Shows byte → (tells : IsTrue source0.tells) → run_after m main f source0.left (steps + 1) ≡ At (state next source.left ((here tells).transcript ++ ShowedByte byte ∷ []))
  on_shows byte shows tells = run_on tells ∙ ap (λ e. followed (frames_of m) (effect_of e) next source.left (here tells).transcript) shows

  pub shown_more : (byte : ℕ) (tells : IsTrue source0.tells) → bytes_shown ((here tells).transcript ++ ShowedByte byte ∷ []) ≡ bytes_shown (here tells).transcript ++ byte ∷ []
  shown_more byte tells = bytes_shown-append (here tells).transcript (ShowedByte byte ∷ [])

  pub taken_same : (byte : ℕ) (tells : IsTrue source0.tells) → bytes_taken ((here tells).transcript ++ ShowedByte byte ∷ []) ≡ bytes_taken (here tells).transcript
  taken_same byte tells = bytes_taken-append (here tells).transcript (ShowedByte byte ∷ []) ∙ append-nil (bytes_taken (here tells).transcript)

  pub told_sink : IsTrue sink0.tells → IsTrue sink.tells
  told_sink told = subst IsTrue (sym going.sink_tells) told

  -- it goes on with a byte put
  goes_shown : (byte : ℕ) → event ≡ Shows byte → (machine' : MachineState) (source' : SourceState) (sink' : SinkState) → Puts {E = Failed} (byte ∷ []) (Ok tt) sink sink' × (machine' ≡ machine1) × (source' ≡ source) → Going m rules main f (steps + 1) machine' tally' source0 source' sink0 sink'
  goes_shown byte shows machine' source' sink' follows =
      let puts = follows.0 in
      record {
        running = next;
        machine_is = follows.1 ∙ machine1_is ∙ ap (λ e. record { program = m; running = next; waits = is_wants e; ended = is_end e }) shows;
        events = events';
        few = few';
        counted = stepped.counted;
        walked = walked';
        stands = λ tells. record {
          transcript = (here tells).transcript ++ ShowedByte byte ∷ [];
          at = on_shows byte shows tells ∙ ap (λ (s : SourceState). At (state next s.left ((here tells).transcript ++ ShowedByte byte ∷ []))) (sym follows.2);
          events_are = events_on tells;
          taken_are = (here tells).taken_are
              ∙ ap (λ l. l ++ source.left) (sym (taken_same byte tells))
              ∙ ap (λ (s : SourceState). bytes_taken ((here tells).transcript ++ ShowedByte byte ∷ []) ++ s.left) (sym follows.2);
          put = λ told. puts.whole (told_sink told)
              ∙ ap (λ l. l ++ byte ∷ []) ((here tells).put told)
              ∙ append_assoc sink0.written (bytes_shown (here tells).transcript) (byte ∷ [])
              ∙ ap (λ l. sink0.written ++ l) (sym (shown_more byte tells));
        };
        source_faults = subst (λ (s : SourceState). source0.faults ≤ s.faults) (sym follows.2) going.source_faults;
        source_tells = ap (λ (s : SourceState). s.tells) follows.2 ∙ going.source_tells;
        sink_faults = omega (arith, going.sink_faults, puts.faults);
        sink_tells = puts.tells ∙ going.sink_tells;
      }

  -- where nothing stops it, the run goes on
  pub goes_on : (e : Event) → event ≡ e → (machine' : MachineState) (source' : SourceState) (sink' : SinkState) → Follows e None machine1 machine' source source' sink sink' → Going m rules main f (steps + 1) machine' tally' source0 source' sink0 sink'
  goes_on Went is machine' source' sink' follows = goes_quietly machine' source' sink' follows (ap is_wants is) (ap is_end is) (λ input w. ap (λ e. followed (frames_of m) (effect_of e) next input w) is)
  goes_on (Took g b s) is machine' source' sink' follows = goes_quietly machine' source' sink' follows (ap is_wants is) (ap is_end is) (λ input w. ap (λ e. followed (frames_of m) (effect_of e) next input w) is)
  goes_on (Entered g) is machine' source' sink' follows = goes_quietly machine' source' sink' follows (ap is_wants is) (ap is_end is) (λ input w. ap (λ e. followed (frames_of m) (effect_of e) next input w) is)
  goes_on Wants is machine' source' sink' follows = goes_given is machine' source' sink' follows
  goes_on (Shows byte) is machine' source' sink' follows = goes_shown byte is machine' source' sink' follows
  goes_on (Returned value) is machine' source' sink' follows = absurd follows
  goes_on (Trapped trap) is machine' source' sink' follows = absurd follows

-- before the first step
pub going_starts : (m : Program) (rules : IsWellFormed m) (main : ℕ) (f : Function) (machine : MachineState) (tally : Tally) (source : SourceState) (sink : SinkState) → IsDefinedIn m main → machine ≡ started m main f → IsTally m main [] tally → Going m rules main f 0 machine tally source source sink sink
going_starts m rules main f machine tally source sink defined is counted = record {
  running = running_of (first_frame main f []) [] (written m);
  machine_is = is;
  events = [];
  few = omega arith;
  counted = counted;
  walked = walk_starts m rules main defined (running_of (first_frame main f []) [] (written m)) refl refl;
  stands = λ tells. record {
    transcript = [];
    at = refl;
    events_are = refl;
    taken_are = refl;
    put = λ told. sym (append-nil sink.written);
  };
  source_faults = omega arith;
  source_tells = refl;
  sink_faults = omega arith;
  sink_tells = refl;
}

-- ---- events are those of the module

anywhere : (m : Program) → Reaches (target_in m) (IsSlotIn m) (IsDefinedIn m) (λ p. Unit {0})
anywhere m = record { entry = λ f defined. tt; leads = λ f b s slot reached. tt }

all_anywhere : (below : List Frame) → Every (λ f. Unit {0}) below
all_anywhere [] = tt
all_anywhere (f ∷ below) = (tt, all_anywhere below)

known_is : (m : Program) (e : Event) → IsFound (IsSlotIn m) (IsDefinedIn m) (λ p. Unit {0}) e → IsEventOf m e
known_is m (Took i b s) known =
    let f = some_function m i b s known.0 in
    let slot = has_slot m i f.0 f.1 i b s known.0 refl in
    record { function = f.0; function_there = f.1; block = slot.0; block_there = slot.1; inside = slot.2 }
known_is m (Entered i) known = record { function = known.0; there = known.1; defined = known.2 }
known_is m Went known = tt
known_is m Wants known = tt
known_is m (Shows byte) known = tt
known_is m (Returned value) known = tt
known_is m (Trapped trap) known = tt

pub event_known : (m : Program) (running : Running Frame Globals) (event : Event) → (turn (frames_of m) running).event ≡ event → IsEventOf m event
event_known m running event is =
    subst (IsEventOf m) is
    (known_is m (turn (frames_of m) running).event
    (turn_found (frames_of m) at (target_in m) (IsSlotIn m) (IsDefinedIn m) (IsEndIn m) (module_stands m) (λ p. Unit {0}) (anywhere m) running (tt, all_anywhere running.below)).0)
