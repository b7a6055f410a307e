-- The events of a whole run.
use Rattle.std.proofs.Common.{◌≡◌, ℕ, zero, suc, ◌+◌, ◌-◌, ◌^◌, ◌<◌, List, [], ◌∷◌, Option, Some, refl, ap, arith}
use Rattle.std.specs.Prelude.{sum_by}
use Rattle.std.proofs.lemmas.List.Sums.{sum_by-cons}
use Rattle.machines.specs.declared.events.Event.{Event}
use Rattle.machines.specs.declared.events.Event.TheVariants.{Went, Took, Entered, Wants, Shows, Returned, Trapped}
use Rattle.machines.specs.Runs.{Exchange, Progress, At, Over, after}
use Rattle.machines.specs.Acts.{Slot, Frames, Running, turn, got}
use Rattle.machines.specs.Meaning.{State, End, ByReturn, ByTrap, machine_of, effect_of, followed}
use Rattle.machines.specs.Events.{events_of}
use Rattle.machines.proofs.Lockstep.{after_over}
use Rattle.run_counts.proofs.Conserved.{Place, Stands, entering_by, leaving_by, standing, turn_conserves, turn_ends}

-- how many slots an event takes and functions it enters
abbrev pub moves : Event → ℕ
moves (Took f b s) = 1
moves (Entered f) = 1
moves Went = 0
moves Wants = 0
moves (Shows byte) = 0
moves (Returned value) = 0
moves (Trapped trap) = 0

-- each item, as a recursion
abbrev pub Every : {X : Type 0} → (X → Type 0) → List X → Type 0
Every P [] = Unit {0}
Every P (x ∷ xs) = P x × Every P xs

module _ {F G : Type 0} (frames : Frames F G) where
  -- what a run over n steps that returned says of its events
  abbrev pub EndsIn : ℕ → Progress (State F G) End → Type 0
  EndsIn n p = (value : Option ℕ) × (w : List Exchange) × (after (machine_of frames) n p ≡ Over (ByReturn value) w)

  no_trap : (n : ℕ) (trap : _) (w : List Exchange) → EndsIn n (Over (ByTrap trap) w) → ⊥
  no_trap n trap w r = let e = after_over (machine_of frames) n (ByTrap trap) w in let f = r.2 in cc

  pub over_events : (n : ℕ) (end : End) (w : List Exchange) → events_of frames n (Over end w) ≡ []
  over_events zero end w = refl
  over_events (suc n) end w = over_events n end w

  -- fewer moves than steps
  few_more : (n : ℕ) → ((s : State F G) → EndsIn n (At s) → sum_by moves (events_of frames n (At s)) < n) → (event : Event) (running : Running F G) (input : List ℕ) (w : List Exchange) → EndsIn n (followed frames (effect_of event) running input w) → sum_by moves (event ∷ events_of frames n (followed frames (effect_of event) running input w)) < suc n
  few_more n rest Went running input w r = let a = rest _ r in let b = sum_by-cons moves Went (events_of frames n (followed frames (effect_of Went) running input w)) in omega arith
  few_more n rest (Took f b s) running input w r = let a = rest _ r in let b = sum_by-cons moves (Took f b s) (events_of frames n (followed frames (effect_of (Took f b s)) running input w)) in omega arith
  few_more n rest (Entered f) running input w r = let a = rest _ r in let b = sum_by-cons moves (Entered f) (events_of frames n (followed frames (effect_of (Entered f)) running input w)) in omega arith
  few_more n rest Wants running input w r = let a = rest _ r in let b = sum_by-cons moves Wants (events_of frames n (followed frames (effect_of Wants) running input w)) in omega arith
  few_more n rest (Shows byte) running input w r = let a = rest _ r in let b = sum_by-cons moves (Shows byte) (events_of frames n (followed frames (effect_of (Shows byte)) running input w)) in omega arith
  few_more n rest (Returned value) running input w r = let b = sum_by-cons moves (Returned value) [] in let e = ap (λ l. sum_by moves (Returned value ∷ l)) (over_events n (ByReturn value) w) in omega arith
  few_more n rest (Trapped trap) running input w r = absurd (no_trap n trap w r)

  pub few_moves : (n : ℕ) (s : State F G) → EndsIn n (At s) → sum_by moves (events_of frames n (At s)) < n
  few_moves zero s r = let e = r.2 in cc
  few_moves (suc n) s r = few_more n (few_moves n) (turn frames s.running).event (turn frames s.running).running s.input s.transcript r

module _ {F G : Type 0} (frames : Frames F G) (at : F → Place) (target : ℕ → ℕ → ℕ → ℕ) (IsSlot : Slot → Type 0) (IsDefined : ℕ → Type 0) (IsEnd : Place → Type 0) (stands : Stands frames at target IsSlot IsDefined IsEnd) where
  module _ (weight : Place → ℕ) (no_end : (p : Place) → IsEnd p → weight p ≡ 0) where
    abbrev Stood : Running F G → ℕ
    Stood r = standing frames at target IsSlot IsDefined IsEnd stands weight no_end r

    abbrev enters : List Event → ℕ
    enters es = sum_by (entering_by target weight) es

    abbrev leaves : List Event → ℕ
    leaves es = sum_by (leaving_by target weight) es

    pub got_stood : (r : Running F G) (value : ℕ) → Stood (got frames r value) ≡ Stood r
    got_stood r value = ap (λ p. weight p + sum_by (λ f. weight (at f)) r.below) (stands.gives r.top (Some value))

    abbrev Conserved : ℕ → State F G → Type 0
    Conserved n s = EndsIn frames n (At s) → enters (events_of frames n (At s)) + Stood s.running ≡ leaves (events_of frames n (At s))

    conserved_more : (n : ℕ) → ((s : State F G) → Conserved n s) → (event : Event) (running : Running F G) (before : ℕ) (input : List ℕ) (w : List Exchange) → entering_by target weight event + before ≡ leaving_by target weight event + Stood running → ((value : Option ℕ) → event ≡ Returned value → Stood running ≡ 0) → EndsIn frames n (followed frames (effect_of event) running input w) → enters (event ∷ events_of frames n (followed frames (effect_of event) running input w)) + before ≡ leaves (event ∷ events_of frames n (followed frames (effect_of event) running input w))
    conserved_more n rest Went running before input w e ends r =
        let es = events_of frames n (followed frames (effect_of Went) running input w) in
        let a = sum_by-cons (entering_by target weight) Went es in
        let b = sum_by-cons (leaving_by target weight) Went es in
        let c = rest _ r in
        omega arith
    conserved_more n rest (Took f b s) running before input w e ends r =
        let es = events_of frames n (followed frames (effect_of (Took f b s)) running input w) in
        let a = sum_by-cons (entering_by target weight) (Took f b s) es in
        let b = sum_by-cons (leaving_by target weight) (Took f b s) es in
        let c = rest _ r in
        omega arith
    conserved_more n rest (Entered f) running before input w e ends r =
        let es = events_of frames n (followed frames (effect_of (Entered f)) running input w) in
        let a = sum_by-cons (entering_by target weight) (Entered f) es in
        let b = sum_by-cons (leaving_by target weight) (Entered f) es in
        let c = rest _ r in
        omega arith
    conserved_more n rest Wants running before [] w e ends r =
        let es = events_of frames n (followed frames (effect_of Wants) running [] w) in
        let a = sum_by-cons (entering_by target weight) Wants es in
        let b = sum_by-cons (leaving_by target weight) Wants es in
        let c = rest _ r in
        let d = got_stood running (2 ^ 32 - 1) in
        omega arith
    conserved_more n rest Wants running before (byte ∷ input) w e ends r =
        let es = events_of frames n (followed frames (effect_of Wants) running (byte ∷ input) w) in
        let a = sum_by-cons (entering_by target weight) Wants es in
        let b = sum_by-cons (leaving_by target weight) Wants es in
        let c = rest _ r in
        let d = got_stood running byte in
        omega arith
    conserved_more n rest (Shows byte) running before input w e ends r =
        let es = events_of frames n (followed frames (effect_of (Shows byte)) running input w) in
        let a = sum_by-cons (entering_by target weight) (Shows byte) es in
        let b = sum_by-cons (leaving_by target weight) (Shows byte) es in
        let c = rest _ r in
        omega arith
    conserved_more n rest (Returned value) running before input w e ends r =
        let a = sum_by-cons (entering_by target weight) (Returned value) (events_of frames n (Over (ByReturn value) w)) in
        let b = sum_by-cons (leaving_by target weight) (Returned value) (events_of frames n (Over (ByReturn value) w)) in
        let c = ap (λ l. enters l) (over_events frames n (ByReturn value) w) in
        let d = ap (λ l. leaves l) (over_events frames n (ByReturn value) w) in
        let z = ends value refl in
        omega arith
    conserved_more n rest (Trapped trap) running before input w e ends r = absurd (no_trap frames n trap w r)

    pub run_conserves : (n : ℕ) (s : State F G) → Conserved n s
    run_conserves zero s r = let e = r.2 in cc
    run_conserves (suc n) s r =
        conserved_more n (run_conserves n) (turn frames s.running).event (turn frames s.running).running (Stood s.running) s.input s.transcript
        (turn_conserves frames at target IsSlot IsDefined IsEnd stands weight no_end s.running)
        (turn_ends frames at target IsSlot IsDefined IsEnd stands weight no_end s.running) r
