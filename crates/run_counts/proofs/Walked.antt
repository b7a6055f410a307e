-- A run by its steps, whatever bytes it was given: what is known of its events so far.
use Rattle.std.proofs.Common.{◌≡◌, ℕ, ◌+◌, ◌^◌, ◌<◌, ◌≤◌, List, [], ◌∷◌, ◌++◌, length, true, Option, sym, ap, subst, arith}
use Rattle.std.specs.Prelude.{sum_by}
use Rattle.std.proofs.lemmas.List.Sums.{sum_by-cons, sum_by_push}
use Rattle.ir_types.specs.Program.{Program}
use Rattle.ir_types.specs.WellFormed.{IsWellFormed}
use Rattle.machines.specs.declared.events.Event.{Event}
use Rattle.machines.specs.declared.events.Event.TheVariants.{Went, Took, Entered, Wants, Shows, Returned, Trapped}
use Rattle.machines.specs.Acts.{Running, turn, got}
use Rattle.ir_machine.specs.declared.frame.Frame.{Frame}
use Rattle.ir_machine.specs.Step.{Globals, frames_of}
use Rattle.run_counts.proofs.Runs.{Every, moves}
use Rattle.run_counts.proofs.Conserved.{Place, place, entering_by, leaving_by, turn_conserves, turn_ends}
use Rattle.run_counts.proofs.Reaching.{IsFound, AllReached, turn_found, got_reached}
use Rattle.run_counts.proofs.Placed.{at, target_in, IsSlotIn, IsDefinedIn, IsEndIn, module_stands}
use Rattle.run_counts.proofs.Splits.{every_append}
use Rattle.run_counts.proofs.Balanced.{IsReachedIn, Gathered}
use Rattle.run_counts.proofs.Accepted.{module_reaches}

abbrev pub stood : (Place → ℕ) → Running Frame Globals → ℕ
stood weight running = weight (at running.top) + sum_by (λ f. weight (at f)) running.below

abbrev Known : Program → Event → Type 0
Known m e = IsFound (IsSlotIn m) (IsDefinedIn m) (IsReachedIn m) e

abbrev Reached : (m : Program) → IsWellFormed m → Running Frame Globals → Type 0
Reached m rules running = AllReached (frames_of m) at (target_in m) (IsSlotIn m) (IsDefinedIn m) (IsEndIn m) (module_stands m) (IsReachedIn m) (module_reaches m rules) running

-- the events so far, and where the frames stand behind them
pub record Walked (m : Program) (rules : IsWellFormed m) (main : ℕ) (events : List Event) (running : Running Frame Globals) : Type 0 where
  pub found : Every (Known m) events
  pub reached : Reached m rules running
  pub conserved : (weight : Place → ℕ) → ((p : Place) → IsEndIn m p → weight p ≡ 0) → sum_by (entering_by (target_in m) weight) events + weight (place main 0) ≡ sum_by (leaving_by (target_in m) weight) events + stood weight running

module _ (m : Program) (rules : IsWellFormed m) (main : ℕ) where
  pub walk_starts : IsDefinedIn m main → (running : Running Frame Globals) → at running.top ≡ place main 0 → running.below ≡ [] → Walked m rules main [] running
  walk_starts first running top below = record {
    found = tt;
    reached = (subst (IsReachedIn m) (sym top) ((module_reaches m rules).entry main first), subst (Every (λ f. IsReachedIn m (at f))) (sym below) tt);
    conserved = λ weight no_end. (
        let a = ap weight top in
        let b : sum_by (λ f. weight (at f)) running.below ≡ 0 = ap (sum_by (λ f. weight (at f))) below in
        omega (arith, a, b));
  }

  pub walk_turns : (events : List Event) (running : Running Frame Globals) → Walked m rules main events running → Walked m rules main (events ++ (turn (frames_of m) running).event ∷ []) (turn (frames_of m) running).running
  walk_turns events running walked =
      let t = turn (frames_of m) running in
      let found = turn_found (frames_of m) at (target_in m) (IsSlotIn m) (IsDefinedIn m) (IsEndIn m) (module_stands m) (IsReachedIn m) (module_reaches m rules) running walked.reached in
      record {
        found = every_append (λ (e : Event). true) (Known m) events (t.event ∷ []) walked.found (found.0, tt);
        reached = found.1;
        conserved = λ weight no_end. (
            let a = walked.conserved weight no_end in
            let b = turn_conserves (frames_of m) at (target_in m) (IsSlotIn m) (IsDefinedIn m) (IsEndIn m) (module_stands m) weight no_end running in
            let c = sum_by_push (entering_by (target_in m) weight) events t.event in
            let d = sum_by_push (leaving_by (target_in m) weight) events t.event in
            omega (arith, a, b, c, d));
      }

  pub walk_gets : (events : List Event) (running : Running Frame Globals) (value : ℕ) → Walked m rules main events running → Walked m rules main events (got (frames_of m) running value)
  walk_gets events running value walked = record {
    found = walked.found;
    reached = got_reached (frames_of m) at (target_in m) (IsSlotIn m) (IsDefinedIn m) (IsEndIn m) (module_stands m) (IsReachedIn m) (module_reaches m rules) running value walked.reached;
    conserved = walked.conserved;
  }

  few_moves : (events : List Event) → sum_by moves events ≤ length events
  few_moves [] = omega arith
  few_moves (e ∷ events) =
      let a = sum_by-cons moves e events in
      let b = few_moves events in
      let c = one_at_most e in
      omega arith where
        one_at_most : (e : Event) → moves e ≤ 1
        one_at_most (Took f b s) = omega arith
        one_at_most (Entered f) = omega arith
        one_at_most Went = omega arith
        one_at_most Wants = omega arith
        one_at_most (Shows byte) = omega arith
        one_at_most (Returned value) = omega arith
        one_at_most (Trapped trap) = omega arith

  -- the last frame returned
  pub walk_ends : (events : List Event) (running : Running Frame Globals) (value : Option ℕ) → (turn (frames_of m) running).event ≡ Returned value → length events + 1 < 2 ^ 62 → Walked m rules main events running → Gathered m main (events ++ Returned value ∷ [])
  walk_ends events running value is few walked =
      let next = walk_turns events running walked in
      let next' = subst (λ e. Walked m rules main (events ++ e ∷ []) (turn (frames_of m) running).running) is next in
      record {
        found = next'.found;
        conserved = λ weight no_end. (
            let a = next'.conserved weight no_end in
            let b = turn_ends (frames_of m) at (target_in m) (IsSlotIn m) (IsDefinedIn m) (IsEndIn m) (module_stands m) weight no_end running value is in
            omega (arith, a, b));
        few =
            let a = sum_by_push moves events (Returned value) in
            let b = few_moves events in
            omega (arith, a, b, few);
      }
