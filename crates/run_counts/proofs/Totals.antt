-- All counts together are no more than the steps.
use Rattle.std.proofs.Common.{◌≡◌, ℕ, ◌+◌, Bool, true, false, cond, eq-eqb, List, [], ◌∷◌, map, Option, Some, None, refl, sym, ap, ◌∙◌, subst, arith}
use Rattle.std.specs.Prelude.{sum, sum_by, slice_get, ◌==◌}
use Rattle.std.proofs.lemmas.List.Sums.{sum_by-cons, sum-map}
use Rattle.ir_types.specs.Program.{Program}
use Rattle.ir_types.specs.declared.syntax.Block.{Block}
use Rattle.ir_types.specs.declared.syntax.Function.{Function}
use Rattle.machines.specs.declared.events.Event.{Event}
use Rattle.machines.specs.declared.events.Event.TheVariants.{Went, Took, Entered, Wants, Shows, Returned, Trapped}
use Rattle.ir_machine.specs.Same.{is_defined}
use Rattle.ir_machine.specs.Step.{blocks_of}
use Rattle.ir_machine.specs.Prof.{entries, takings, is_entry, is_taking, function_counts, counts_of}
use Rattle.profile.specs.Counts.{total}
use Rattle.run_counts.specs.Counted.{fn_counts}
use Rattle.run_counts.proofs.Runs.{Every, moves}
use Rattle.run_counts.proofs.Reaching.{IsFound, slot_at}
use Rattle.run_counts.proofs.Placed.{IsSlotIn, IsDefinedIn}
use Rattle.run_counts.proofs.Keys.{keys_from, is_key}
use Rattle.run_counts.proofs.Splits.{Split, sum_one}
use Rattle.run_counts.proofs.Tallied.{slot_takings_are, is_number, defined_from, defined_before, function_splits}
use Rattle.run_counts.proofs.Weighed.{eqb_sym, sum_by-map, sum_by-same, sum_by-add, sum_by-none, weighed, added, weighed-none, weighed-more, added-none, added-took, added_one}
use Rattle.run_counts.proofs.Balanced.{has_slot}

-- every slot
abbrev all : ℕ × ℕ → Bool
all k = true

-- a function with a slot
pub some_function : (m : Program) (i b s : ℕ) → IsSlotIn m (slot_at i b s) → (f : Function) × (slice_get m.functions i ≡ Some f) × (is_defined f.blocks ≡ true)
some_function m i b s slot = found (slice_get m.functions i) refl where
  defined_at : (blocks : List Block) → slice_get blocks b ≡ Some slot.0 → is_defined blocks ≡ true
  defined_at [] e = cc
  defined_at (x ∷ xs) e = refl

  found : (o : Option Function) → slice_get m.functions i ≡ o → (f : Function) × (slice_get m.functions i ≡ Some f) × (is_defined f.blocks ≡ true)
  found None e = let wrong = sym (ap (λ o. slice_get (blocks_of o) b) e) ∙ slot.1 in cc
  found (Some f) e = (f, e, defined_at f.blocks (sym (ap (λ o. slice_get (blocks_of o) b) e) ∙ slot.1))

module _ (m : Program) (main : ℕ) (first : IsDefinedIn m main) where
  abbrev here : List (ℕ × Function)
  here = defined_from 0 m.functions

  -- the counts of a function together
  abbrev total_of : List Event → ℕ × Function → ℕ
  total_of events x = entries main events x.0 + weighed (keys_from 0 x.1.blocks) x.0 all events

  totals_are : (events : List Event) (x : ℕ × Function) → total (fn_counts (function_counts main events x.0 x.1)) ≡ total_of events x
  totals_are events x =
      ap (λ n. entries main events x.0 + n) (ap sum (slot_takings_are events x.0 x.1.blocks) ∙ sum-map (λ k. takings events x.0 k.0 k.1) (keys_from 0 x.1.blocks))

  -- what one event adds to the counts of a function
  abbrev adds : Event → ℕ × Function → ℕ
  adds e x = cond (is_entry x.0 e) 1 0 + added (keys_from 0 x.1.blocks) x.0 all e

  total_more : (e : Event) (events : List Event) (x : ℕ × Function) → total_of (e ∷ events) x ≡ adds e x + total_of events x
  total_more e events x =
      let a = sum_by-cons (λ e. cond (is_entry x.0 e) 1 0) e events in
      let b = weighed-more (keys_from 0 x.1.blocks) x.0 all e events in
      omega arith

  split_of : (i : ℕ) (f : Function) → slice_get m.functions i ≡ Some f → is_defined f.blocks ≡ true → Split (is_number i) here (defined_before m.functions i) (i, f)
  split_of i f there defined =
      let z : 0 + i ≡ i = omega arith in
      subst (λ n. Split (is_number n) here (defined_before m.functions i) (n, f)) z (function_splits 0 m.functions i f there defined)

  -- an event adds to the counts of no function
  adds_none : (e : Event) → ((i : ℕ) → is_entry i e ≡ false) → ((i b s : ℕ) → is_taking i b s e ≡ false) → sum_by (adds e) here ≡ 0
  adds_none e no_entry no_taking =
      sum_by-none (adds e) (λ x.
      let picked : Bool → ℕ = λ t. cond t 1 0 in
      let a : picked (is_entry x.0 e) ≡ 0 = ap picked (no_entry x.0) in
      let b = added-none (keys_from 0 x.1.blocks) x.0 all e (λ k. no_taking x.0 k.0 k.1) in
      omega (arith, a, b)) here

  adds_moves : (e : Event) → IsFound (IsSlotIn m) (IsDefinedIn m) (λ p. Unit {0}) e → sum_by (adds e) here ≡ moves e
  adds_moves (Took g b s) known =
      let f = some_function m g b s known.0 in
      let one : ℕ × Function → ℕ = λ x. sum_by (λ k. cond (is_key b s k) 1 0) (keys_from 0 x.1.blocks) in
      let same : (x : ℕ × Function) → adds (Took g b s) x ≡ cond (g == x.0) (one x) 0 = λ x. (let a = added-took (keys_from 0 x.1.blocks) x.0 all g b s in omega arith) in
      let whole = sum_by-same (adds (Took g b s)) (λ x. cond (g == x.0) (one x) 0) same here in
      let hit = sum_one (is_number g) one here (defined_before m.functions g) (g, f.0) (split_of g f.0 f.1 f.2) in
      let taken = added_one f.0.blocks g all g b s (has_slot m g f.0 f.1 g b s known.0) in
      let took = added-took (keys_from 0 f.0.blocks) g all g b s in
      let itself : (g == g) ≡ true = eq-eqb g g refl in
      let picked : Bool → ℕ = λ t. cond t 1 0 in
      let passed : Bool → ℕ = λ t. cond t (one (g, f.0)) 0 in
      whole ∙ hit ∙ sym (ap passed itself) ∙ sym took ∙ taken ∙ ap picked itself
  adds_moves (Entered g) known =
      let same : (x : ℕ × Function) → adds (Entered g) x ≡ cond (g == x.0) 1 0 = λ x. (let a = added-none (keys_from 0 x.1.blocks) x.0 all (Entered g) (λ k. refl) in omega arith) in
      sum_by-same (adds (Entered g)) (λ x. cond (g == x.0) 1 0) same here
      ∙ sum_one (is_number g) (λ x. 1) here (defined_before m.functions g) (g, known.0) (split_of g known.0 known.1 known.2)
  adds_moves Went known = adds_none Went (λ i. refl) (λ i b s. refl)
  adds_moves Wants known = adds_none Wants (λ i. refl) (λ i b s. refl)
  adds_moves (Shows byte) known = adds_none (Shows byte) (λ i. refl) (λ i b s. refl)
  adds_moves (Returned value) known = adds_none (Returned value) (λ i. refl) (λ i b s. refl)
  adds_moves (Trapped trap) known = adds_none (Trapped trap) (λ i. refl) (λ i b s. refl)

  -- one for the first entry, and one for each move
  totals_all : (events : List Event) → Every (IsFound (IsSlotIn m) (IsDefinedIn m) (λ p. Unit {0})) events → sum_by (total_of events) here ≡ sum_by moves events + 1
  totals_all [] known =
      let same : (x : ℕ × Function) → total_of [] x ≡ cond (main == x.0) 1 0 = λ x. (
      let a = weighed-none (keys_from 0 x.1.blocks) x.0 all in
      let picked : Bool → ℕ = λ t. cond t 1 0 in
      let b : picked (x.0 == main) ≡ picked (main == x.0) = ap picked (eqb_sym x.0 main) in
      omega (arith, a, b)) in
      sum_by-same (total_of []) (λ x. cond (main == x.0) 1 0) same here
      ∙ sum_one (is_number main) (λ x. 1) here (defined_before m.functions main) (main, first.0) (split_of main first.0 first.1 first.2)
  totals_all (e ∷ events) known =
      let a = sum_by-add (total_of (e ∷ events)) (adds e) (total_of events) (total_more e events) here in
      let b = adds_moves e known.0 in
      let c = totals_all events known.1 in
      let d = sum_by-cons moves e events in
      omega arith

  pub totals : (events : List Event) → Every (IsFound (IsSlotIn m) (IsDefinedIn m) (λ p. Unit {0})) events → sum_by total (map fn_counts (counts_of m main events)) ≡ sum_by moves events + 1
  totals events known =
      sum_by-map total fn_counts (counts_of m main events)
      ∙ sum_by-map (λ c. total (fn_counts c)) (λ x. function_counts main events x.0 x.1) here
      ∙ sum_by-same _ (total_of events) (totals_are events) here
      ∙ totals_all events known
