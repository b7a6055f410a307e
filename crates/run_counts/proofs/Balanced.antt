-- The counts of a run that returned are balanced.
use Rattle.std.proofs.Common.{◌≡◌, ℕ, ◌+◌, ◌^◌, ◌<◌, Bool, true, false, cond, List, [], ◌∷◌, length, map, Option, Some, refl, sym, ap, ◌∙◌, subst, arith}
use Rattle.std.specs.Prelude.{IsTrue, sum_by, not, slice_get, slice_index, ◌==◌, ◌&&◌}
use Rattle.std.specs.Option.{option_map_or}
use Rattle.std.specs.List.{zip}
use Rattle.std.proofs.lemmas.Bool.{eqb-true}
use Rattle.std.proofs.lemmas.Option.{get_or_from_slice_get}
use Rattle.std.proofs.lemmas.List.Sums.{sum_by-cons}
use Rattle.ir_types.specs.Program.{Program}
use Rattle.ir_types.specs.Limits.{slot_count}
use Rattle.ir_types.specs.declared.syntax.Block.{Block}
use Rattle.ir_types.specs.declared.syntax.Function.{Function}
use Rattle.machines.specs.declared.events.Event.{Event}
use Rattle.machines.specs.declared.events.Event.TheVariants.{Went, Took, Entered, Wants, Shows, Returned, Trapped}
use Rattle.ir_machine.specs.Step.{block_at, blocks_of}
use Rattle.ir_machine.specs.Prof.{entries, takings, is_entry, function_counts}
use Rattle.flow_graph.specs.Slots.{slots_of, slots}
use Rattle.flow_graph.specs.Paths.{IsReached, AreReached}
use Rattle.profile.specs.declared.counts.FnCounts.{FnCounts}
use Rattle.profile.specs.Counts.{HasSlots, counted, entering, leaving, goes_on, is_return, AreCounts}
use Rattle.run_counts.specs.Counted.{fn_counts}
use Rattle.run_counts.proofs.Runs.{Every, moves}
use Rattle.run_counts.proofs.Conserved.{Place, place, entering_by, leaving_by}
use Rattle.run_counts.proofs.Reaching.{IsFound, slot_at}
use Rattle.run_counts.proofs.Placed.{target_in, targets_at, IsSlotIn, IsDefinedIn, IsEndIn}
use Rattle.run_counts.proofs.Keys.{keys_from}
use Rattle.run_counts.proofs.Tallied.{slot_takings_are}
use Rattle.run_counts.proofs.Exits.{exit, exits_from, length-keys_from, slot_count_is}
use Rattle.run_counts.proofs.Weighed.{eqb_sym, sum_by-map, sum_by-same, weighed, added, weighed-none, weighed-more, added-none, added_one, cond_swap, cond_add}
use Rattle.run_counts.proofs.Splits.{length-map}

-- a place that a path meets
abbrev pub IsReachedIn : Program → Place → Type 0
IsReachedIn m p = (f : Function) × (slice_get m.functions p.function ≡ Some f) × IsReached f p.block

-- what is known of the events of a run of main that returned
pub record Gathered (m : Program) (main : ℕ) (events : List Event) : Type 0 where
  pub found : Every (IsFound (IsSlotIn m) (IsDefinedIn m) (IsReachedIn m)) events
  pub conserved : (weight : Place → ℕ) → ((p : Place) → IsEndIn m p → weight p ≡ 0) → sum_by (entering_by (target_in m) weight) events + weight (place main 0) ≡ sum_by (leaving_by (target_in m) weight) events
  pub few : sum_by moves events + 1 < 2 ^ 62

-- each path of a function ends where it ends
same_some : {X : Type 0} (a b : X) (o : Option X) → o ≡ Some a → o ≡ Some b → a ≡ b
same_some a b o e f = let g = sym e ∙ f in cc

module _ (m : Program) (i : ℕ) (f : Function) (there : slice_get m.functions i ≡ Some f) where
  -- its blocks are those of the module
  block_is : (b : ℕ) → block_at m i b ≡ slice_get f.blocks b
  block_is b = ap (λ o. slice_get (blocks_of o) b) there

  leads : (j s t : ℕ) (block : Block) → slice_get f.blocks j ≡ Some block → slice_get (slots_of block.term) s ≡ Some t → target_in m i j s ≡ t
  leads j s t block here slot = ap (λ o. slice_index (targets_at o) s) (block_is j ∙ here) ∙ get_or_from_slice_get (slots_of block.term) s t 0 slot

  module _ (main : ℕ) (events : List Event) where
    abbrev pub counts : FnCounts
    counts = fn_counts (function_counts main events i f)

    abbrev slot_count_at : ℕ × ℕ → ℕ
    slot_count_at k = takings events i k.0 k.1

    counted_are : counted f counts ≡ map (exit (target_in m i) slot_count_at) (keys_from 0 f.blocks)
    counted_are = ap (zip (slots f)) (slot_takings_are events i f.blocks) ∙ exits_from (target_in m i) slot_count_at 0 f.blocks (λ j s t block here slot. let z : 0 + j ≡ j = omega arith in ap (λ k. target_in m i k s) z ∙ leads j s t block here slot)

    pub has_slots : HasSlots f counts
    has_slots = ap length (slot_takings_are events i f.blocks) ∙ length-map slot_count_at (keys_from 0 f.blocks) ∙ length-keys_from 0 f.blocks

    leaving_is : (b : ℕ) → leaving f counts b ≡ weighed (keys_from 0 f.blocks) i (λ k. k.0 == b) events
    leaving_is b =
        let g : (ℕ × ℕ) × ℕ → ℕ = λ s. cond (s.0.0 == b) s.1 0 in
        ap (sum_by g) counted_are ∙ sum_by-map g (exit (target_in m i) slot_count_at) (keys_from 0 f.blocks)

    entering_is : (reached : ℕ → Bool) (b : ℕ) → entering reached f counts b ≡ cond (b == 0) (entries main events i) 0 + weighed (keys_from 0 f.blocks) i (λ k. reached k.0 && (target_in m i k.0 k.1 == b)) events
    entering_is reached b =
        let g : (ℕ × ℕ) × ℕ → ℕ = λ s. cond (reached s.0.0 && (s.0.1 == b)) s.1 0 in
        ap (λ n. cond (b == 0) (entries main events i) 0 + n) (ap (sum_by g) counted_are ∙ sum_by-map g (exit (target_in m i) slot_count_at) (keys_from 0 f.blocks))

  -- ---- by events

  abbrev Known : Event → Type 0
  Known e = IsFound (IsSlotIn m) (IsDefinedIn m) (IsReachedIn m) e

  -- what an event counts for the slots that are picked
  abbrev picked_by : (ℕ × ℕ → Bool) → Event → ℕ
  picked_by picks (Took g b s) = cond (g == i) (cond (picks (b, s)) 1 0) 0
  picked_by picks (Entered g) = 0
  picked_by picks Went = 0
  picked_by picks Wants = 0
  picked_by picks (Shows byte) = 0
  picked_by picks (Returned value) = 0
  picked_by picks (Trapped trap) = 0

  pub has_slot : (g b s : ℕ) → IsSlotIn m (slot_at g b s) → g ≡ i → (block : Block) × (slice_get f.blocks b ≡ Some block) × (s < slot_count block.term)
  has_slot g b s slot e =
      (slot.0, sym (block_is b) ∙ ap (λ k. block_at m k b) (sym e) ∙ slot.1, subst (λ n. s < n) (sym (slot_count_is slot.0.term)) slot.2)

  added_is : (picks : ℕ × ℕ → Bool) (e : Event) → Known e → added (keys_from 0 f.blocks) i picks e ≡ picked_by picks e
  added_is picks (Took g b s) known = added_one f.blocks i picks g b s (has_slot g b s known.0)
  added_is picks (Entered g) known = added-none (keys_from 0 f.blocks) i picks (Entered g) (λ k. refl)
  added_is picks Went known = added-none (keys_from 0 f.blocks) i picks Went (λ k. refl)
  added_is picks Wants known = added-none (keys_from 0 f.blocks) i picks Wants (λ k. refl)
  added_is picks (Shows byte) known = added-none (keys_from 0 f.blocks) i picks (Shows byte) (λ k. refl)
  added_is picks (Returned value) known = added-none (keys_from 0 f.blocks) i picks (Returned value) (λ k. refl)
  added_is picks (Trapped trap) known = added-none (keys_from 0 f.blocks) i picks (Trapped trap) (λ k. refl)

  pub weighed_is : (picks : ℕ × ℕ → Bool) (events : List Event) → Every Known events → weighed (keys_from 0 f.blocks) i picks events ≡ sum_by (picked_by picks) events
  weighed_is picks [] known = weighed-none (keys_from 0 f.blocks) i picks
  weighed_is picks (e ∷ events) known =
      let a = weighed-more (keys_from 0 f.blocks) i picks e events in
      let b = added_is picks e known.0 in
      let c = weighed_is picks events known.1 in
      let d = sum_by-cons (picked_by picks) e events in
      omega arith

  -- ---- block by block

  module _ (b : ℕ) where
    -- the block's own weight
    abbrev pub weight_of : Place → ℕ
    weight_of p = cond (p.function == i) (cond (p.block == b) 1 0) 0

    leaves_alike : (e : Event) → picked_by (λ k. k.0 == b) e ≡ leaving_by (target_in m) weight_of e
    leaves_alike (Took g b' s) = refl
    leaves_alike (Entered g) = refl
    leaves_alike Went = refl
    leaves_alike Wants = refl
    leaves_alike (Shows byte) = refl
    leaves_alike (Returned value) = refl
    leaves_alike (Trapped trap) = refl

    pub leaving_all : (main : ℕ) (events : List Event) → Every Known events → leaving f (counts main events) b ≡ sum_by (leaving_by (target_in m) weight_of) events
    leaving_all main events known = leaving_is main events b ∙ weighed_is (λ k. k.0 == b) events known ∙ sum_by-same _ _ leaves_alike events

    -- a block at which a return ends has no weight, if it is none
    pub no_end : IsTrue (goes_on f b) → (p : Place) → IsEndIn m p → weight_of p ≡ 0
    no_end goes p end =
        elim (p.function == i) as (λ t. (p.function == i) ≡ t → ◌≡◌ {A = ℕ} (cond t (cond (p.block == b) 1 0) 0) 0) [
          | true ↦ (λ e. elim (p.block == b) as (λ t. (p.block == b) ≡ t → ◌≡◌ {A = ℕ} (cond t 1 0) 0) [
            | true ↦ (λ e'.
                let at : slice_get f.blocks b ≡ Some end.0 = sym (block_is b) ∙ ap (λ k. block_at m k b) (sym (eqb-true p.function i e)) ∙ ap (block_at m p.function) (sym (eqb-true p.block b e')) ∙ end.1 in
                let no_return : goes_on f b ≡ false = ap (λ o. option_map_or (λ (x : Block). not (is_return x.term)) o false) at ∙ ap not end.2 in
                let wrong : false ≡ true = subst IsTrue no_return goes in absurd (cc wrong))
            | false ↦ (λ e'. refl)
          ] refl)
          | false ↦ (λ e. refl)
        ] refl

    -- nothing leaves a block that no path meets
    nothing_leaves : (IsReached f b → ⊥) → (e : Event) → Known e → leaving_by (target_in m) weight_of e ≡ 0
    nothing_leaves unreached (Took g b' s) known =
        elim (g == i) as (λ t. (g == i) ≡ t → ◌≡◌ {A = ℕ} (cond t (cond (b' == b) 1 0) 0) 0) [
          | true ↦ (λ e. elim (b' == b) as (λ t. (b' == b) ≡ t → ◌≡◌ {A = ℕ} (cond t 1 0) 0) [
            | true ↦ (λ e'.
                let r = known.1 in
                let same : r.0 ≡ f = same_some r.0 f (slice_get m.functions i) (ap (slice_get m.functions) (sym (eqb-true g i e)) ∙ r.1) there in
                absurd (unreached (subst (IsReached f) (eqb-true b' b e') (subst (λ h. IsReached h b') same r.2))))
            | false ↦ (λ e'. refl)
          ] refl)
          | false ↦ (λ e. refl)
        ] refl
    nothing_leaves unreached (Entered g) known = refl
    nothing_leaves unreached Went known = refl
    nothing_leaves unreached Wants known = refl
    nothing_leaves unreached (Shows byte) known = refl
    nothing_leaves unreached (Returned value) known = refl
    nothing_leaves unreached (Trapped trap) known = refl

    pub none_leaves : (IsReached f b → ⊥) → (events : List Event) → Every Known events → sum_by (leaving_by (target_in m) weight_of) events ≡ 0
    none_leaves unreached [] known = refl
    none_leaves unreached (e ∷ events) known =
        let a = sum_by-cons (leaving_by (target_in m) weight_of) e events in
        let b = nothing_leaves unreached e known.0 in
        let c = none_leaves unreached events known.1 in
        omega arith

    module _ (reached : ℕ → Bool) (are : AreReached f reached) where
      abbrev into : ℕ × ℕ → Bool
      into k = reached k.0 && (target_in m i k.0 k.1 == b)

      -- what an event counts of entering the block
      abbrev enters_by : Event → ℕ
      enters_by e = cond (b == 0) (cond (is_entry i e) 1 0) 0 + picked_by into e

      zero_left : (n : ℕ) → cond (b == 0) 0 0 + n ≡ n
      zero_left n = elim (b == 0) as (λ t. cond t 0 0 + n ≡ n) [ true ↦ omega arith | false ↦ omega arith ]

      first_is : (g : ℕ) → cond (b == 0) (cond (g == i) 1 0) 0 ≡ weight_of (place g 0)
      first_is g = cond_swap (b == 0) (g == i) 1 ∙ ap (λ t. cond (g == i) (cond t 1 0) 0) (eqb_sym b 0)

      enters_alike : (e : Event) → Known e → enters_by e ≡ entering_by (target_in m) weight_of e
      enters_alike (Took g b' s) known =
          zero_left (picked_by into (Took g b' s)) ∙ elim (g == i) as (λ t. (g == i) ≡ t → ◌≡◌ {A = ℕ} (cond t (cond (into (b', s)) 1 0) 0) (cond t (cond (target_in m g b' s == b) 1 0) 0)) [
            | true ↦ (λ e.
                let r = known.1 in
                let g_is = eqb-true g i e in
                let same : r.0 ≡ f = same_some r.0 f (slice_get m.functions i) (ap (slice_get m.functions) (sym g_is) ∙ r.1) there in
                let met : reached b' ≡ true = (are b').1 (subst (λ h. IsReached h b') same r.2) in
                ap (λ t. cond (t && (target_in m i b' s == b)) 1 0) met ∙ ap (λ k. cond (target_in m k b' s == b) 1 0) (sym g_is))
            | false ↦ (λ e. refl)
          ] refl
      enters_alike (Entered g) known = let z = first_is g in omega arith
      enters_alike Went known = zero_left 0
      enters_alike Wants known = zero_left 0
      enters_alike (Shows byte) known = zero_left 0
      enters_alike (Returned value) known = zero_left 0
      enters_alike (Trapped trap) known = zero_left 0

      enters_all : (main : ℕ) (events : List Event) → Every Known events → cond (b == 0) (entries main events i) 0 + sum_by (picked_by into) events ≡ sum_by (entering_by (target_in m) weight_of) events + weight_of (place main 0)
      enters_all main [] known =
          let a = first_is main in
          let c : cond (b == 0) (entries main [] i) 0 ≡ cond (b == 0) (cond (main == i) 1 0) 0 = ap (λ n. cond (b == 0) n 0) (ap (λ t. 0 + cond t 1 0) (eqb_sym i main) ∙ omega arith) in
          omega arith
      enters_all main (e ∷ events) known =
          let more : entries main (e ∷ events) i ≡ cond (is_entry i e) 1 0 + entries main events i = omega (arith, sum_by-cons (λ e. cond (is_entry i e) 1 0) e events) in
          let a = cond_add (b == 0) (entries main (e ∷ events) i) (cond (is_entry i e) 1 0) (entries main events i) more in
          let c = sum_by-cons (picked_by into) e events in
          let d = sum_by-cons (entering_by (target_in m) weight_of) e events in
          let h = enters_alike e known.0 in
          let rest = enters_all main events known.1 in
          omega arith

      pub entering_all : (main : ℕ) (events : List Event) → Every Known events → entering reached f (counts main events) b ≡ sum_by (entering_by (target_in m) weight_of) events + weight_of (place main 0)
      entering_all main events known =
          let a = entering_is main events reached b in
          let c = weighed_is into events known in
          let d = enters_all main events known in
          omega arith

  pub are_counts : (main : ℕ) (events : List Event) → Gathered m main events → AreCounts f (counts main events)
  are_counts main events gathered = record {
    slots = has_slots main events;
    balanced = λ reached are b met goes.
        entering_all b reached are main events gathered.found
        ∙ gathered.conserved (weight_of b) (no_end b goes)
        ∙ sym (leaving_all b main events gathered.found);
    unreached = λ b unreached. leaving_all b main events gathered.found ∙ none_leaves b unreached events gathered.found;
  }
