-- One event more in a tally.
use Rattle.std.proofs.Common.{◌≡◌, ◌⊎◌, ⊎_elim, ℕ, zero, suc, ◌+◌, ◌-◌, ◌^◌, ◌<◌, ◌≤◌, Bool, true, false, cond, List, [], ◌∷◌, ◌++◌, length, map, take, get_or, min, Option, Some, refl, sym, ap, ◌∙◌, subst, arith}
use Rattle.std.specs.Prelude.{slice_get, slice_set, slice_index, ◌==◌, ◌&&◌}
use Rattle.std.proofs.lemmas.Option.{slice_get_within, get_or_from_slice_get}
use Rattle.std.proofs.lemmas.List.Sums.{sum_by-cons, count_by-le-length}
use Rattle.ir_types.specs.Program.{Program}
use Rattle.ir_types.specs.Limits.{slot_count}
use Rattle.ir_types.specs.declared.syntax.Block.{Block}
use Rattle.ir_types.specs.declared.syntax.Function.{Function}
use Rattle.mc_num.specs.declared.op.Trap.{Trap}
use Rattle.machines.specs.declared.events.Event.{Event}
use Rattle.machines.specs.declared.events.Event.TheVariants.{Went, Took, Entered, Wants, Shows, Returned, Trapped}
use Rattle.ir_machine.specs.Same.{is_defined}
use Rattle.ir_machine.specs.Prof.{entries, takings, is_entry, is_taking, slot_takings, function_counts, counts_of}
use Rattle.profile.specs.declared.counts.FnCounts.{FnCounts}
use Rattle.run_counts.specs.Counted.{fn_counts}
use Rattle.run_counts.proofs.Keys.{slots_before}
use Rattle.run_counts.proofs.Tallied.{defined_before, counts_at, counts_set, counts_kept, entered_counts, took_counts}
use Rattle.interp.specs.Tallies.{starts_from, HasSlot, HasFunction}
use Rattle.interp.specs.TallyOf.{places_from, IsTally}
use Rattle.interp.specs.declared.tally.Places.{Places}
use Rattle.interp.specs.declared.tally.Tally.{Tally}

starts_at : (n : ℕ) (blocks : List Block) (b : ℕ) (block : Block) → slice_get blocks b ≡ Some block → slice_get (starts_from n blocks) b ≡ Some (n + slots_before blocks b)
starts_at n [] b block there = cc
starts_at n (x ∷ blocks) zero block there = let e : n + 0 ≡ n = omega arith in ap Some (sym e)
starts_at n (x ∷ blocks) (suc b) block there =
    let sum : slots_before (x ∷ blocks) (suc b) ≡ slot_count x.term + slots_before blocks b = sum_by-cons (λ b. slot_count b.term) x (take b blocks) in
    let e : (n + slot_count x.term) + slots_before blocks b ≡ n + slots_before (x ∷ blocks) (suc b) = omega (arith, sum) in
    starts_at (n + slot_count x.term) blocks b block there ∙ ap Some e

abbrev pub places_at : ℕ → List Function → ℕ → Function → Places
places_at n fs i f = record { index = n + defined_before fs i; starts = starts_from 0 f.blocks }

places_are : (n : ℕ) (fs : List Function) (i : ℕ) (f : Function) → slice_get fs i ≡ Some f → slice_get (places_from n fs) i ≡ Some (places_at n fs i f)
places_are n [] i f there = cc
places_are n (g ∷ fs) zero f there =
    let same : g ≡ f = cc in
    let e : n ≡ n + 0 = omega arith in
    ap (λ (g : Function). Some (record { index = n; starts = starts_from 0 g.blocks })) same ∙ ap (λ k. Some (record { index = k; starts = starts_from 0 f.blocks })) e
places_are n (g ∷ fs) (suc i) f there =
    let b = is_defined g.blocks in
    let sum : defined_before (g ∷ fs) (suc i) ≡ cond b 1 0 + defined_before fs i = sum_by-cons (λ f. cond (is_defined f.blocks) 1 0) g (take i fs) in
    let one : (b : Bool) → cond b (n + 1) n ≡ n + cond b 1 0 = elim [ true ↦ refl | false ↦ omega arith ] in
    let first = one b in
    let e : cond b (n + 1) n + defined_before fs i ≡ n + defined_before (g ∷ fs) (suc i) = omega (arith, first, sum) in
    places_are (cond b (n + 1) n) fs i f there ∙ ap (λ k. Some (record { index = k; starts = starts_from 0 f.blocks })) e

-- ---- what is there

module _ (m : Program) (main : ℕ) (events : List Event) (t : Tally) (is : IsTally m main events t) (i : ℕ) (f : Function) (there : slice_get m.functions i ≡ Some f) where
  place_there : slice_get t.places.items i ≡ Some (places_at 0 m.functions i f)
  place_there = ap (λ l. slice_get l i) is.places ∙ places_are 0 m.functions i f there

  pub place_within : i < length t.places.items
  place_within = slice_get_within t.places.items i (places_at 0 m.functions i f) place_there

  pub place_is : (p : Places) → p ≡ get_or t.places.items i p → p ≡ places_at 0 m.functions i f
  place_is p e = e ∙ get_or_from_slice_get t.places.items i (places_at 0 m.functions i f) p place_there

  index_is : (p : Places) → p ≡ get_or t.places.items i p → p.index ≡ defined_before m.functions i
  index_is p e = let z : 0 + defined_before m.functions i ≡ defined_before m.functions i = omega arith in ap (λ p. p.index) (place_is p e) ∙ z

  module _ (defined : is_defined f.blocks ≡ true) where
    abbrev pub own : FnCounts
    own = fn_counts (function_counts main events i f)

    counts_there : slice_get t.counts.items (defined_before m.functions i) ≡ Some own
    counts_there = ap (λ l. slice_get l (defined_before m.functions i)) is.counts ∙ counts_at fn_counts m main i f there defined events

    pub counts_within : (p : Places) → p ≡ get_or t.places.items i p → p.index < length t.counts.items
    counts_within p e = subst (λ n. n < length t.counts.items) (sym (index_is p e)) (slice_get_within t.counts.items (defined_before m.functions i) own counts_there)

    pub counts_are : (p : Places) (c : FnCounts) → p ≡ get_or t.places.items i p → c ≡ get_or t.counts.items p.index c → c ≡ own
    counts_are p c e at = at ∙ ap (λ n. get_or t.counts.items n c) (index_is p e) ∙ get_or_from_slice_get t.counts.items (defined_before m.functions i) own c counts_there

    -- the counts after an event of this function
    pub counts_after : (event : Event) → ((k : ℕ) → (i == k) ≡ false → is_entry k event ≡ false) → ((k b s : ℕ) → (i == k) ≡ false → is_taking k b s event ≡ false) → (p : Places) (c : FnCounts) → p ≡ get_or t.places.items i p → c ≡ fn_counts (function_counts main (events ++ event ∷ []) i f) → slice_set t.counts.items p.index c ≡ map fn_counts (counts_of m main (events ++ event ∷ []))
    counts_after event no_entry no_taking p c e c_is =
        let at = defined_before m.functions i in
        ap (λ l. slice_set l p.index c) is.counts
        ∙ ap (λ n. slice_set (map fn_counts (counts_of m main events)) n c) (index_is p e)
        ∙ ap (λ c. slice_set (map fn_counts (counts_of m main events)) at c) c_is
        ∙ sym (counts_set fn_counts m main i f there defined events event no_entry no_taking)

pub raised_is : (n : ℕ) → n + 1 < 2 ^ 64 → min (n + 1) (2 ^ 64 - 1) ≡ n + 1
raised_is n lt = omega arith

few_entries : (main i : ℕ) (events : List Event) → entries main events i ≤ length events + 1
few_entries main i events =
    let a = count_by-le-length (is_entry i) events in
    let one : (b : Bool) → cond b 1 0 ≤ 1 = elim [ true ↦ omega arith | false ↦ omega arith ] in
    let b = one (i == main) in
    omega (arith, a, b)

few_takings : (events : List Event) (i b s : ℕ) → takings events i b s ≤ length events
few_takings events i b s = count_by-le-length (is_taking i b s) events

pub entered : (m : Program) (main : ℕ) (events : List Event) (t : Tally) (i n : ℕ) (p : Places) (c : FnCounts) → IsTally m main events t → HasFunction m i → length events < 2 ^ 63 → p ≡ get_or t.places.items i p → c ≡ get_or t.counts.items p.index c → n ≡ min (c.entry + 1) (2 ^ 64 - 1) → slice_set t.counts.items p.index (record { entry = n; slots = c.slots }) ≡ map fn_counts (counts_of m main (events ++ Entered i ∷ []))
entered m main events t i n p c is has few place there n_is =
    let f = has.function in
    let c_is = counts_are m main events t is i f has.there has.defined p c place there in
    let le = few_entries main i events in
    let n' : n ≡ entries main events i + 1 = n_is ∙ ap (λ (c : FnCounts). min (c.entry + 1) (2 ^ 64 - 1)) c_is ∙ raised_is (entries main events i) (omega (arith, le, few)) in
    let slots = ap (λ (c : FnCounts). c.slots) c_is in
    let whole = entered_counts main i f events in
    let new : FnCounts = record { entry = n; slots = c.slots } in
    let new_is : new ≡ fn_counts (function_counts main (events ++ Entered i ∷ []) i f) = ap (λ k. record { entry = k; slots = c.slots }) n' ∙ ap (λ l. record { entry = entries main events i + 1; slots = l }) slots ∙ sym (ap fn_counts whole) in
    counts_after m main events t is i f has.there has.defined (Entered i) (λ k other. other) (λ k b s other. refl) p new place new_is

has_block : (blocks : List Block) (b : ℕ) (block : Block) → slice_get blocks b ≡ Some block → is_defined blocks ≡ true
has_block [] b block e = cc
has_block (x ∷ xs) b block e = refl

module _ (m : Program) (main : ℕ) (events : List Event) (t : Tally) (i b s : ℕ) (p : Places) (c : FnCounts) (is : IsTally m main events t) (has : HasSlot m i b s) (place : p ≡ get_or t.places.items i p) where
  abbrev start : ℕ
  start = slots_before has.function.blocks b

  starts_are : slice_get p.starts b ≡ Some start
  starts_are =
      let z : 0 + start ≡ start = omega arith in
      ap (λ (p : Places). slice_get p.starts b) (place_is m main events t is i has.function has.function_there p place)
      ∙ starts_at 0 has.function.blocks b has.block has.block_there
      ∙ ap Some z

  pub start_within : b < length p.starts
  start_within = slice_get_within p.starts b start starts_are

  start_is : slice_index p.starts b ≡ start
  start_is = get_or_from_slice_get p.starts b start 0 starts_are

  is_here : is_defined has.function.blocks ≡ true
  is_here = has_block has.function.blocks b has.block has.block_there

  pub own_within : p.index < length t.counts.items
  own_within = counts_within m main events t is i has.function has.function_there is_here p place

  module _ (there : c ≡ get_or t.counts.items p.index c) where
    own_is : c ≡ fn_counts (function_counts main events i has.function)
    own_is = counts_are m main events t is i has.function has.function_there is_here p c place there

    slot_there : slice_get c.slots (slice_index p.starts b + s) ≡ Some (takings events i b s)
    slot_there =
        ap (λ (c : FnCounts). slice_get c.slots (slice_index p.starts b + s)) own_is
        ∙ ap (λ n. slice_get (slot_takings events i has.function.blocks) (n + s)) start_is
        ∙ (took_counts main i has.function b s has.block events has.block_there has.inside).0

    pub slot_within : slice_index p.starts b + s < length c.slots
    slot_within = slice_get_within c.slots (slice_index p.starts b + s) (takings events i b s) slot_there

    pub took : (slots' : List ℕ) (at : ℕ) → length events < 2 ^ 63 → at ≡ slice_index p.starts b + s → ((count : ℕ) → slice_get c.slots at ≡ Some count → slots' ≡ slice_set c.slots at (min (count + 1) (2 ^ 64 - 1))) → slice_set t.counts.items p.index (record { entry = c.entry; slots = slots' }) ≡ map fn_counts (counts_of m main (events ++ Took i b s ∷ []))
    took slots' at few at_is raises =
        let f = has.function in
        let n = takings events i b s in
        let le = few_takings events i b s in
        let place' = start + s in
        let at_is' : at ≡ place' = at_is ∙ ap (λ k. k + s) start_is in
        let slots_is : slots' ≡ slice_set (slot_takings events i f.blocks) place' (n + 1) =
        raises n (ap (slice_get c.slots) at_is ∙ slot_there)
        ∙ ap (slice_set c.slots at) (raised_is n (omega (arith, le, few)))
        ∙ ap (λ (c : FnCounts). slice_set c.slots at (n + 1)) own_is
        ∙ ap (λ k. slice_set (slot_takings events i f.blocks) k (n + 1)) at_is'
        in
        let entry_is : c.entry ≡ entries main events i = ap (λ (c : FnCounts). c.entry) own_is in
        let new : FnCounts = record { entry = c.entry; slots = slots' } in
        let whole = (took_counts main i f b s has.block events has.block_there has.inside).1 in
        let new_is : new ≡ fn_counts (function_counts main (events ++ Took i b s ∷ []) i f) = ap (λ k. record { entry = k; slots = slots' }) entry_is ∙ ap (λ l. record { entry = entries main events i; slots = l }) slots_is ∙ sym (ap fn_counts whole) in
        counts_after m main events t is i f has.function_there is_here (Took i b s) (λ k other. refl) (λ k b' s' other. ap (λ x. (x && (b == b')) && (s == s')) other) p new place new_is

-- an event that is neither
pub nothing_added : (m : Program) (main : ℕ) (events : List Event) (t : Tally) (event : Event) → ((i : ℕ) → is_entry i event ≡ false) → ((i b s : ℕ) → is_taking i b s event ≡ false) → IsTally m main events t → IsTally m main (events ++ event ∷ []) t
nothing_added m main events t event no_entry no_taking is = record {
  counts = is.counts ∙ ap (map fn_counts) (sym (counts_kept events event m main no_entry no_taking));
  places = is.places;
}

abbrev IsNeither : Event → Type 0
IsNeither event = ((i : ℕ) → is_entry i event ≡ false) × ((i b s : ℕ) → is_taking i b s event ≡ false)

-- the events that are neither
pub is_neither : (event : Event) → (event ≡ Went) ⊎ ((event ≡ Wants) ⊎ (((byte : ℕ) × (event ≡ Shows byte)) ⊎ (((value : Option ℕ) × (event ≡ Returned value)) ⊎ ((trap : Trap) × (event ≡ Trapped trap))))) → IsNeither event
is_neither event cases =
    ⊎_elim (λ e. subst IsNeither (sym e) ((λ i. refl), (λ i b s. refl)))
    (λ cases. ⊎_elim (λ e. subst IsNeither (sym e) ((λ i. refl), (λ i b s. refl)))
    (λ cases. ⊎_elim (λ e. subst IsNeither (sym e.1) ((λ i. refl), (λ i b s. refl)))
    (λ cases. ⊎_elim (λ e. subst IsNeither (sym e.1) ((λ i. refl), (λ i b s. refl)))
    (λ e. subst IsNeither (sym e.1) ((λ i. refl), (λ i b s. refl)))
    cases) cases) cases) cases
