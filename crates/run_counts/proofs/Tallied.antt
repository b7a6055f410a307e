-- What one event more does to the counts.
use Rattle.std.proofs.Common.{◌≡◌, ℕ, zero, suc, ◌+◌, ◌<◌, Bool, true, false, cond, eq-eqb, List, [], ◌∷◌, ◌++◌, length, map, take, filter, Some, refl, sym, ap, ◌∙◌, subst, arith}
use Rattle.std.specs.Prelude.{count_by, slice_get, slice_set, ◌==◌, ◌&&◌, flat_map, if◌then◌else◌}
use Rattle.std.specs.List.{enumerate_from, range_with_len}
use Rattle.std.proofs.lemmas.List.Sums.{sum_by-cons, sum_by_push}
use Rattle.ir_types.specs.Limits.{slot_count}
use Rattle.ir_types.specs.Program.{Program}
use Rattle.ir_types.specs.declared.syntax.Block.{Block}
use Rattle.ir_types.specs.declared.syntax.Function.{Function}
use Rattle.machines.specs.declared.events.Event.{Event}
use Rattle.machines.specs.declared.events.Event.TheVariants.{Took, Entered}
use Rattle.ir_machine.specs.Same.{is_defined}
use Rattle.ir_machine.specs.Prof.{Counts, entries, takings, is_entry, is_taking, slot_takings, function_counts, counts_of}
use Rattle.run_counts.proofs.Runs.{Every}
use Rattle.run_counts.proofs.Splits.{Split, get_one, set_one, split_before, map-append}
use Rattle.run_counts.proofs.Keys.{keys_of, keys_from, is_key, slots_before, key_splits, ne_eqb, key_true}

and_both : (a b c : Bool) → ((a && b) && c) ≡ (a && (b && c))
and_both true b c = refl
and_both false b c = refl

map-map : {A B C : Type 0} (g : B → C) (f : A → B) (xs : List A) → map g (map f xs) ≡ map (λ x. g (f x)) xs
map-map g f [] = refl
map-map g f (x ∷ xs) = ap (λ l. g (f x) ∷ l) (map-map g f xs)

-- the counts of slots, one for each key
takings_are : (events : List Event) (function i : ℕ) (blocks : List Block) → flat_map (λ b. map (takings events function b.0) (range_with_len 0 (slot_count b.1.term))) (enumerate_from i blocks) ≡ map (λ k. takings events function k.0 k.1) (keys_from i blocks)
takings_are events function i [] = refl
takings_are events function i (b ∷ blocks) =
    let t : ℕ × ℕ → ℕ = λ k. takings events function k.0 k.1 in
    let n = slot_count b.term in
    ap (λ l. map (takings events function i) (range_with_len 0 n) ++ l) (takings_are events function (i + 1) blocks)
    ∙ ap (λ l. l ++ map t (keys_from (i + 1) blocks)) (sym (map-map t (λ s. (i, s)) (range_with_len 0 n)))
    ∙ sym (map-append t (keys_of i 0 n) (keys_from (i + 1) blocks))

pub slot_takings_are : (events : List Event) (function : ℕ) (blocks : List Block) → slot_takings events function blocks ≡ map (λ k. takings events function k.0 k.1) (keys_from 0 blocks)
slot_takings_are events function blocks = takings_are events function 0 blocks

module _ (events : List Event) (event : Event) where
  abbrev pub more : List Event
  more = events ++ event ∷ []

  takings_more : (f b s : ℕ) → takings more f b s ≡ takings events f b s + (if is_taking f b s event then 1 else 0)
  takings_more f b s = sum_by_push (λ e. cond (is_taking f b s e) 1 0) events event

  entries_more : (main f : ℕ) → entries main more f ≡ entries main events f + (if is_entry f event then 1 else 0)
  entries_more main f = let a = sum_by_push (λ e. cond (is_entry f e) 1 0) events event in omega (arith, a)

-- ---- functions

abbrev pub is_number : ℕ → ℕ × Function → Bool
is_number i x = i == x.0

abbrev pub has_blocks : ℕ × Function → Bool
has_blocks x = is_defined x.1.blocks

abbrev pub defined_from : ℕ → List Function → List (ℕ × Function)
defined_from i fs = filter has_blocks (enumerate_from i fs)

-- how many functions before the n-th are defined
abbrev pub defined_before : List Function → ℕ → ℕ
defined_before fs n = count_by (λ f. is_defined f.blocks) (take n fs)

later_functions : (i from : ℕ) (fs : List Function) → i < from → Every (λ x. is_number i x ≡ false) (defined_from from fs)
later_functions i from [] lt = tt
later_functions i from (f ∷ fs) lt =
    elim (is_defined f.blocks) as (λ b. Every (λ x. is_number i x ≡ false) (cond b ((from, f) ∷ defined_from (from + 1) fs) (defined_from (from + 1) fs))) [
      | true ↦ (ne_eqb i from (λ e. absurd (omega arith)), later_functions i (from + 1) fs (omega arith))
      | false ↦ later_functions i (from + 1) fs (omega arith)
    ]

-- a defined function stands behind those defined before it
pub function_splits : (i : ℕ) (fs : List Function) (j : ℕ) (f : Function) → slice_get fs j ≡ Some f → is_defined f.blocks ≡ true → Split (is_number (i + j)) (defined_from i fs) (defined_before fs j) (i + j, f)
function_splits i [] j f there defined = cc
function_splits i (g ∷ fs) zero f there defined =
    let same : g ≡ f = cc in
    let e : i + 0 ≡ i = omega arith in
    let d : is_defined g.blocks ≡ true = ap (λ f. is_defined f.blocks) same ∙ defined in
    let list : defined_from i (g ∷ fs) ≡ (i, g) ∷ defined_from (i + 1) fs = ap (λ b. cond b ((i, g) ∷ defined_from (i + 1) fs) (defined_from (i + 1) fs)) d in
    record {
      front = [];
      back = defined_from (i + 1) fs;
      is = list ∙ ap (λ x. x ∷ defined_from (i + 1) fs) (ap (λ n. (n, g)) (sym e) ∙ ap (λ f. (i + 0, f)) same);
      place = refl;
      passes = eq-eqb (i + 0) (i + 0) refl;
      front_fails = tt;
      back_fails = later_functions (i + 0) (i + 1) fs (omega arith);
    }
function_splits i (g ∷ fs) (suc j) f there defined =
    let e : (i + 1) + j ≡ i + suc j = omega arith in
    let a = subst (λ k. Split (is_number k) (defined_from (i + 1) fs) (defined_before fs j) (k, f)) e (function_splits (i + 1) fs j f there defined) in
    let front : Bool → List (ℕ × Function) = λ b. cond b ((i, g) ∷ []) [] in
    let fails : (b : Bool) → Every (λ x. is_number (i + suc j) x ≡ false) (front b) = elim [ true ↦ (ne_eqb (i + suc j) i (λ e. absurd (omega arith)), tt) | false ↦ tt ] in
    let joined : (b : Bool) → cond b ((i, g) ∷ defined_from (i + 1) fs) (defined_from (i + 1) fs) ≡ front b ++ defined_from (i + 1) fs = elim [ true ↦ refl | false ↦ refl ] in
    let len : (b : Bool) → length (front b) ≡ cond b 1 0 = elim [ true ↦ refl | false ↦ refl ] in
    let b = is_defined g.blocks in
    let c = split_before (is_number (i + suc j)) (front b) (defined_from (i + 1) fs) (defined_before fs j) (i + suc j, f) (fails b) a in
    let n : defined_before (g ∷ fs) (suc j) ≡ cond b 1 0 + defined_before fs j = sum_by-cons (λ f. cond (is_defined f.blocks) 1 0) g (take j fs) in
    let at : length (front b) + defined_before fs j ≡ defined_before (g ∷ fs) (suc j) = ap (λ k. k + defined_before fs j) (len b) ∙ sym n in
    subst (λ l. Split (is_number (i + suc j)) l (defined_before (g ∷ fs) (suc j)) (i + suc j, f)) (sym (joined b))
    (subst (λ k. Split (is_number (i + suc j)) (front b ++ defined_from (i + 1) fs) k (i + suc j, f)) at c)

-- ---- one event more

map-same : {X Y : Type 0} (f g : X → Y) → ((x : X) → g x ≡ f x) → (xs : List X) → map g xs ≡ map f xs
map-same f g same [] = refl
map-same f g same (x ∷ xs) = let a = same x in let b = map-same f g same xs in cc

module _ (events : List Event) (event : Event) where
  takings_kept : (f b s : ℕ) → is_taking f b s event ≡ false → takings (more events event) f b s ≡ takings events f b s
  takings_kept f b s no_taking =
      let picked : Bool → ℕ = λ t. cond t 1 0 in
      let a = ap picked no_taking in
      let b' = takings_more events event f b s in
      omega (arith, a, b')

  takings_raised : (f b s : ℕ) → is_taking f b s event ≡ true → takings (more events event) f b s ≡ takings events f b s + 1
  takings_raised f b s taking =
      let picked : Bool → ℕ = λ t. cond t 1 0 in
      let a = ap picked taking in
      let b' = takings_more events event f b s in
      omega (arith, a, b')

  entries_kept : (main f : ℕ) → is_entry f event ≡ false → entries main (more events event) f ≡ entries main events f
  entries_kept main f no_entry =
      let picked : Bool → ℕ = λ t. cond t 1 0 in
      let a = ap picked no_entry in
      let b = entries_more events event main f in
      omega (arith, a, b)

  entries_raised : (main f : ℕ) → is_entry f event ≡ true → entries main (more events event) f ≡ entries main events f + 1
  entries_raised main f entry =
      let picked : Bool → ℕ = λ t. cond t 1 0 in
      let a = ap picked entry in
      let b = entries_more events event main f in
      omega (arith, a, b)

  slots_kept : (f : ℕ) (blocks : List Block) → ((b s : ℕ) → is_taking f b s event ≡ false) → slot_takings (more events event) f blocks ≡ slot_takings events f blocks
  slots_kept f blocks no_taking =
      slot_takings_are (more events event) f blocks
      ∙ map-same (λ k. takings events f k.0 k.1) (λ k. takings (more events event) f k.0 k.1) (λ k. takings_kept f k.0 k.1 (no_taking k.0 k.1)) (keys_from 0 blocks)
      ∙ sym (slot_takings_are events f blocks)

  function_kept : (main i : ℕ) (f : Function) → is_entry i event ≡ false → ((b s : ℕ) → is_taking i b s event ≡ false) → function_counts main (more events event) i f ≡ function_counts main events i f
  function_kept main i f no_entry no_taking =
      let a = entries_kept main i no_entry in
      let b = slots_kept i f.blocks no_taking in
      cc

  -- an event that is neither
  pub counts_kept : (m : Program) (main : ℕ) → ((i : ℕ) → is_entry i event ≡ false) → ((i b s : ℕ) → is_taking i b s event ≡ false) → counts_of m main (more events event) ≡ counts_of m main events
  counts_kept m main no_entry no_taking =
      map-same (λ x. function_counts main events x.0 x.1) (λ x. function_counts main (more events event) x.0 x.1) (λ x. function_kept main x.0 x.1 (no_entry x.0) (no_taking x.0)) (defined_from 0 m.functions)

module _ {Y : Type 0} (told : Counts → Y) (m : Program) (main i : ℕ) (f : Function) (there : slice_get m.functions i ≡ Some f) (defined : is_defined f.blocks ≡ true) where
  abbrev told_counts : List Event → List Y
  told_counts events = map told (counts_of m main events)

  split_here : Split (is_number i) (defined_from 0 m.functions) (defined_before m.functions i) (i, f)
  split_here =
      let z : 0 + i ≡ i = omega arith in
      subst (λ n. Split (is_number n) (defined_from 0 m.functions) (defined_before m.functions i) (n, f)) z (function_splits 0 m.functions i f there defined)

  abbrev counts_in : List Event → ℕ × Function → Y
  counts_in events x = told (function_counts main events x.0 x.1)

  joined : (events : List Event) → told_counts events ≡ map (counts_in events) (defined_from 0 m.functions)
  joined events = map-map told (λ x. function_counts main events x.0 x.1) (defined_from 0 m.functions)

  -- the counts of the function, at its place
  pub counts_at : (events : List Event) → slice_get (told_counts events) (defined_before m.functions i) ≡ Some (told (function_counts main events i f))
  counts_at events = ap (λ l. slice_get l (defined_before m.functions i)) (joined events) ∙ get_one (is_number i) (defined_from 0 m.functions) (defined_before m.functions i) (i, f) split_here (counts_in events)

  -- an event of the function changes its counts alone
  pub counts_set : (events : List Event) (event : Event) → ((k : ℕ) → (i == k) ≡ false → is_entry k event ≡ false) → ((k b s : ℕ) → (i == k) ≡ false → is_taking k b s event ≡ false) → told_counts (more events event) ≡ slice_set (told_counts events) (defined_before m.functions i) (told (function_counts main (more events event) i f))
  counts_set events event no_entry no_taking =
      joined (more events event)
      ∙ set_one (is_number i) (defined_from 0 m.functions) (defined_before m.functions i) (i, f) split_here (counts_in events) (counts_in (more events event))
      (λ x other. ap told (function_kept events event main x.0 x.1 (no_entry x.0 other) (λ b s. no_taking x.0 b s other)))
      ∙ ap (λ l. slice_set l (defined_before m.functions i) (told (function_counts main (more events event) i f))) (sym (joined events))

-- an entry
pub entered_counts : (main i : ℕ) (f : Function) (events : List Event) → function_counts main (more events (Entered i)) i f ≡ record { entry = entries main events i + 1; slots = slot_takings events i f.blocks }
entered_counts main i f events =
    let a = entries_raised events (Entered i) main i (eq-eqb i i refl) in
    let b = slots_kept events (Entered i) i f.blocks (λ b s. refl) in
    cc

-- a slot taken
pub took_counts : (main i : ℕ) (f : Function) (b s : ℕ) (block : Block) (events : List Event) → slice_get f.blocks b ≡ Some block → s < slot_count block.term → (slice_get (slot_takings events i f.blocks) (slots_before f.blocks b + s) ≡ Some (takings events i b s)) × (function_counts main (more events (Took i b s)) i f ≡ record { entry = entries main events i; slots = slice_set (slot_takings events i f.blocks) (slots_before f.blocks b + s) (takings events i b s + 1) })
took_counts main i f b s block events there lt =
    let at = slots_before f.blocks b + s in
    let keys = keys_from 0 f.blocks in
    let z : 0 + b ≡ b = omega arith in
    let split = subst (λ n. Split (is_key n s) keys at (n, s)) z (key_splits 0 f.blocks b s block there lt) in
    let before : ℕ × ℕ → ℕ = λ k. takings events i k.0 k.1 in
    let after : ℕ × ℕ → ℕ = λ k. takings (more events (Took i b s)) i k.0 k.1 in
    let itself : (i == i) ≡ true = eq-eqb i i refl in
    let test : (k : ℕ × ℕ) → is_taking i k.0 k.1 (Took i b s) ≡ is_key b s k = λ k. and_both (i == i) (b == k.0) (s == k.1) ∙ ap (λ t. t && is_key b s k) itself in
    let same : (k : ℕ × ℕ) → is_key b s k ≡ false → after k ≡ before k = λ k other. takings_kept events (Took i b s) i k.0 k.1 (test k ∙ other) in
    let here = takings_raised events (Took i b s) i b s (test (b, s) ∙ key_true b s) in
    let get = ap (λ l. slice_get l at) (slot_takings_are events i f.blocks) ∙ get_one (is_key b s) keys at (b, s) split before in
    let set = slot_takings_are (more events (Took i b s)) i f.blocks ∙ set_one (is_key b s) keys at (b, s) split before after same ∙ ap (λ l. slice_set l at (after (b, s))) (sym (slot_takings_are events i f.blocks)) ∙ ap (slice_set (slot_takings events i f.blocks) at) here in
    let e = entries_kept events (Took i b s) main i refl in
    (get, cc)
