-- What is chosen so far, as it grows.
use Rattle.std.proofs.Common.{◌≡◌, ⊎_elim, ℕ, zero, suc, ◌+◌, ◌<◌, ◌≤◌, Bool, true, false, List, [], ◌∷◌, ◌++◌, length, map, get_or, Some, option_map, refl, sym, ap, ◌∙◌, subst, arith}
use Rattle.std.specs.Prelude.{slice_get, if◌then◌else◌}
use Rattle.std.specs.List.{AllByRecursion}
use Rattle.std.proofs.lemmas.Bool.{cases_lt}
use Rattle.std.proofs.lemmas.List.{length-map, length_push}
use Rattle.std.proofs.lemmas.List.Sums.{count_by_more_yes, count_by_more_no}
use Rattle.std.proofs.lemmas.Option.{slice_get-map, slice_get_within, slice_get_read, get_or_from_slice_get, same_Some, none-some}
use Rattle.ir_types.specs.Program.{Program}
use Rattle.ir_types.specs.declared.syntax.Function.{Function}
use Rattle.ir_machine.specs.Same.{is_defined}
use Rattle.profile.specs.declared.counts.FnCounts.{FnCounts}
use Rattle.profile.specs.Counts.{IsAccepted}
use Rattle.transform.specs.declared.placed.Placed.{Placed}
use Rattle.transform.specs.Transformed.{defined_before}
use Rattle.certificate.specs.Limits.{EntryIsWithin}
use Rattle.certificate.specs.declared.types.Entry.{Entry}
use Rattle.certified.specs.Certified.{EachGood}
use Rattle.optimise.specs.declared.choosing.Chosen.{Chosen}
use Rattle.optimise.specs.Optimised.{EachChosen, EachWritten, IsUnoptimised}
use Rattle.optimise.specs.Placing.{AreCountsOf, ChosenSoFar, IsChosenIn, IsUnplaced}
use Rattle.optimise.specs.declared.error.OptimiseError.{OptimiseError}
use Rattle.optimise.specs.declared.error.OptimiseError.TheVariants.{TooMany, NoMemory}
use Rattle.optimise.proofs.Counted.{own_counts}

pub get_grown : {X : Type 0} (xs : List X) (y : X) (k : ℕ) (x : X) → slice_get xs k ≡ Some x → slice_get (xs ++ y ∷ []) k ≡ Some x
get_grown [] y k x e = absurd (none-some x e)
get_grown (z ∷ xs) y zero x e = e
get_grown (z ∷ xs) y (suc k) x e = get_grown xs y k x e

pub get_last : {X : Type 0} (xs : List X) (y : X) → slice_get (xs ++ y ∷ []) (length xs) ≡ Some y
get_last [] y = refl
get_last (z ∷ xs) y = get_last xs y

small_push : (chosen : List Chosen) (last : Chosen) → AllByRecursion (λ (c : Chosen). AllByRecursion EntryIsWithin c.entries) chosen → AllByRecursion EntryIsWithin last.entries
    → AllByRecursion (λ (c : Chosen). AllByRecursion EntryIsWithin c.entries) (chosen ++ last ∷ [])
small_push [] last small is = (is, tt)
small_push (c ∷ chosen) last small is = (small.0, small_push chosen last small.1 is)

-- ---- function by function

pub nothing_chosen : (m : Program) (counts : List FnCounts) → ChosenSoFar m counts 0 []
nothing_chosen m counts = record { count = refl; each = λ k f lt. absurd (omega (arith, lt)); within = tt }

module _ (m : Program) (counts : List FnCounts) (n : ℕ) (f : Function) (chosen : List Chosen) (there : slice_get m.functions n ≡ Some f) (are : ChosenSoFar m counts n chosen) where
  abbrev defined : Function → Bool
  defined g = is_defined g.blocks

  before_next : (b : Bool) → defined f ≡ b → defined_before m.functions (n + 1) ≡ defined_before m.functions n + (if b then 1 else 0)
  before_next true e = count_by_more_yes defined m.functions n f (slice_get_within m.functions n f there) (ap defined (get_or_from_slice_get m.functions n f f there) ∙ e)
  before_next false e = omega (arith, count_by_more_no defined m.functions n f (slice_get_within m.functions n f there) (ap defined (get_or_from_slice_get m.functions n f f there) ∙ e))

  -- behind those that are chosen stand the counts of the next function
  module _ (accepted : IsAccepted m counts) (e : defined f ≡ true) where
    pub next_inside : length chosen < length counts
    next_inside = let own = own_counts m counts accepted n f there e in omega (arith, are.count, slice_get_within counts (defined_before m.functions n) own.own own.there)

    module _ (own : FnCounts) (read : own ≡ get_or counts (length chosen) own) where
      pub next_there : slice_get counts (defined_before m.functions n) ≡ Some own
      next_there = subst (λ j. slice_get counts j ≡ Some own) are.count (slice_get_read counts (length counts) (length chosen) own refl next_inside read)

      pub next_good : AreCountsOf f own
      next_good =
          let is = own_counts m counts accepted n f there e in
          subst (AreCountsOf f) (same_Some is.own own (sym is.there ∙ next_there)) is.holds

      pub unplaced : (error : OptimiseError) → IsUnplaced m f own error → IsUnoptimised m counts error
      unplaced TooMany crowded = record { number = n; function = f; there = there; defined = e; own = own; counted = next_there; crowded = crowded }
      unplaced NoMemory none = tt

      pub one_more_chosen : (q : Chosen) → IsChosenIn m f own q → ChosenSoFar m counts (n + 1) (chosen ++ q ∷ [])
      one_more_chosen q is = record {
        count = omega (arith, length_push chosen q, are.count, before_next true e);
        each = λ k g lt at d. ⊎_elim
            (λ (before : k < n). let has = are.each k g before at d in record { own = has.own; counted = has.counted; chosen_here = has.chosen_here; there = get_grown chosen q (defined_before m.functions k) has.chosen_here has.there; holds = has.holds })
            (λ (past : n ≤ k).
            let here : n ≡ k = omega (arith, lt, past) in
            let same : f ≡ g = same_Some f g (sym there ∙ ap (slice_get m.functions) here ∙ at) in
            let last : slice_get (chosen ++ q ∷ []) (defined_before m.functions k) ≡ Some q =
            subst (λ j. slice_get (chosen ++ q ∷ []) j ≡ Some q) (are.count ∙ ap (defined_before m.functions) here) (get_last chosen q) in
            let counted : slice_get counts (defined_before m.functions k) ≡ Some own = subst (λ j. slice_get counts (defined_before m.functions j) ≡ Some own) here next_there in
            record { own = own; counted = counted; chosen_here = q; there = last; holds = subst (λ g. IsChosenIn m g own q) same is })
            (cases_lt k n);
        within = small_push chosen q are.within is.within;
      }

  pub none_more_chosen : defined f ≡ false → ChosenSoFar m counts (n + 1) chosen
  none_more_chosen e = record {
    count = omega (arith, are.count, before_next false e);
    each = λ k g lt at d. ⊎_elim
        (λ (before : k < n). are.each k g before at d)
        (λ (past : n ≤ k).
        let here : n ≡ k = omega (arith, lt, past) in
        let same : f ≡ g = same_Some f g (sym there ∙ ap (slice_get m.functions) here ∙ at) in
        absurd (true_false (sym d ∙ ap defined (sym same) ∙ e)))
        (cases_lt k n);
    within = are.within;
  }
    where
      true_false : true ≡ false → ⊥
      true_false e = cc

-- ---- all functions

-- what is placed, and the entries, of those that are chosen
abbrev pub placed_of : List Chosen → List Placed
placed_of chosen = map (λ (c : Chosen). c.placed) chosen

abbrev pub entries_of : List Chosen → List (List Entry)
entries_of chosen = map (λ (c : Chosen). c.entries) chosen

module _ (m : Program) (counts : List FnCounts) (chosen : List Chosen) (are : ChosenSoFar m counts (length m.functions) chosen) where
  pub each_chosen : EachChosen m counts (placed_of chosen)
  each_chosen = record {
    count = length-map chosen (λ (c : Chosen). c.placed) ∙ are.count;
    each = λ k f there d.
        let has = are.each k f (slice_get_within m.functions k f there) there d in
        record {
          own = has.own;
          counted = has.counted;
          placed_here = has.chosen_here.placed;
          there = slice_get-map (λ (c : Chosen). c.placed) chosen (defined_before m.functions k) ∙ ap (option_map (λ (c : Chosen). c.placed)) has.there;
          holds = has.holds.placed;
        };
  }

  pub each_good : EachGood m counts (record { functions = entries_of chosen }) (placed_of chosen)
  each_good = record {
    functions = length-map chosen (λ (c : Chosen). c.entries) ∙ are.count;
    count = length-map chosen (λ (c : Chosen). c.placed) ∙ are.count;
    each = λ k f there d.
        let has = are.each k f (slice_get_within m.functions k f there) there d in
        record {
          own = has.own;
          counted = has.counted;
          entries = has.chosen_here.entries;
          listed = slice_get-map (λ (c : Chosen). c.entries) chosen (defined_before m.functions k) ∙ ap (option_map (λ (c : Chosen). c.entries)) has.there;
          placed_here = has.chosen_here.placed;
          there = slice_get-map (λ (c : Chosen). c.placed) chosen (defined_before m.functions k) ∙ ap (option_map (λ (c : Chosen). c.placed)) has.there;
          good = has.holds.good;
        };
  }

  pub each_written : EachWritten m counts (record { functions = entries_of chosen }) (placed_of chosen)
  each_written k f there d =
      let has = are.each k f (slice_get_within m.functions k f there) there d in
      record {
        own = has.own;
        counted = has.counted;
        entries = has.chosen_here.entries;
        listed = slice_get-map (λ (c : Chosen). c.entries) chosen (defined_before m.functions k) ∙ ap (option_map (λ (c : Chosen). c.entries)) has.there;
        placed_here = has.chosen_here.placed;
        there = slice_get-map (λ (c : Chosen). c.placed) chosen (defined_before m.functions k) ∙ ap (option_map (λ (c : Chosen). c.placed)) has.there;
        written = has.holds.written;
      }

-- the numbers of the entries are small
pub all_small : (chosen : List Chosen) → AllByRecursion (λ (c : Chosen). AllByRecursion EntryIsWithin c.entries) chosen → AllByRecursion (AllByRecursion EntryIsWithin) (entries_of chosen)
all_small [] small = tt
all_small (c ∷ chosen) small = (small.0, all_small chosen small.1)
