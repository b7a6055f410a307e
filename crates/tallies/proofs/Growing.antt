-- The tallies of a module, function by function.
use Rattle.std.proofs.Common.{◌≡◌, ⊎_elim, ℕ, zero, suc, ◌+◌, ◌-◌, ◌*◌, ◌^◌, ◌<◌, ◌≤◌, Bool, true, false, List, [], ◌∷◌, ◌++◌, length, take, get_or, sum_by, Some, refl, sym, ap, ◌∙◌, subst, arith}
use Rattle.std.specs.Prelude.{slice_get, if◌then◌else◌}
use Rattle.std.proofs.lemmas.Bool.{cases_lt}
use Rattle.std.proofs.lemmas.List.{length_push}
use Rattle.std.proofs.lemmas.List.Sums.{count_by_more_yes, count_by_more_no, sum_by_more, sum_by-take-le}
use Rattle.std.proofs.lemmas.Option.{slice_get_within, slice_get_read, get_or_from_slice_get, same_Some, none-some}
use Rattle.ir_types.specs.Program.{Program}
use Rattle.ir_types.specs.declared.syntax.Function.{Function}
use Rattle.ir_machine.specs.Same.{is_defined}
use Rattle.profile.specs.declared.counts.FnCounts.{FnCounts}
use Rattle.profile.specs.Counts.{IsAccepted, total}
use Rattle.placement.specs.declared.placements.Placement.{Placement}
use Rattle.transform.specs.Transformed.{defined_before}
use Rattle.tallies.specs.Steps.{AreLight, AreOwnCounts}
use Rattle.tallies.specs.Sums.{AreAtMost, no_totals, plus, totals_in}
use Rattle.tallies.specs.Tallies.{AreFitting, AreFittingIn, AreTallies, AreTalliesIn, HasTallies, totals_of}
use Rattle.tallies.specs.declared.tally.Tally.{Tally}
use Rattle.tallies.specs.declared.totals.Totals.{Totals}
use Rattle.tallies.proofs.Adding.{at_most, function_more, small_totals, together}
use Rattle.tallies.proofs.OwnCounts.{own_counts}

get_grown : {X : Type 0} (xs : List X) (y : X) (k : ℕ) (x : X) → slice_get xs k ≡ Some x → slice_get (xs ++ y ∷ []) k ≡ Some x
get_grown [] y k x e = absurd (none-some x e)
get_grown (z ∷ xs) y zero x e = e
get_grown (z ∷ xs) y (suc k) x e = get_grown xs y k x e

get_last : {X : Type 0} (xs : List X) (y : X) → slice_get (xs ++ y ∷ []) (length xs) ≡ Some y
get_last [] y = refl
get_last (z ∷ xs) y = get_last xs y

-- how much the sums over n functions are at most
abbrev pub bound : List FnCounts → ℕ → ℕ
bound counts n = 2 ^ 52 * (sum_by total (take n counts) + n)

-- the tallies of the first n functions, with their sums
pub record TalliedSoFar (m : Program) (counts : List FnCounts) (placements : List (List Placement)) (n : ℕ) (tallies : List (List Tally)) (totals : Totals) : Type 0 where
  pub count : length tallies ≡ defined_before m.functions n
  pub each : (k : ℕ) (f : Function) → k < n → slice_get m.functions k ≡ Some f → is_defined f.blocks ≡ true → HasTallies m counts placements tallies k f
  pub totals_are : totals ≡ totals_of tallies
  pub small : AreAtMost (bound counts (length tallies)) totals

pub nothing_tallied : (m : Program) (counts : List FnCounts) (placements : List (List Placement)) (totals : Totals) → totals ≡ no_totals → TalliedSoFar m counts placements 0 [] totals
nothing_tallied m counts placements totals none = record {
  count = refl;
  each = λ k f lt. absurd (omega (arith, lt));
  totals_are = none;
  small = subst (AreAtMost (bound counts 0)) (sym none) (record { expressions = omega arith; old = omega arith; new = omega arith; inserted = omega arith; kept = omega arith; deleted = omega arith });
}

module _ (m : Program) (counts : List FnCounts) (placements : List (List Placement)) (n : ℕ) (f : Function) (tallies : List (List Tally)) (totals : Totals) (there : slice_get m.functions n ≡ Some f)
    (are : TalliedSoFar m counts placements n tallies totals) where
  abbrev defined : Function → Bool
  defined g = is_defined g.blocks

  before_next : (b : Bool) → defined f ≡ b → defined_before m.functions (n + 1) ≡ defined_before m.functions n + (if b then 1 else 0)
  before_next true e = count_by_more_yes defined m.functions n f (slice_get_within m.functions n f there) (ap defined (get_or_from_slice_get m.functions n f f there) ∙ e)
  before_next false e = omega (arith, count_by_more_no defined m.functions n f (slice_get_within m.functions n f there) (ap defined (get_or_from_slice_get m.functions n f f there) ∙ e))

  -- behind those that are tallied stand the counts and the placements of the next function
  module _ (accepted : IsAccepted m counts) (fit : AreFitting m placements) (e : defined f ≡ true) where
    pub counts_inside : length tallies < length counts
    counts_inside = let own = own_counts m counts accepted n f there e in omega (arith, are.count, slice_get_within counts (defined_before m.functions n) own.own own.there)

    pub placed_inside : length tallies < length placements
    placed_inside = let has = fit.each n f there e in omega (arith, are.count, slice_get_within placements (defined_before m.functions n) has.placed has.there)

    module _ (own : FnCounts) (read : own ≡ get_or counts (length tallies) own) where
      next_there : slice_get counts (defined_before m.functions n) ≡ Some own
      next_there = subst (λ j. slice_get counts j ≡ Some own) are.count (slice_get_read counts (length counts) (length tallies) own refl counts_inside read)

      pub next_good : AreOwnCounts f own
      next_good =
          let is = own_counts m counts accepted n f there e in
          subst (AreOwnCounts f) (same_Some is.own own (sym is.there ∙ next_there)) is.holds

      module _ (placed : List Placement) (read_placed : placed ≡ get_or placements (length tallies) placed) where
        placed_there : slice_get placements (defined_before m.functions n) ≡ Some placed
        placed_there = subst (λ j. slice_get placements j ≡ Some placed) are.count (slice_get_read placements (length placements) (length tallies) placed refl placed_inside read_placed)

        pub next_fits : AreFittingIn m f placed
        next_fits =
            let has = fit.each n f there e in
            subst (AreFittingIn m f) (same_Some has.placed placed (sym has.there ∙ placed_there)) has.holds

        module _ (last : List Tally) (is : AreTalliesIn m f own placed last) (light : AreLight (2 ^ 20 * (total own + 1)) last) where
          small_last : AreAtMost (2 ^ 52 * (total own + 1)) (totals_in last)
          small_last = at_most (totals_in last) (2 ^ 32 * (2 ^ 20 * (total own + 1))) (2 ^ 52 * (total own + 1)) (omega arith) (small_totals last (2 ^ 20 * (total own + 1)) (omega arith) light)

          next_bound : bound counts (length tallies) + 2 ^ 52 * (total own + 1) ≡ bound counts (length tallies + 1)
          next_bound =
              let more : sum_by total (take (length tallies + 1) counts) ≡ sum_by total (take (length tallies) counts) + total (get_or counts (length tallies) own) = sum_by_more total counts (length tallies) own counts_inside in
              let same : total own ≡ total (get_or counts (length tallies) own) = ap total read in
              omega (arith, more, same)

          small_next : AreAtMost (bound counts (length tallies + 1)) (plus totals (totals_in last))
          small_next = subst (λ k. AreAtMost k (plus totals (totals_in last))) next_bound (together totals (totals_in last) (bound counts (length tallies)) (2 ^ 52 * (total own + 1)) are.small small_last)

          -- so the sums fit
          pub room_last : AreAtMost (2 ^ 128 - 1) (totals_in last)
          room_last = at_most (totals_in last) (2 ^ 52 * (total own + 1)) (2 ^ 128 - 1) (omega (arith, next_good.small)) small_last

          pub room : length tallies < 2 ^ 64 → AreAtMost (2 ^ 128 - 1) (plus totals (totals_in last))
          room few = at_most (plus totals (totals_in last)) (bound counts (length tallies + 1)) (2 ^ 128 - 1) (omega (arith, few, accepted.total, sum_by-take-le total counts (length tallies + 1))) small_next

          pub one_more_tallied : (next : Totals) → next ≡ plus totals (totals_in last) → TalliedSoFar m counts placements (n + 1) (tallies ++ last ∷ []) next
          one_more_tallied next added = record {
            count = omega (arith, length_push tallies last, are.count, before_next true e);
            each = λ k g lt at d. ⊎_elim
                (λ (before : k < n).
                let has = are.each k g before at d in
                record { own = has.own; counted = has.counted; placed = has.placed; placed_here = has.placed_here; tallied = has.tallied; there = get_grown tallies last (defined_before m.functions k) has.tallied has.there; holds = has.holds })
                (λ (past : n ≤ k).
                let here : n ≡ k = omega (arith, lt, past) in
                let same : f ≡ g = same_Some f g (sym there ∙ ap (slice_get m.functions) here ∙ at) in
                let found : slice_get (tallies ++ last ∷ []) (defined_before m.functions k) ≡ Some last =
                subst (λ j. slice_get (tallies ++ last ∷ []) j ≡ Some last) (are.count ∙ ap (defined_before m.functions) here) (get_last tallies last) in
                let counted : slice_get counts (defined_before m.functions k) ≡ Some own = subst (λ j. slice_get counts (defined_before m.functions j) ≡ Some own) here next_there in
                let placed_here : slice_get placements (defined_before m.functions k) ≡ Some placed = subst (λ j. slice_get placements (defined_before m.functions j) ≡ Some placed) here placed_there in
                record { own = own; counted = counted; placed = placed; placed_here = placed_here; tallied = last; there = found; holds = subst (λ g. AreTalliesIn m g own placed last) same is })
                (cases_lt k n);
            totals_are = added ∙ ap (λ totals. plus totals (totals_in last)) are.totals_are ∙ sym (function_more tallies last);
            small = subst (AreAtMost (bound counts (length (tallies ++ last ∷ [])))) (sym added) (subst (λ k. AreAtMost (bound counts k) (plus totals (totals_in last))) (sym (length_push tallies last)) small_next);
          }

  pub none_more_tallied : defined f ≡ false → TalliedSoFar m counts placements (n + 1) tallies totals
  none_more_tallied e = record {
    count = omega (arith, are.count, before_next false e);
    each = λ k g lt at d. ⊎_elim
        (λ (before : k < n). are.each k g before at d)
        (λ (past : n ≤ k).
        let here : n ≡ k = omega (arith, lt, past) in
        let same : f ≡ g = same_Some f g (sym there ∙ ap (slice_get m.functions) here ∙ at) in
        absurd (true_false (sym d ∙ ap defined (sym same) ∙ e)))
        (cases_lt k n);
    totals_are = are.totals_are;
    small = are.small;
  }
    where
      true_false : true ≡ false → ⊥
      true_false e = cc

pub all_tallied : (m : Program) (counts : List FnCounts) (placements : List (List Placement)) (n : ℕ) (tallies : List (List Tally)) (totals : Totals) → length m.functions ≤ n → n ≤ length m.functions
    → TalliedSoFar m counts placements n tallies totals → AreTallies m counts placements tallies
all_tallied m counts placements n tallies totals past within are =
    let end : n ≡ length m.functions = omega (arith, past, within) in
    record {
      count = are.count ∙ ap (defined_before m.functions) end;
      each = λ k f there d. are.each k f (omega (arith, slice_get_within m.functions k f there, end)) there d;
    }
