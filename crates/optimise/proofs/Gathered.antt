-- The placements that are chosen, function by function.
use Rattle.std.proofs.Common.{◌≡◌, ⊎_elim, ℕ, zero, suc, ◌+◌, ◌<◌, ◌≤◌, Bool, true, false, List, [], ◌∷◌, ◌++◌, length, map, get_or, Some, option_map, refl, sym, ap, ◌∙◌, subst, arith}
use Rattle.std.specs.Prelude.{slice_get, if◌then◌else◌}
use Rattle.std.proofs.lemmas.Bool.{cases_lt}
use Rattle.std.proofs.lemmas.List.{length-map, length_push}
use Rattle.std.proofs.lemmas.List.Sums.{count_by_more_yes, count_by_more_no}
use Rattle.std.proofs.lemmas.Option.{slice_get-map, slice_get_within, slice_get_read, get_or_from_slice_get, same_Some}
use Rattle.ir_types.specs.Program.{Program}
use Rattle.ir_types.specs.declared.syntax.Function.{Function}
use Rattle.ir_machine.specs.Same.{is_defined}
use Rattle.point_graph.specs.Numbers.{ArePoints}
use Rattle.point_graph.specs.declared.graph.Points.{Points}
use Rattle.expressions.specs.Expressions.{expr_traps}
use Rattle.expressions.specs.Kept.{Kept}
use Rattle.expressions.specs.Tables.{IsEventOf, IsTable}
use Rattle.profile.specs.declared.counts.FnCounts.{FnCounts}
use Rattle.profile.specs.Counts.{IsAccepted}
use Rattle.placement.specs.declared.placements.Placement.{Placement}
use Rattle.placement.specs.Placements.{arcs_of}
use Rattle.best_choice.specs.Best.{IsPlacementOn}
use Rattle.transform.specs.declared.placed.Placed.{Placed}
use Rattle.transform.specs.Transformed.{defined_before}
use Rattle.certificate.specs.declared.types.Certificate.{Certificate}
use Rattle.certificate.specs.declared.types.Entry.{Entry}
use Rattle.certified.specs.Certified.{EachGood, placements_in}
use Rattle.optimise.specs.Choice.{AreEachChosen, IsChosen}
use Rattle.optimise.specs.Choices.{AreChoices, AreChoicesIn, HasChoices, named_placements}
use Rattle.optimise.specs.Optimised.{EachChosen}
use Rattle.optimise.specs.Placing.{AreChosenEntries, AreCountsOf}
use Rattle.optimise.proofs.Chosen.{all_chosen}
use Rattle.optimise.proofs.Counted.{own_counts}
use Rattle.optimise.proofs.Growing.{get_grown, get_last}

-- ---- one function

pub choices_in : (m : Program) (f : Function) (counts : FnCounts) (p : Points) (t : Kept) (entries : List Entry) (placements : List Placement) → ArePoints f p → t.module_of ≡ m → IsTable f p t
    → AreChosenEntries f p t counts (length t.exprs) entries → placements ≡ placements_in entries → AreChoicesIn m f counts placements
choices_in m f counts p t entries placements are of_module table chosen named = record {
  points = p;
  are_points = are;
  table = t;
  of_module = of_module;
  is_table = table;
  chosen = subst (AreEachChosen f p t counts) (sym named) (all_chosen f p t counts entries chosen);
}

-- ---- function by function

-- what is chosen in the first n functions
pub record ChoicesSoFar (m : Program) (counts : List FnCounts) (n : ℕ) (chosen : List (List Placement)) : Type 0 where
  pub count : length chosen ≡ defined_before m.functions n
  pub each : (k : ℕ) (f : Function) → k < n → slice_get m.functions k ≡ Some f → is_defined f.blocks ≡ true → HasChoices m counts chosen k f

module _ (m : Program) (counts : List FnCounts) (n : ℕ) (f : Function) (chosen : List (List Placement)) (there : slice_get m.functions n ≡ Some f) (are : ChoicesSoFar m counts n chosen) where
  abbrev defined : Function → Bool
  defined g = is_defined g.blocks

  before_next : (b : Bool) → defined f ≡ b → defined_before m.functions (n + 1) ≡ defined_before m.functions n + (if b then 1 else 0)
  before_next true e = count_by_more_yes defined m.functions n f (slice_get_within m.functions n f there) (ap defined (get_or_from_slice_get m.functions n f f there) ∙ e)
  before_next false e = omega (arith, count_by_more_no defined m.functions n f (slice_get_within m.functions n f there) (ap defined (get_or_from_slice_get m.functions n f f there) ∙ e))

  -- behind those that are chosen stand the counts of the next function
  module _ (accepted : IsAccepted m counts) (e : defined f ≡ true) where
    pub next_inside : length chosen < length counts
    next_inside = let own = own_counts m counts accepted n f there e in omega (arith, are.count, slice_get_within counts (defined_before m.functions n) own.own own.there)

    module _ (own : FnCounts) (read : own ≡ get_or counts (length chosen) own) where
      pub next_there : slice_get counts (defined_before m.functions n) ≡ Some own
      next_there = subst (λ j. slice_get counts j ≡ Some own) are.count (slice_get_read counts (length counts) (length chosen) own refl next_inside read)

      pub next_good : AreCountsOf f own
      next_good =
          let is = own_counts m counts accepted n f there e in
          subst (AreCountsOf f) (same_Some is.own own (sym is.there ∙ next_there)) is.holds

      pub one_more_list : (placements : List Placement) → AreChoicesIn m f own placements → ChoicesSoFar m counts (n + 1) (chosen ++ placements ∷ [])
      one_more_list placements is = record {
        count = omega (arith, length_push chosen placements, are.count, before_next true e);
        each = λ k g lt at d. ⊎_elim
            (λ (before : k < n). let has = are.each k g before at d in record { own = has.own; counted = has.counted; listed = has.listed; there = get_grown chosen placements (defined_before m.functions k) has.listed has.there; holds = has.holds })
            (λ (past : n ≤ k).
            let here : n ≡ k = omega (arith, lt, past) in
            let same : f ≡ g = same_Some f g (sym there ∙ ap (slice_get m.functions) here ∙ at) in
            let last : slice_get (chosen ++ placements ∷ []) (defined_before m.functions k) ≡ Some placements =
            subst (λ j. slice_get (chosen ++ placements ∷ []) j ≡ Some placements) (are.count ∙ ap (defined_before m.functions) here) (get_last chosen placements) in
            let counted : slice_get counts (defined_before m.functions k) ≡ Some own = subst (λ j. slice_get counts (defined_before m.functions j) ≡ Some own) here next_there in
            record { own = own; counted = counted; listed = placements; there = last; holds = subst (λ g. AreChoicesIn m g own placements) same is })
            (cases_lt k n);
      }

  pub no_more_list : defined f ≡ false → ChoicesSoFar m counts (n + 1) chosen
  no_more_list e = record {
    count = omega (arith, are.count, before_next false e);
    each = λ k g lt at d. ⊎_elim
        (λ (before : k < n). are.each k g before at d)
        (λ (past : n ≤ k).
        let here : n ≡ k = omega (arith, lt, past) in
        let same : f ≡ g = same_Some f g (sym there ∙ ap (slice_get m.functions) here ∙ at) in
        absurd (true_false (sym d ∙ ap defined (sym same) ∙ e)))
        (cases_lt k n);
  }
    where
      true_false : true ≡ false → ⊥
      true_false e = cc

pub all_choices : (m : Program) (counts : List FnCounts) (chosen : List (List Placement)) → ChoicesSoFar m counts (length m.functions) chosen → AreChoices m counts chosen
all_choices m counts chosen are = record { count = are.count; each = λ k f there d. are.each k f (slice_get_within m.functions k f there) there d }

-- ---- what a certificate names

pub named_choices : (m : Program) (counts : List FnCounts) (certificate : Certificate) (placed : List Placed) → EachChosen m counts placed → EachGood m counts certificate placed → AreChoices m counts (named_placements certificate)
named_choices m counts certificate placed chosen good = record {
  count = length-map certificate.functions placements_in ∙ good.functions;
  each = λ k f there d.
      let has = chosen.each k f there d in
      let shown = good.each k f there d in
      let same : shown.placed_here ≡ has.placed_here = same_Some shown.placed_here has.placed_here (sym shown.there ∙ has.there) in
      let named : placements_in shown.entries ≡ has.placed_here.placements = sym shown.good.placements ∙ ap (λ (q : Placed). q.placements) same in
      let is = has.holds.chosen in
      record {
        own = has.own;
        counted = has.counted;
        listed = has.placed_here.placements;
        there = slice_get-map placements_in certificate.functions (defined_before m.functions k) ∙ ap (option_map placements_in) shown.listed ∙ ap (λ l. Some l) named;
        holds = record { points = has.placed_here.points; are_points = is.are_points; table = has.placed_here.table; of_module = is.of_module; is_table = is.is_table; chosen = is.placements };
      };
}
