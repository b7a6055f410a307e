-- The placements that the counts of a module choose are determined.
use Rattle.std.proofs.Common.{◌≡◌, ◌<◌, ℕ, true, List, length, Some, sym, ◌∙◌, subst, arith}
use Rattle.std.specs.Prelude.{slice_get}
use Rattle.std.proofs.lemmas.Option.{same_Some, slice_get_within}
use Rattle.ir_types.specs.Program.{Program}
use Rattle.ir_types.specs.declared.syntax.Function.{Function}
use Rattle.ir_machine.specs.Same.{is_defined}
use Rattle.profile.specs.declared.counts.FnCounts.{FnCounts}
use Rattle.placement.specs.declared.placements.Placement.{Placement}
use Rattle.transform.proofs.Alone.{defined_length}
use Rattle.transform.specs.Transformed.{defined_before}
use Rattle.optimise.specs.Choice.{AreChosen}
use Rattle.optimise.specs.Choices.{AreChoices, AreChoicesIn}
use Rattle.optimise.proofs.Counted.{has_place}
use Rattle.one_optimised.proofs.Choices.{ChoiceLaws, one_chosen, same_listed}

chosen_of : (m : Program) (f : Function) (counts : FnCounts) (placements : List Placement) (is : AreChoicesIn m f counts placements)
    → AreChosen m f counts (record { points = is.points; table = is.table; placements = placements })
chosen_of m f counts placements is = record { are_points = is.are_points; of_module = is.of_module; is_table = is.is_table; placements = is.chosen }

module _ (choices : ChoiceLaws) (m : Program) (counts : List FnCounts) (ones others : List (List Placement)) (is : AreChoices m counts ones) (also : AreChoices m counts others) where
  -- what is listed for one function is the same
  same_choices : (k : ℕ) (f : Function) → slice_get m.functions k ≡ Some f → is_defined f.blocks ≡ true → (xs ys : List Placement)
      → slice_get ones (defined_before m.functions k) ≡ Some xs → slice_get others (defined_before m.functions k) ≡ Some ys → xs ≡ ys
  same_choices k f there defined xs ys xs_there ys_there =
      let one = is.each k f there defined in
      let other = also.each k f there defined in
      let same : one.own ≡ other.own = same_Some one.own other.own (sym one.counted ∙ other.counted) in
      let here : AreChoicesIn m f other.own xs =
      subst (λ own. AreChoicesIn m f own xs) same (subst (AreChoicesIn m f one.own) (same_Some one.listed xs (sym one.there ∙ xs_there)) one.holds) in
      let there : AreChoicesIn m f other.own ys = subst (AreChoicesIn m f other.own) (same_Some other.listed ys (sym other.there ∙ ys_there)) other.holds in
      one_chosen choices m f (defined_length f defined) other.own _ _ (chosen_of m f other.own xs here) (chosen_of m f other.own ys there)

  pub one_list : ones ≡ others
  one_list = same_listed ones others (is.count ∙ sym also.count)
      (λ i xs ys xs_there ys_there.
      let inside : i < defined_before m.functions (length m.functions) = omega (arith, slice_get_within ones i xs xs_there, is.count) in
      let place = has_place m.functions i inside in
      same_choices place.number place.function place.there place.defined xs ys
      (subst (λ n. slice_get ones n ≡ Some xs) (sym place.before) xs_there)
      (subst (λ n. slice_get others n ≡ Some ys) (sym place.before) ys_there))
