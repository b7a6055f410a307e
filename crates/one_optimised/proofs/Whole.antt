-- A module with counts has one optimised module, and has none where too much is inserted.
use Rattle.std.proofs.Common.{◌≡◌, ℕ, true, List, Some, length, sum_by, sym, ap, ◌∙◌, subst, arith}
use Rattle.std.specs.Prelude.{slice_get}
use Rattle.std.proofs.lemmas.Option.{same_Some}
use Rattle.ir_types.specs.Program.{Program}
use Rattle.ir_types.specs.declared.syntax.Function.{Function}
use Rattle.ir_machine.specs.Same.{is_defined}
use Rattle.profile.specs.declared.counts.FnCounts.{FnCounts}
use Rattle.transform.proofs.Alone.{defined_length}
use Rattle.transform.specs.declared.placed.Placed.{Placed}
use Rattle.transform.specs.Transformed.{defined_before}
use Rattle.optimise.specs.Choice.{AreChosen, IsPlacedBy}
use Rattle.optimise.specs.Optimised.{HasTooMany, IsOptimised}
use Rattle.one_transformed.specs.Laws.{OneTransformed}
use Rattle.one_transformed.specs.Numberings.{HasParts, HasSame}
use Rattle.one_optimised.proofs.Choices.{ChoiceLaws, one_chosen}

parts_of : (m : Program) (f : Function) (own : FnCounts) (q : Placed) → AreChosen m f own q → HasParts m f q
parts_of m f own q is = record { are_points = is.are_points; of_module = is.of_module; is_table = is.is_table }

module _ (choices : ChoiceLaws) (m : Program) (counts : List FnCounts) where
  chosen_at : (one : Program) (is : IsOptimised m counts one) (k : ℕ) (f : Function) → slice_get m.functions k ≡ Some f → is_defined f.blocks ≡ true → (own : FnCounts) → slice_get counts (defined_before m.functions k) ≡ Some own
      → (placed : Placed) × (slice_get is.placed (defined_before m.functions k) ≡ Some placed) × IsPlacedBy m f own placed
  chosen_at one is k f there defined own counted =
      let has = is.are_chosen.each k f there defined in
      let same : has.own ≡ own = same_Some has.own own (sym has.counted ∙ counted) in
      (has.placed_here, has.there, subst (λ own. IsPlacedBy m f own has.placed_here) same has.holds)

  -- what is placed is the same
  same_at : (one other : Program) (is : IsOptimised m counts one) (also : IsOptimised m counts other) (k : ℕ) (f : Function) → slice_get m.functions k ≡ Some f → is_defined f.blocks ≡ true → HasSame m is.placed also.placed k f
  same_at one other is also k f there defined =
      let has = is.are_chosen.each k f there defined in
      let also_has = chosen_at other also k f there defined has.own has.counted in
      let chosen = has.holds.chosen in
      let also_chosen = also_has.2.chosen in
      record {
        one = has.placed_here;
        one_there = has.there;
        one_parts = parts_of m f has.own has.placed_here chosen;
        other = also_has.0;
        other_there = also_has.1;
        other_parts = parts_of m f has.own also_has.0 also_chosen;
        placements = one_chosen choices m f (defined_length f defined) has.own has.placed_here also_has.0 chosen also_chosen;
      }

  pub one_module : OneTransformed → (one other : Program) → IsOptimised m counts one → IsOptimised m counts other → one ≡ other
  one_module transformed one other is also = transformed m is.placed also.placed one other (same_at one other is also) is.transformed also.transformed

  -- what is applied is little, so it isn't too much
  pub not_both : (one : Program) → IsOptimised m counts one → ¬ (HasTooMany m counts)
  not_both one is many =
      let has = chosen_at one is many.number many.function many.there many.defined many.own many.counted in
      let same = one_chosen choices m many.function (defined_length many.function many.defined) many.own has.0 many.crowded.placed has.2.chosen many.crowded.chosen in
      absurd (omega (arith, has.2.few, many.crowded.many, ap (λ placements. sum_by (λ placement. length placement.inserted) placements) same))
