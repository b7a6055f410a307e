-- The chosen placements can be tallied.
use Rattle.std.proofs.Common.{◌≡◌, ℕ, Bool, true, false, List, refl}
use Rattle.ir_types.specs.Program.{Program}
use Rattle.ir_types.specs.declared.syntax.Function.{Function}
use Rattle.point_graph.specs.Numbers.{ArePoints}
use Rattle.point_graph.specs.declared.graph.Points.{Points}
use Rattle.expressions.specs.Expressions.{expr_traps}
use Rattle.expressions.specs.Kept.{Kept}
use Rattle.profile.specs.declared.counts.FnCounts.{FnCounts}
use Rattle.placement.specs.declared.placements.Placement.{Placement}
use Rattle.optimise.specs.Choice.{IsChosen}
use Rattle.optimise.specs.Choices.{AreChoices}
use Rattle.tallies.specs.Tallies.{AreFitting, IsFitting}

fits : (f : Function) (p : Points) (t : Kept) (x : ℕ) (counts : FnCounts) (placement : Placement) → ArePoints f p → IsChosen f p t counts x placement → IsFitting f p t x placement
fits f p t x counts placement are is = by (expr_traps is.expr) refl
  where
    by : (b : Bool) → expr_traps is.expr ≡ b → IsFitting f p t x placement
    by true traps = (is.lazy traps).lazy.placement
    by false safe = (is.best safe are.blocks.test are.blocks.told).placement

pub choices_fit : (m : Program) (counts : List FnCounts) (placements : List (List Placement)) → AreChoices m counts placements → AreFitting m placements
choices_fit m counts placements are = record {
  each = λ k f there d.
      let has = are.each k f there d in
      let is = has.holds in
      record {
        placed = has.listed;
        there = has.there;
        holds = record {
          points = is.points;
          are_points = is.are_points;
          table = is.table;
          of_module = is.of_module;
          is_table = is.is_table;
          are_fitting = record {
            count = is.chosen.count;
            each = λ x placement at. fits f is.points is.table x has.own placement is.are_points (is.chosen.each x placement at);
          };
        };
      };
}
