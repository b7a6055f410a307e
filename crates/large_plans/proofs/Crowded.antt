-- Where too much is chosen to be inserted, the applied function is above the limits.
use Rattle.std.proofs.Common.{◌≡◌, ℕ, ◌*◌, ◌^◌, ◌<◌, ◌≤◌, Bool, true, false, List, length, refl, arith}
use Rattle.std.specs.Prelude.{slice_get, sum_by, Some}
use Rattle.std.specs.List.Sorted.{IsStrictlyIncreasing}
use Rattle.std.proofs.lemmas.List.Elements.{All-contains}
use Rattle.ir_types.specs.Program.{Program}
use Rattle.ir_types.specs.Limits.{IsWithinLimits}
use Rattle.ir_types.specs.declared.syntax.Function.{Function}
use Rattle.profile.specs.declared.counts.FnCounts.{FnCounts}
use Rattle.point_graph.specs.Numbers.{ArePoints}
use Rattle.point_graph.specs.declared.graph.Points.{Points}
use Rattle.expressions.specs.Expressions.{expr_traps}
use Rattle.expressions.specs.Kept.{Kept}
use Rattle.expressions.specs.Tables.{IsEventOf}
use Rattle.placement.specs.declared.placements.Placement.{Placement}
use Rattle.placement.specs.Placements.{arcs_of}
use Rattle.placement.proofs.GraphLemmas.{arcs_length}
use Rattle.best_choice.specs.Best.{IsPlacementOn}
use Rattle.applied.specs.Applied.{Plan}
use Rattle.applied.specs.Built.{applied_function}
use Rattle.planning.specs.PlanOf.{IsPlacementOf, ArePlacementsOf}
use Rattle.certified.specs.Certified.{insertions}
use Rattle.transform.specs.declared.placed.Placed.{Placed}
use Rattle.optimise.specs.Choice.{IsChosen, AreChosen}

-- a chosen placement has ascending lists, of numbers of edges and of points
chosen_on : (f : Function) (p : Points) (t : Kept) (counts : FnCounts) (x : ℕ) (placement : Placement) → ArePoints f p → IsChosen f p t counts x placement
    → IsPlacementOn (arcs_of p.edges) (length p.points) (IsEventOf f p t x) placement
chosen_on f p t counts x placement are is = by (expr_traps is.expr) refl
  where
    by : (b : Bool) → expr_traps is.expr ≡ b → IsPlacementOn (arcs_of p.edges) (length p.points) (IsEventOf f p t x) placement
    by true traps = let lazy = is.lazy traps in lazy.lazy.placement
    by false safe = let best = is.best safe are.blocks.test are.blocks.told in best.placement

placement_of : (f : Function) (p : Points) (t : Kept) (x : ℕ) (placement : Placement) → IsPlacementOn (arcs_of p.edges) (length p.points) (IsEventOf f p t x) placement → IsPlacementOf f p t x placement
placement_of f p t x placement is = record {
  edges = λ n among. let inside : n < length (arcs_of p.edges) = All-contains (λ e. e < length (arcs_of p.edges)) placement.inserted n is.edges among in omega (arith, inside, arcs_length p.edges);
  occurrences = λ i among. All-contains (λ v. v < length p.points) placement.kept i is.points among;
}

module _ (m : Program) (f : Function) (counts : FnCounts) (q : Placed) (chosen : AreChosen m f counts q) where
  on : (x : ℕ) (placement : Placement) → slice_get q.placements x ≡ Some placement → IsPlacementOn (arcs_of q.points.edges) (length q.points.points) (IsEventOf f q.points q.table x) placement
  on x placement there = chosen_on f q.points q.table counts x placement chosen.are_points (chosen.placements.each x placement there)

  pub are_placements : ArePlacementsOf f q.points q.table q.placements
  are_placements = record { count = chosen.placements.count; each = λ x placement there. placement_of f q.points q.table x placement (on x placement there) }

  pub lists_ascend : (x : ℕ) (placement : Placement) → slice_get q.placements x ≡ Some placement → IsStrictlyIncreasing placement.inserted
  lists_ascend x placement there = let is = on x placement there in is.inserted_order

pub above_limits : (f : Function) (plan : Plan) (placements : List Placement) → 2 * insertions placements ≤ sum_by (λ b. length b.instrs) (applied_function plan f).blocks
    → 2 ^ 28 ≤ insertions placements → IsWithinLimits (applied_function plan f) → ⊥
above_limits f plan placements adds many limits = omega (arith, adds, many, limits.instrs)
