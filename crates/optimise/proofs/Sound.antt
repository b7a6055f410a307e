-- The chosen placements are moves, and are placed function by function.
use Rattle.std.proofs.Common.{◌≡◌, ℕ, ◌<◌, Bool, true, false, List, length, map, refl, sym, ap, ◌∙◌, subst, arith}
use Rattle.std.specs.Prelude.{◌↔◌}
use Rattle.std.proofs.lemmas.List.Elements.{All-contains}
use Rattle.std.proofs.lemmas.Option.{same_Some}
use Rattle.ir_types.specs.Program.{Program}
use Rattle.ir_types.specs.declared.syntax.Function.{Function}
use Rattle.ir_machine.specs.Same.{is_defined}
use Rattle.profile.specs.declared.counts.FnCounts.{FnCounts}
use Rattle.point_graph.specs.Graph.{Point}
use Rattle.point_graph.specs.Numbers.{ArePoints, KeepsRules, all_edges, point_of}
use Rattle.point_graph.specs.declared.graph.Points.{Points}
use Rattle.point_numbers.specs.Told.{AreTold}
use Rattle.expressions.specs.Expressions.{expr_traps}
use Rattle.expressions.specs.declared.syntax.Event.TheVariants as events
use Rattle.expressions.specs.Kept.{Kept}
use Rattle.expressions.specs.Tables.{IsTable, IsEventOf}
use Rattle.placement.specs.declared.placements.Placement.{Placement}
use Rattle.placement.specs.Placements.{arcs_of, IsCorrect, IsSafe}
use Rattle.placement.proofs.GraphLemmas.{arcs_length}
use Rattle.best_choice.specs.Best.{IsPlacementOn}
use Rattle.planning.specs.PlanOf.{IsPlacementOf, IsMoveOf}
use Rattle.placed_moves.specs.Placed.{IsPoint, IsPlaced, IsTold}
use Rattle.applied.specs.Motion.{Occurs, Move, IsMove}
use Rattle.transform.proofs.Alone.{defined_length}
use Rattle.transform.specs.declared.placed.Placed.{Placed}
use Rattle.transform.specs.Transformed.{Each, IsPlacedIn, IsSoundIn}
use Rattle.optimise.specs.Choice.{IsChosen, IsPlacedBy}
use Rattle.optimise.specs.Optimised.{EachChosen}

-- what the laws below say of moves
pub record MoveLaws : Type 0 where
  pub told : (f : Function) (p : Points) (t : Kept) (x : ℕ) (placement : Placement) (move : Move) → 0 < length f.blocks → ArePoints f p → IsTable f p t → IsPlaced f p t x placement move → IsTold t.module_of f move
  pub occurs : (f : Function) (p : Points) (t : Kept) (x : ℕ) (placement : Placement) (move : Move) → 0 < length f.blocks → ArePoints f p → IsTable f p t → IsPlaced f p t x placement move
      → (i : ℕ) (v : Point) → IsPoint f p i v → IsEventOf f p t x i events.Occurs ↔ Occurs t.module_of f move.expr v
  pub numbered : (f : Function) (p : Points) → KeepsRules f → 0 < length f.blocks → ArePoints f p → AreTold f (map (point_of f) p.points) (all_edges f p.blocks) p.edges
  pub is_move : (f : Function) (p : Points) (t : Kept) (x : ℕ) (placement : Placement) (move : Move) → 0 < length f.blocks → ArePoints f p → IsTable f p t → IsPlaced f p t x placement move
      → IsCorrect (arcs_of p.edges) (IsEventOf f p t x) placement → (expr_traps move.expr ≡ true → IsSafe (arcs_of p.edges) (IsEventOf f p t x) placement) → IsMove t.module_of f move

-- ---- the placements of a function

placed_numbers : (f : Function) (p : Points) (t : Kept) (x : ℕ) (placement : Placement) → IsPlacementOn (arcs_of p.edges) (length p.points) (IsEventOf f p t x) placement → IsPlacementOf f p t x placement
placed_numbers f p t x placement is = record {
  edges = λ n among. let inside : n < length (arcs_of p.edges) = All-contains (λ e. e < length (arcs_of p.edges)) placement.inserted n is.edges among in omega (arith, inside, arcs_length p.edges);
  occurrences = λ i among. All-contains (λ v. v < length p.points) placement.kept i is.points among;
}

-- the lazy placement, and the best one, has numbers of edges and of points
chosen_numbers : (f : Function) (p : Points) (t : Kept) (x : ℕ) (counts : FnCounts) (placement : Placement) → ArePoints f p → IsChosen f p t counts x placement → IsPlacementOf f p t x placement
chosen_numbers f p t x counts placement are is = by (expr_traps is.expr) refl
  where
    by : (b : Bool) → expr_traps is.expr ≡ b → IsPlacementOf f p t x placement
    by true traps = let lazy = is.lazy traps in placed_numbers f p t x placement lazy.lazy.placement
    by false safe = let best = is.best safe are.blocks.test are.blocks.told in placed_numbers f p t x placement best.placement

pub placed_in : (m : Program) (f : Function) (counts : FnCounts) (q : Placed) → IsPlacedBy m f counts q → IsPlacedIn m f q
placed_in m f counts q is = record {
  are_points = is.chosen.are_points;
  of_module = is.chosen.of_module;
  is_table = is.chosen.is_table;
  placements = record {
    count = is.chosen.placements.count;
    each = λ x placement there. chosen_numbers f q.points q.table x counts placement is.chosen.are_points (is.chosen.placements.each x placement there);
  };
  few = is.few;
}

module _ (laws : MoveLaws) (m : Program) (f : Function) (counts : FnCounts) (q : Placed) (defined : is_defined f.blocks ≡ true) (is : IsPlacedBy m f counts q) (move : Move) (of : IsMoveOf f q.points q.table q.placements move) where
  abbrev chosen : IsChosen f q.points q.table counts move.number of.placement
  chosen = is.chosen.placements.each move.number of.placement of.there

  -- it is the expression that was asked whether it can trap
  traps_same : expr_traps chosen.expr ≡ expr_traps move.expr
  traps_same = ap expr_traps (same_Some chosen.expr move.expr (sym chosen.there ∙ of.placed.expr_there))

  chosen_move : (b : Bool) → expr_traps chosen.expr ≡ b → IsMove q.table.module_of f move
  chosen_move true traps =
      let lazy = chosen.lazy traps in
      laws.is_move f q.points q.table move.number of.placement move (defined_length f defined) is.chosen.are_points is.chosen.is_table of.placed lazy.correct
      (λ traps. lazy.safe)
  chosen_move false safe =
      let best = chosen.best safe is.chosen.are_points.blocks.test is.chosen.are_points.blocks.told in
      laws.is_move f q.points q.table move.number of.placement move (defined_length f defined) is.chosen.are_points is.chosen.is_table of.placed best.correct
      (λ traps. absurd (true_false (sym traps ∙ sym traps_same ∙ safe)))
    where
      true_false : true ≡ false → ⊥
      true_false e = cc

  pub sound_move : IsMove m f move
  sound_move = subst (λ m. IsMove m f move) is.chosen.of_module (chosen_move (expr_traps chosen.expr) refl)

pub sound_in : MoveLaws → (m : Program) (f : Function) (counts : FnCounts) (q : Placed) → is_defined f.blocks ≡ true → IsPlacedBy m f counts q → IsSoundIn m f q
sound_in laws m f counts q defined is = record {
  placed = placed_in m f counts q is;
  are_moves = sound_move laws m f counts q defined is;
}

pub each_sound : MoveLaws → (m : Program) (counts : List FnCounts) (placed : List Placed) → EachChosen m counts placed → Each (IsSoundIn m) m.functions placed
each_sound laws m counts placed each = record {
  count = each.count;
  each = λ k f there d. let has = each.each k f there d in record { placed = has.placed_here; there = has.there; holds = sound_in laws m f has.own has.placed_here d has.holds };
}
