-- What placements cost and save, expression by expression.
use Rattle.std.specs.Prelude.{◌≡◌, ◌↔◌, ◌+◌, ◌/◌, ℕ, Bool, true, List, Some, Contains, length, slice_get, sum_by}
use Rattle.std.specs.List.Sorted.{IsStrictlyIncreasing}
use Rattle.std.specs.Option.{option_map_or}
use Rattle.ir_types.specs.Program.{Program}
use Rattle.ir_types.specs.declared.syntax.Function.{Function}
use Rattle.ir_machine.specs.Same.{is_defined}
use Rattle.flow_graph.specs.Paths.{AreReached}
use Rattle.point_graph.specs.Numbers.{ArePoints}
use Rattle.point_graph.specs.declared.graph.Point.{Point}
use Rattle.point_graph.specs.declared.graph.Edge.{Edge}
use Rattle.point_graph.specs.declared.graph.Points.{Points}
use Rattle.expressions.specs.declared.syntax.Event.TheVariants.{Occurs}
use Rattle.expressions.specs.Expressions.{expr_traps}
use Rattle.expressions.specs.Kept.{Kept}
use Rattle.expressions.specs.Tables.{IsEventOf, IsTable}
use Rattle.profile.specs.declared.counts.FnCounts.{FnCounts}
use Rattle.placement.specs.Costs.{cost_of, edge_count, point_count}
use Rattle.placement.specs.Placements.{arcs_of}
use Rattle.placement.specs.declared.costs.TheConstants.{BASE}
use Rattle.placement.specs.declared.placements.Placement.{Placement}
use Rattle.best_choice.specs.Best.{IsPlacementOn}
use Rattle.transform.specs.Transformed.{defined_before}
use Rattle.tallies.specs.declared.tally.Tally.{Tally}
use Rattle.tallies.specs.declared.totals.Totals.{Totals}

-- ---- counts of places

-- the sums of the counts of edges and of points, which are told by their numbers. The test tells the reached blocks
abbrev pub edges_count : Function → FnCounts → (ℕ → Bool) → List Edge → List ℕ → ℕ
edges_count f counts reached edges inserted = sum_by (λ e. option_map_or (λ x. edge_count f counts reached x.kind) (slice_get edges e) 0) inserted

abbrev pub points_count : Function → FnCounts → (ℕ → Bool) → List Point → List ℕ → ℕ
points_count f counts reached points kept = sum_by (λ v. option_map_or (λ x. point_count f counts reached x) (slice_get points v) 0) kept

-- how often an expression is computed at the inserted edges and the kept occurrences
abbrev pub count_of : Function → FnCounts → (ℕ → Bool) → Points → Placement → ℕ
count_of f counts reached p placement = edges_count f counts reached p.edges placement.inserted + points_count f counts reached p.points placement.kept

-- ---- tallies

-- the points at which expression x occurs, ascending
pub record AreWhereOccurs (f : Function) (p : Points) (t : Kept) (x : ℕ) (occurrences : List ℕ) : Type 0 where
  pub ascending : IsStrictlyIncreasing occurrences
  pub exact : (v : ℕ) → Contains occurrences v ↔ IsEventOf f p t x v Occurs

-- what a placement of expression x costs and changes by these counts
pub record IsTally (f : Function) (counts : FnCounts) (p : Points) (t : Kept) (x : ℕ) (placement : Placement) (tally : Tally) : Type 0 where
  pub expr : slice_get t.exprs x ≡ Some tally.expr
  pub lazy : tally.lazy ≡ expr_traps tally.expr
  pub occurrences : List ℕ
  pub are_occurrences : AreWhereOccurs f p t x occurrences
  pub old : (reached : ℕ → Bool) → AreReached f reached → tally.old ≡ points_count f counts reached p.points occurrences
  pub new : (reached : ℕ → Bool) → AreReached f reached → tally.new ≡ count_of f counts reached p placement
  -- which is the profiled part of the cost
  pub profiled : (reached : ℕ → Bool) → AreReached f reached → tally.new ≡ cost_of f counts reached p placement / BASE
  pub inserted : tally.inserted ≡ length placement.inserted
  pub kept : tally.kept ≡ length placement.kept
  pub deleted : tally.kept + tally.deleted ≡ length occurrences

-- one placement and one tally for each expression of the table
pub record AreTalliesBy (f : Function) (counts : FnCounts) (p : Points) (t : Kept) (placements : List Placement) (tallies : List Tally) : Type 0 where
  pub placed : length placements ≡ length t.exprs
  pub count : length tallies ≡ length t.exprs
  pub each : (x : ℕ) (placement : Placement) (tally : Tally) → slice_get placements x ≡ Some placement → slice_get tallies x ≡ Some tally → IsTally f counts p t x placement tally

-- by the points and the table of the function
pub record AreTalliesIn (m : Program) (f : Function) (counts : FnCounts) (placements : List Placement) (tallies : List Tally) : Type 0 where
  pub points : Points
  pub are_points : ArePoints f points
  pub table : Kept
  pub of_module : table.module_of ≡ m
  pub is_table : IsTable f points table
  pub are_tallies : AreTalliesBy f counts points table placements tallies

-- the tallies of the function k stand at its place, and are those of its own placements by its own counts
pub record HasTallies (m : Program) (counts : List FnCounts) (placements : List (List Placement)) (tallies : List (List Tally)) (k : ℕ) (f : Function) : Type 0 where
  pub own : FnCounts
  pub counted : slice_get counts (defined_before m.functions k) ≡ Some own
  pub placed : List Placement
  pub placed_here : slice_get placements (defined_before m.functions k) ≡ Some placed
  pub tallied : List Tally
  pub there : slice_get tallies (defined_before m.functions k) ≡ Some tallied
  pub holds : AreTalliesIn m f own placed tallied

-- the tallies of each function that has blocks, in text order
pub record AreTallies (m : Program) (counts : List FnCounts) (placements : List (List Placement)) (tallies : List (List Tally)) : Type 0 where
  pub count : length tallies ≡ defined_before m.functions (length m.functions)
  pub each : (k : ℕ) (f : Function) → slice_get m.functions k ≡ Some f → is_defined f.blocks ≡ true → HasTallies m counts placements tallies k f

-- ---- what is tallied

-- ascending lists of edges and of occurrences of expression x
abbrev pub IsFitting : Function → Points → Kept → ℕ → Placement → Type 0
IsFitting f p t x placement = IsPlacementOn (arcs_of p.edges) (length p.points) (IsEventOf f p t x) placement

-- one such placement for each expression of the table
pub record AreFittingBy (f : Function) (p : Points) (t : Kept) (placements : List Placement) : Type 0 where
  pub count : length placements ≡ length t.exprs
  pub each : (x : ℕ) (placement : Placement) → slice_get placements x ≡ Some placement → IsFitting f p t x placement

-- by the points and the table of the function
pub record AreFittingIn (m : Program) (f : Function) (placements : List Placement) : Type 0 where
  pub points : Points
  pub are_points : ArePoints f points
  pub table : Kept
  pub of_module : table.module_of ≡ m
  pub is_table : IsTable f points table
  pub are_fitting : AreFittingBy f points table placements

-- those at the place of the function k
pub record HasFitting (m : Program) (placements : List (List Placement)) (k : ℕ) (f : Function) : Type 0 where
  pub placed : List Placement
  pub there : slice_get placements (defined_before m.functions k) ≡ Some placed
  pub holds : AreFittingIn m f placed

-- each function that has blocks has its own of these, in text order
pub record AreFitting (m : Program) (placements : List (List Placement)) : Type 0 where
  pub each : (k : ℕ) (f : Function) → slice_get m.functions k ≡ Some f → is_defined f.blocks ≡ true → HasFitting m placements k f

-- ---- sums

-- the sum of what each tally has
abbrev pub total_of : (Tally → ℕ) → List (List Tally) → ℕ
total_of part tallies = sum_by (λ own. sum_by part own) tallies

abbrev pub totals_of : List (List Tally) → Totals
totals_of tallies = record {
  expressions = sum_by (λ own. length own) tallies;
  old = total_of (λ tally. tally.old) tallies;
  new = total_of (λ tally. tally.new) tallies;
  inserted = total_of (λ tally. tally.inserted) tallies;
  kept = total_of (λ tally. tally.kept) tallies;
  deleted = total_of (λ tally. tally.deleted) tallies;
}
