-- Which placements are chosen for the expressions of a function.
use Rattle.std.specs.Prelude.{◌≡◌, ◌<◌, ◌≤◌, ◌^◌, ℕ, true, false, List, Some, length, slice_get}
use Rattle.ir_types.specs.Program.{Program}
use Rattle.ir_types.specs.declared.syntax.Function.{Function}
use Rattle.point_graph.specs.Numbers.{ArePoints}
use Rattle.point_graph.specs.declared.graph.Points.{Points}
use Rattle.expressions.specs.declared.syntax.Event.{Event}
use Rattle.expressions.specs.declared.syntax.Expr.{Expr}
use Rattle.expressions.specs.Expressions.{expr_traps}
use Rattle.expressions.specs.Kept.{Kept}
use Rattle.expressions.specs.Tables.{IsEventOf, IsTable}
use Rattle.profile.specs.declared.counts.FnCounts.{FnCounts}
use Rattle.placement.specs.declared.placements.Placement.{Placement}
use Rattle.placement.specs.Placements.{arcs_of, IsCorrect, IsSafe}
use Rattle.best_choice.specs.Best.{IsBestIn}
use Rattle.lazy_motion.specs.Laws.{IsLazyOn}
use Rattle.lazy_motion.specs.Optimality.{ComputesLeast, LivesLeast}
use Rattle.certificate.specs.Limits.{EntryIsWithin}
use Rattle.certificate.specs.declared.types.Entry.{Entry}
use Rattle.certified.specs.Entries.{CertifiesIn, IsGood}
use Rattle.certified.specs.Certified.{AreFew, insertions}
use Rattle.transform.specs.declared.placed.Placed.{Placed}
use Rattle.optimise.specs.Written.{HasDistancesIn, IsBare, IsWritten}

-- the lazy placement, with ascending lists: it is correct and safe, on each settled path no safe correct placement
-- computes less, and each that computes as few is live wherever it is
pub record IsLazilyOn (arcs : List (ℕ × ℕ)) (n : ℕ) (Is : ℕ → Event → Type 0) (placement : Placement) : Type 0 where
  pub lazy : IsLazyOn arcs n Is placement
  pub correct : IsCorrect arcs Is placement
  pub safe : IsSafe arcs Is placement
  pub computes_least : ComputesLeast arcs Is placement
  pub lives_least : LivesLeast arcs n Is placement

-- the lazy placement of expression x of a function
abbrev pub IsLazilyPlaced : Function → Points → Kept → ℕ → Placement → Type 0
IsLazilyPlaced f p t x placement = IsLazilyOn (arcs_of p.edges) (length p.points) (IsEventOf f p t x) placement

-- an expression that can't trap has its best placement by the counts of the function, and one that can trap its lazy one
pub record IsChosen (f : Function) (p : Points) (t : Kept) (counts : FnCounts) (x : ℕ) (placement : Placement) : Type 0 where
  pub expr : Expr
  pub there : slice_get t.exprs x ≡ Some expr
  pub best : expr_traps expr ≡ false → IsBestIn f p t x counts placement
  pub lazy : expr_traps expr ≡ true → IsLazilyPlaced f p t x placement

-- one placement for each expression of the table, and each is the chosen one
pub record AreEachChosen (f : Function) (p : Points) (t : Kept) (counts : FnCounts) (placements : List Placement) : Type 0 where
  pub count : length placements ≡ length t.exprs
  pub each : (x : ℕ) (placement : Placement) → slice_get placements x ≡ Some placement → IsChosen f p t counts x placement

-- the points and the table of a function, and the placements that are chosen by its counts
pub record AreChosen (m : Program) (f : Function) (counts : FnCounts) (q : Placed) : Type 0 where
  pub are_points : ArePoints f q.points
  pub of_module : q.table.module_of ≡ m
  pub is_table : IsTable f q.points q.table
  pub placements : AreEachChosen f q.points q.table counts q.placements

-- what is chosen in the function inserts at so few edges that it can be applied
pub record IsPlacedBy (m : Program) (f : Function) (counts : FnCounts) (q : Placed) : Type 0 where
  pub chosen : AreChosen m f counts q
  pub few : AreFew q.placements

-- what is chosen in the function inserts at 2^28 edges or more
pub record IsCrowded (m : Program) (f : Function) (counts : FnCounts) : Type 0 where
  pub placed : Placed
  pub chosen : AreChosen m f counts placed
  pub many : 2 ^ 28 ≤ insertions placed.placements

-- ---- entries

-- the best placement, with a flow and ranks that show it; the ranks are the distances to the sink
pub record IsBestEntry (f : Function) (p : Points) (t : Kept) (counts : FnCounts) (x : ℕ) (entry : Entry) : Type 0 where
  pub best : IsBestIn f p t x counts entry.placement
  pub certifies : CertifiesIn f p t counts x entry
  pub distances : HasDistancesIn f p t counts x entry
  pub within : EntryIsWithin entry

-- the lazy placement, and nothing else
pub record IsLazyEntry (f : Function) (p : Points) (t : Kept) (x : ℕ) (entry : Entry) : Type 0 where
  pub lazy : IsLazilyPlaced f p t x entry.placement
  pub bare : IsBare entry
  pub within : EntryIsWithin entry

-- the placement that is chosen, with what shows it
pub record IsChosenEntry (f : Function) (p : Points) (t : Kept) (counts : FnCounts) (x : ℕ) (entry : Entry) : Type 0 where
  pub chosen : IsChosen f p t counts x entry.placement
  pub good : IsGood f p t counts x entry
  pub written : IsWritten f p t counts x entry
  pub within : EntryIsWithin entry
