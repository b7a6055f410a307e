-- A placement by the numbers of points and edges, as what becomes of an expression.
use Rattle.std.specs.Prelude.{◌≡◌, ◌↔◌, ◌<◌, ℕ, true, false, Some, Contains, length, map, slice_get}
use Rattle.ir_types.specs.declared.syntax.Function.{Function}
use Rattle.ir_types.specs.Program.{Program}
use Rattle.point_graph.specs.Graph.{Point, Edge, Joins, IsReached}
use Rattle.point_graph.specs.Numbers.{all_edges, point_of}
use Rattle.point_graph.specs.declared.graph.Points.{Points}
use Rattle.expressions.specs.declared.syntax.Event.{Event}
use Rattle.expressions.specs.declared.syntax.Event.TheVariants as events
use Rattle.expressions.specs.Kept.{Kept}
use Rattle.expressions.specs.Tables.{IsEventOf}
use Rattle.placement.specs.declared.placements.Placement.{Placement}
use Rattle.placement.specs.Placements.{arcs_of, IsDeleted, IsLiveAt}
use Rattle.applied.specs.Motion.{Occurs, Move, IsLive}

-- the point and the edge of a number
abbrev pub IsPoint : Function → Points → ℕ → Point → Type 0
IsPoint f p i v = slice_get (map (point_of f) p.points) i ≡ Some v

abbrev pub IsEdge : Function → Points → ℕ → Edge → Type 0
IsEdge f p n edge = slice_get (all_edges f p.blocks) n ≡ Some edge

-- the expression x of the table becomes what the placement says
pub record IsPlaced (f : Function) (p : Points) (t : Kept) (x : ℕ) (placement : Placement) (move : Move) : Type 0 where
  pub expr_there : slice_get t.exprs x ≡ Some move.expr
  pub events_told : (i : ℕ) → i < length p.points → (event : Event) × IsEventOf f p t x i event
  pub inserted_is : (edge : Edge) → (move.inserted edge ≡ true) ↔ ((n : ℕ) × IsEdge f p n edge × Contains placement.inserted n)
  pub kept_is : (v : Point) → (move.kept v ≡ true) ↔ ((i : ℕ) × IsPoint f p i v × IsEventOf f p t x i events.Occurs × Contains placement.kept i)
  pub deleted_is : (v : Point) → (move.deleted v ≡ true) ↔ ((i : ℕ) × IsPoint f p i v × IsDeleted (IsEventOf f p t x) placement i)
  pub live_is : (i : ℕ) (v : Point) → IsPoint f p i v → (move.live v ≡ true) ↔ IsLiveAt (arcs_of p.edges) (IsEventOf f p t x) placement i

-- what a move says of the reached points and edges of a function, whether it is correct or not
pub record IsTold (m : Program) (f : Function) (move : Move) : Type 0 where
  pub found_at : Point
  pub found : Occurs m f move.expr found_at
  pub inserted_is : (edge : Edge) → move.inserted edge ≡ true → (u : Point) × (w : Point) × Joins f edge u w × IsReached f u
  pub kept_is : (v : Point) → move.kept v ≡ true → IsReached f v × Occurs m f move.expr v
  pub deleted_is : (v : Point) → (move.deleted v ≡ true) ↔ (IsReached f v × Occurs m f move.expr v × (move.kept v ≡ false))
  pub live_is : (v : Point) → IsReached f v → (move.live v ≡ true) ↔ IsLive f move v
