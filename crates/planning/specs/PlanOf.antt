-- The plan that placements make for a function.
use Rattle.std.specs.Prelude.{◌≡◌, ◌⊎◌, ◌<◌, ℕ, List, Some, AllPairs, Contains, length, slice_get}
use Rattle.ir_types.specs.declared.syntax.Function.{Function}
use Rattle.point_graph.specs.Graph.{Edge}
use Rattle.point_graph.specs.declared.graph.Points.{Points}
use Rattle.expressions.specs.Kept.{Kept}
use Rattle.expressions.specs.Tables.{IsEventOf}
use Rattle.placement.specs.declared.placements.Placement.{Placement}
use Rattle.placement.specs.Placements.{IsDeleted}
use Rattle.placed_moves.specs.Placed.{IsEdge, IsPlaced}
use Rattle.applied.specs.Motion.{Move}
use Rattle.applied.specs.Applied.{Plan, IsFreshPrefix}
use Rattle.changes.specs.Changed.{AreChanges}
use Rattle.changes.specs.declared.lists.Changes.{Changes}

-- the expression x of the table is inserted somewhere, or an occurrence of it is deleted
abbrev pub IsNeeded : Function → Points → Kept → ℕ → Placement → Type 0
IsNeeded f p t x placement = ((n : ℕ) × Contains placement.inserted n) ⊎ ((i : ℕ) × IsDeleted (IsEventOf f p t x) placement i)

-- the move is what becomes of its expression by its placement, of which something is inserted or deleted
pub record IsMoveOf (f : Function) (p : Points) (t : Kept) (placements : List Placement) (move : Move) : Type 0 where
  pub placement : Placement
  pub there : slice_get placements move.number ≡ Some placement
  pub placed : IsPlaced f p t move.number placement move
  pub needed : IsNeeded f p t move.number placement

-- the move of this expression is one of these
pub record HasMove (moves : List Move) (x : ℕ) : Type 0 where
  pub move : Move
  pub among : Contains moves move
  pub number : move.number ≡ x

-- the plan for a function by its placements, one for each expression of its table: exactly the expressions of which something
-- is inserted or deleted have a move, in ascending order, with the first prefix that is free and the numbers of the edges
pub record IsPlanOf (f : Function) (p : Points) (t : Kept) (placements : List Placement) (plan : Plan) : Type 0 where
  pub prefix : IsFreshPrefix f plan.naming.prefix
  pub edge_numbers : (n : ℕ) (edge : Edge) → IsEdge f p n edge → plan.naming.edge_number edge ≡ n
  pub ascending : AllPairs (λ move next. move.number < next.number) plan.moves
  pub moves : (move : Move) → Contains plan.moves move → IsMoveOf f p t placements move
  pub every : (x : ℕ) (placement : Placement) → slice_get placements x ≡ Some placement → IsNeeded f p t x placement → HasMove plan.moves x

-- the edges of a placement are numbers of edges, and its kept points are numbers of points
pub record IsPlacementOf (f : Function) (p : Points) (t : Kept) (x : ℕ) (placement : Placement) : Type 0 where
  pub edges : (n : ℕ) → Contains placement.inserted n → n < length p.edges
  pub occurrences : (i : ℕ) → Contains placement.kept i → (i < length p.points)

-- one placement for each expression of the table
pub record ArePlacementsOf (f : Function) (p : Points) (t : Kept) (placements : List Placement) : Type 0 where
  pub count : length placements ≡ length t.exprs
  pub each : (x : ℕ) (placement : Placement) → slice_get placements x ≡ Some placement → IsPlacementOf f p t x placement

-- the changes are those of the plan of these placements
pub record AreChangesOf (f : Function) (p : Points) (t : Kept) (placements : List Placement) (c : Changes) : Type 0 where
  pub plan : Plan
  pub plan_of : IsPlanOf f p t placements plan
  pub are_changes : AreChanges plan t.exprs c
