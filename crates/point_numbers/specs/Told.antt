-- What numbers of points and edges tell: each reached point has one number, and each edge from a reached point.
use Rattle.std.specs.Prelude.{◌≡◌, ℕ, List, Some, length, slice_get}
use Rattle.ir_types.specs.declared.syntax.Function.{Function}
use Rattle.point_graph.specs.Graph.{Point, Start, Edge, Joins, IsReached}
use Rattle.point_graph.specs.declared.graph.Edge as numbered

-- the numbered edge joins what the edge joins
pub record JoinsNumbers (f : Function) (points : List Point) (edges : List Edge) (n : ℕ) (e : numbered.Edge) : Type 0 where
  pub edge : Edge
  pub from : Point
  pub to : Point
  pub is : slice_get edges n ≡ Some edge
  pub joins : Joins f edge from to
  pub begins : slice_get points e.from ≡ Some from
  pub ends : slice_get points e.to ≡ Some to

-- the points and the edges of these numbers, and the numbered edges, are those of the function
pub record AreTold (f : Function) (points : List Point) (edges : List Edge) (numbers : List numbered.Edge) : Type 0 where
  pub start : slice_get points 0 ≡ Some Start
  pub points_once : (i j : ℕ) (v : Point) → slice_get points i ≡ Some v → slice_get points j ≡ Some v → i ≡ j
  pub edges_once : (i j : ℕ) (edge : Edge) → slice_get edges i ≡ Some edge → slice_get edges j ≡ Some edge → i ≡ j
  pub points_reached : (i : ℕ) (v : Point) → slice_get points i ≡ Some v → IsReached f v
  pub points_there : (v : Point) → IsReached f v → (i : ℕ) × (slice_get points i ≡ Some v)
  pub edges_there : (edge : Edge) (u w : Point) → Joins f edge u w → IsReached f u → (n : ℕ) × (slice_get edges n ≡ Some edge)
  pub count : length numbers ≡ length edges
  pub joins : (n : ℕ) (e : numbered.Edge) → slice_get numbers n ≡ Some e → JoinsNumbers f points edges n e
