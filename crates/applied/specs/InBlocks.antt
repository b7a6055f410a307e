-- The placement of an expression that looks at each block by itself.
use Rattle.std.specs.Prelude.{◌≡◌, ◌↔◌, ◌⊎◌, ℕ, ◌<◌, true, false}
use Rattle.ir_types.specs.Program.{Program}
use Rattle.ir_types.specs.declared.syntax.Function.{Function}
use Rattle.point_graph.specs.Graph.{Point, Start, Head, Place, Edge, IsReached}
use Rattle.expressions.specs.declared.syntax.Expr.{Expr}
use Rattle.applied.specs.Motion.{Occurs, Kills, Move, IsLive}

-- of the places of block b before the place k the place j is the last where the expression occurs or is killed
pub record IsLastEvent (m : Program) (function : Function) (e : Expr) (b k j : ℕ) : Type 0 where
  pub before : j < k
  pub event : Occurs m function e (Place b j) ⊎ Kills m function e (Place b j)
  pub quiet : (i : ℕ) → j < i → i < k → (¬ Occurs m function e (Place b i)) × (¬ Kills m function e (Place b i))

-- the event before the point in its block, if there is one, is a kill
abbrev pub IsFresh : Program → Function → Expr → Point → Type 0
IsFresh m function e Start = Unit {0}
IsFresh m function e (Head b) = Unit {0}
IsFresh m function e (Place b k) = (j : ℕ) → IsLastEvent m function e b k j → Kills m function e (Place b j)

-- nothing is inserted, and each occurrence is kept that is the first event of its block or behind a kill
pub record IsBlockMove (m : Program) (function : Function) (move : Move) : Type 0 where
  pub found_at : Point
  pub found : Occurs m function move.expr found_at
  pub inserted_is : (edge : Edge) → move.inserted edge ≡ false
  pub kept_is : (v : Point) → (move.kept v ≡ true) ↔ (IsReached function v × Occurs m function move.expr v × IsFresh m function move.expr v)
  pub deleted_is : (v : Point) → (move.deleted v ≡ true) ↔ (IsReached function v × Occurs m function move.expr v × (move.kept v ≡ false))
  pub live_is : (v : Point) → IsReached function v → (move.live v ≡ true) ↔ IsLive function move v
