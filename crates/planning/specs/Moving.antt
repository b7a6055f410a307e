-- What placements make of edges and points, one expression after another, and the moves that this comes from.
use Rattle.std.specs.Prelude.{◌≡◌, ◌+◌, ◌<◌, ◌≤◌, ℕ, Bool, false, ◌&&◌, if◌then◌else◌, List, [], ◌∷◌, ◌++◌, Option, Some, AllPairs, Contains, length, slice_get, slice_index_or}
use Rattle.std.specs.List.{AllZip}
use Rattle.std.specs.Option.{option_map_or}
use Rattle.ir_types.specs.declared.syntax.Function.{Function}
use Rattle.point_graph.specs.Graph.{Edge}
use Rattle.point_graph.specs.declared.graph.Point.{Point}
use Rattle.point_graph.specs.declared.graph.Point.TheVariants.{Instr}
use Rattle.point_graph.specs.declared.graph.BlockStart.{BlockStart}
use Rattle.point_graph.specs.declared.graph.Points.{Points}
use Rattle.expressions.specs.Kept.{Kept}
use Rattle.placement.specs.declared.placements.Placement.{Placement}
use Rattle.placed_moves.specs.Placed.{IsEdge}
use Rattle.applied.specs.Motion.{Move}
use Rattle.changes.specs.Changed.{inserting, IsAction, IsTemp}
use Rattle.changes.specs.declared.lists.Action.{Action}
use Rattle.changes.specs.declared.lists.Action.TheVariants.{Stays, Loads, Stores}
use Rattle.planning.specs.PlanOf.{IsMoveOf, IsNeeded, HasMove}
use Rattle.planning.specs.Marking.{has, is_missing}
use Rattle.planning.specs.declared.marks.Marks.{Marks}
use Rattle.planning.specs.declared.moves.Moved.{Moved}

-- ---- one expression

-- the listed elements become what g makes of them, and the others are as they were
pub record ChangesListed {X : Type 0} (listed : List ℕ) (g : ℕ → X → X) (d : X) (old new : List X) : Type 0 where
  pub len : length new ≡ length old
  pub each : (n : ℕ) → n < length old → slice_index_or new n d ≡ (if has listed n then g n (slice_index_or old n d) else slice_index_or old n d)

-- the lists of the inserted edges have one temporary more
abbrev pub AddsTemp : List ℕ → ℕ → List (List ℕ) → List (List ℕ) → Type 0
AddsTemp inserted temp old new = ChangesListed inserted (λ n list. list ++ temp ∷ []) [] old new

-- the number of the edge to the place behind place k of block b
abbrev pub edge_behind : List BlockStart → ℕ → ℕ → ℕ
edge_behind starts b k = option_map_or (λ start. start.edge) (slice_get starts b) 0 + k + 1

abbrev pub stored_behind : List BlockStart → List ℕ → List ℕ → ℕ → Option Point → Bool
stored_behind starts inserted live i (Some (Instr b k)) = is_missing inserted (edge_behind starts b k) && has live (i + 1)
stored_behind starts inserted live i _ = false

-- the temporary is live behind the point i, and not inserted on the way
abbrev pub stored_at : Points → List ℕ → List ℕ → ℕ → Bool
stored_at p inserted live i = stored_behind p.starts inserted live i (slice_get p.points i)

abbrev pub acted_by : Bool → Bool → ℕ → Action → Action
acted_by kept stored temp before = if kept then (if stored then Stores temp else before) else Loads temp

-- what becomes of the occurrence i, of which this became before
abbrev pub acting : Points → Marks → ℕ → ℕ → Action → Action
acting p marks temp i before = acted_by (has marks.kept.keys i) (stored_at p marks.inserted.keys marks.live.keys i) temp before

abbrev pub ActsOn : Points → Marks → List ℕ → ℕ → List Action → List Action → Type 0
ActsOn p marks places temp old new = ChangesListed places (acting p marks temp) Stays old new

pub record AddsMove (p : Points) (marks : Marks) (places : List ℕ) (x : ℕ) (old new : Moved) : Type 0 where
  pub temps : new.temps.items ≡ old.temps.items ++ x ∷ []
  pub edges : AddsTemp marks.inserted.keys (length old.temps.items) old.edges.items new.edges.items
  pub actions : ActsOn p marks places (length old.temps.items) old.actions.items new.actions.items

-- ---- the expressions before x

-- the moves of the needed expressions before x, and that the lists are those of the moves
pub record IsMoved (f : Function) (p : Points) (t : Kept) (placements : List Placement) (x : ℕ) (moved : Moved) : Type 0 where
  pub moves : List Move
  pub temps : AllZip (IsTemp t.exprs) moved.temps.items moves
  pub ascending : AllPairs (λ move next. move.number < next.number) moves
  pub before : (move : Move) → Contains moves move → move.number < x
  pub are_moves : (move : Move) → Contains moves move → IsMoveOf f p t placements move
  pub every : (y : ℕ) (placement : Placement) → y < x → slice_get placements y ≡ Some placement → IsNeeded f p t y placement → HasMove moves y
  pub few : length moved.temps.items ≤ x
  pub edge_count : length moved.edges.items ≡ length p.edges
  pub edges : (n : ℕ) (edge : Edge) → IsEdge f p n edge → slice_index_or moved.edges.items n [] ≡ inserting 0 edge moves
  pub action_count : length moved.actions.items ≡ length p.points
  pub actions : (i b k : ℕ) → slice_get p.points i ≡ Some (Instr b k) → IsAction moves b k (slice_index_or moved.actions.items i Stays)
