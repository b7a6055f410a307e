-- Point graphs that a placement has marked.
use Rattle.std.specs.Prelude.{◌≡◌, ◌<◌, ◌^◌, ℕ, List, All, length}
use Rattle.point_graph.specs.declared.graph.Edge.{Edge}
use Rattle.expressions.specs.declared.syntax.Event.{Event}
use Rattle.flow_paths.specs.declared.marks.Mark.TheVariants.{Write}
use Rattle.flow_paths.specs.Paths.{ArcsWithin, IsPath, met}
use Rattle.flow_paths.specs.Marks.{mark_at, ReachedInvalid}
use Rattle.placement.specs.declared.placements.Placement.{Placement}
use Rattle.placement.specs.declared.marking.Marked.{Marked}
use Rattle.placement.specs.Placements.{arcs_of}
use Rattle.placement.specs.Marking.{EdgeMarks, PointMarks, DeletedBy}

-- the graph of these edges and events, with the marks of the placement
pub record IsMarked (edges : List Edge) (events : List Event) (p : Placement) (m : Marked) : Type 0 where
  pub arcs_are : m.arcs.items ≡ arcs_of edges
  pub events_are : m.events.items ≡ events
  pub point_marks : PointMarks events p.kept m.at_point.items
  pub edge_marks : EdgeMarks (length edges) p.inserted m.at_edge.items

-- there is a mark for each point and for each edge
pub record HasMarks (m : Marked) : Type 0 where
  pub start : 0 < length m.events.items
  pub numbered : length m.events.items < 2 ^ 32
  pub within : ArcsWithin m.arcs.items (length m.events.items)
  pub points : length m.at_point.items ≡ length m.events.items
  pub edges : length m.at_edge.items ≡ length m.arcs.items

-- v is a deleted occurrence that some path reaches invalid
abbrev pub ReachesDeleted : Marked → ℕ → Type 0
ReachesDeleted m v = DeletedBy m.events.items m.at_point.items v × ReachedInvalid m.arcs.items (mark_at m.at_point.items m.at_edge.items) v

-- some path from v meets a deleted occurrence with no write before it
pub record LiveBy (m : Marked) (v : ℕ) : Type 0 where
  pub path : List ℕ
  pub occurrence : ℕ
  pub leads : IsPath m.arcs.items v path occurrence
  pub inside : occurrence < length m.events.items
  pub deleted : DeletedBy m.events.items m.at_point.items occurrence
  pub unwritten : All (λ x. ¬ (mark_at m.at_point.items m.at_edge.items x ≡ Write)) (met m.arcs.items path)
