-- What a placement costs.
use Rattle.std.specs.Prelude.{◌+◌, ◌*◌, ◌==◌, ℕ, Bool, List, length, take, slice_get, slice_index, sum_by, if◌then◌else◌}
use Rattle.std.specs.Option.{option_map_or}
use Rattle.ir_types.specs.declared.syntax.Function.{Function}
use Rattle.flow_graph.specs.Slots.{slots_from}
use Rattle.point_graph.specs.declared.graph.Point.{Point}
use Rattle.point_graph.specs.declared.graph.Point.TheVariants as points
use Rattle.point_graph.specs.declared.graph.EdgeKind.{EdgeKind}
use Rattle.point_graph.specs.declared.graph.EdgeKind.TheVariants as kinds
use Rattle.point_graph.specs.declared.graph.Edge.{Edge}
use Rattle.point_graph.specs.declared.graph.Points.{Points}
use Rattle.profile.specs.declared.counts.FnCounts.{FnCounts}
use Rattle.profile.specs.Counts.{entering}
use Rattle.placement.specs.declared.costs.TheConstants.{BASE}
use Rattle.placement.specs.declared.placements.Placement.{Placement}

-- the weight of a count
abbrev pub weight_of : ℕ → ℕ
weight_of count = if count == 0 then 1 else count * BASE

-- the count of a slot of block b: it stands behind those of the slots of the blocks before b
abbrev pub slot_count : Function → FnCounts → ℕ → ℕ → ℕ
slot_count f c b slot = slice_index c.slots (length (slots_from 0 (take b f.blocks)) + slot)

-- the entry edge and slots have their own counts, and inside edges that of their block. The test tells the reached blocks
abbrev pub edge_count : Function → FnCounts → (ℕ → Bool) → EdgeKind → ℕ
edge_count f c reached kinds.Entry = c.entry
edge_count f c reached (kinds.Inside b) = entering reached f c b
edge_count f c reached (kinds.Slot b slot) = slot_count f c b slot

-- the points of a block have its count
abbrev pub point_count : Function → FnCounts → (ℕ → Bool) → Point → ℕ
point_count f c reached points.Start = c.entry
point_count f c reached (points.Head b) = entering reached f c b
point_count f c reached (points.Instr b _) = entering reached f c b
point_count f c reached (points.Term b) = entering reached f c b

-- the sums of the weights of edges and of points, which are told by their numbers
abbrev pub edges_cost : Function → FnCounts → (ℕ → Bool) → List Edge → List ℕ → ℕ
edges_cost f c reached edges inserted = sum_by (λ e. option_map_or (λ x. weight_of (edge_count f c reached x.kind)) (slice_get edges e) 0) inserted

abbrev pub points_cost : Function → FnCounts → (ℕ → Bool) → List Point → List ℕ → ℕ
points_cost f c reached points kept = sum_by (λ v. option_map_or (λ x. weight_of (point_count f c reached x)) (slice_get points v) 0) kept

-- the sum of the weights of the inserted edges and of the kept occurrences
abbrev pub cost_of : Function → FnCounts → (ℕ → Bool) → Points → Placement → ℕ
cost_of f c reached p placement = edges_cost f c reached p.edges placement.inserted + points_cost f c reached p.points placement.kept
