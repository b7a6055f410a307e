-- The graph of an expression in a function, with the weights of counts.
use Rattle.std.specs.Prelude.{◌≡◌, ◌≤◌, ◌<◌, ◌↔◌, ◌==◌, ℕ, suc, Bool, List, [], ◌∷◌, length, map, slice_get, if◌then◌else◌}
use Rattle.std.specs.Option.{option_map_or}
use Rattle.ir_types.specs.declared.syntax.Block.{Block}
use Rattle.ir_types.specs.declared.syntax.Function.{Function}
use Rattle.flow_graph.specs.Slots.{slots_of}
use Rattle.flow_graph.specs.Paths.{AreReached}
use Rattle.point_graph.specs.Numbers.{ArePoints}
use Rattle.point_graph.specs.declared.graph.Points.{Points}
use Rattle.expressions.specs.declared.syntax.Event.{Event}
use Rattle.expressions.specs.declared.syntax.Event.TheVariants.{Passes}
use Rattle.expressions.specs.Kept.{Kept}
use Rattle.expressions.specs.Tables.{IsTable, IsEventOf}
use Rattle.profile.specs.declared.counts.FnCounts.{FnCounts}
use Rattle.profile.specs.Counts.{entering}
use Rattle.placement.specs.declared.placements.Placement.{Placement}
use Rattle.placement.specs.Placements.{arcs_of, IsCorrect, IsLiveAt, IsLiveOn}
use Rattle.placement.specs.Costs.{weight_of, edge_count, point_count, cost_of}
use Rattle.best_choice.specs.Best.{IsPlacementOn}
use Rattle.best_placement.specs.Blocks.{HasEvent}
use Rattle.best_placement.specs.Shapes.{Shape, shape_blocks}
use Rattle.best_placement.specs.Laws.{ExpressionGraph, IsExpressionGraph, IsPlacement, IsCorrectOn, cost_on}

-- how many blocks of the list come before the block
abbrev pub place_in : List ℕ → ℕ → ℕ
place_in [] b = 0
place_in (x ∷ blocks) b = if x == b then 0 else suc (place_in blocks b)

-- block b of a function: its instructions, the places of its targets among the reached blocks, and the weight of its count
abbrev pub shape_of : Function → FnCounts → (ℕ → Bool) → List ℕ → ℕ → Block → Shape
shape_of f c reached blocks b block = record {
  instructions = length block.instrs;
  targets = map (place_in blocks) (slots_of block.term);
  weight = weight_of (entering reached f c b);
}

abbrev pub no_shape : Shape
no_shape = record { instructions = 0; targets = []; weight = 1 }

abbrev pub shape_at : Function → FnCounts → (ℕ → Bool) → List ℕ → ℕ → Shape
shape_at f c reached blocks b = option_map_or (shape_of f c reached blocks b) (slice_get f.blocks b) no_shape

-- the graph of an expression with these events, over the points and edges of a function with these counts. The test tells the reached blocks
abbrev pub graph_of : Function → Points → FnCounts → (ℕ → Bool) → (ℕ → Event) → ExpressionGraph
graph_of f p c reached event = record {
  arcs = arcs_of p.edges;
  points = length p.points;
  blocks = shape_blocks (map (shape_at f c reached p.blocks) p.blocks);
  event = event;
  edge_weight = λ e. option_map_or (λ x. weight_of (edge_count f c reached x.kind)) (slice_get p.edges e) 0;
  point_weight = λ v. option_map_or (λ x. weight_of (point_count f c reached x)) (slice_get p.points v) 0;
}

-- what each point is to the expression of this number; past the points nothing is done
pub record AreEventsOf (f : Function) (p : Points) (t : Kept) (e : ℕ) (event : ℕ → Event) : Type 0 where
  pub at_points : (v : ℕ) → v < length p.points → IsEventOf f p t e v (event v)
  pub past : (v : ℕ) → length p.points ≤ v → event v ≡ Passes

-- an expression of the table of a function with blocks
pub record IsIn (f : Function) (p : Points) (t : Kept) (e : ℕ) (reached : ℕ → Bool) (event : ℕ → Event) : Type 0 where
  pub defined : 0 < length f.blocks
  pub points : ArePoints f p
  pub table : IsTable f p t
  pub blocks : AreReached f reached
  pub events : AreEventsOf f p t e event

-- the graph of an expression is one of blocks
abbrev pub FunctionsHaveGraphs : Type 0
FunctionsHaveGraphs = (f : Function) (p : Points) (t : Kept) (e : ℕ) (c : FnCounts) (reached : ℕ → Bool) (event : ℕ → Event) → IsIn f p t e reached event → IsExpressionGraph (graph_of f p c reached event)

-- a placement is one, is correct, is live and costs on the graph as it does in the function
pub record Agrees (f : Function) (p : Points) (t : Kept) (e : ℕ) (c : FnCounts) (reached : ℕ → Bool) (event : ℕ → Event) (placement : Placement) : Type 0 where
  pub is_placement : IsPlacement (graph_of f p c reached event) placement ↔ IsPlacementOn (arcs_of p.edges) (length p.points) (IsEventOf f p t e) placement
  pub correct : IsCorrectOn (graph_of f p c reached event) placement ↔ IsCorrect (arcs_of p.edges) (IsEventOf f p t e) placement
  pub live_at : (v : ℕ) → IsLiveAt (arcs_of p.edges) (HasEvent event) placement v ↔ IsLiveAt (arcs_of p.edges) (IsEventOf f p t e) placement v
  pub live_on : (n : ℕ) → IsLiveOn (arcs_of p.edges) (HasEvent event) placement n ↔ IsLiveOn (arcs_of p.edges) (IsEventOf f p t e) placement n
  pub cost : cost_on (graph_of f p c reached event) placement ≡ cost_of f c reached p placement

abbrev pub PlacementsAgree : Type 0
PlacementsAgree = (f : Function) (p : Points) (t : Kept) (e : ℕ) (c : FnCounts) (reached : ℕ → Bool) (event : ℕ → Event) (placement : Placement) → IsIn f p t e reached event → Agrees f p t e c reached event placement

-- each point is something to an expression of the table
abbrev pub EventsExist : Type 0
EventsExist = (f : Function) (p : Points) (t : Kept) (e : ℕ) → IsTable f p t → e < length t.exprs → (event : ℕ → Event) × AreEventsOf f p t e event
