-- What the points of a function are as a graph.
use Rattle.std.proofs.Common.{◌≡◌, ◌<◌, ℕ, List, [], length}
use Rattle.ir_types.specs.declared.syntax.Function.{Function}
use Rattle.point_graph.specs.declared.graph.Points.{Points}
use Rattle.point_graph.specs.Numbers.{ArePoints}
use Rattle.expressions.specs.declared.syntax.Event.{Event}
use Rattle.expressions.specs.declared.syntax.Event.TheVariants.{Passes}
use Rattle.expressions.specs.Kept.{Kept}
use Rattle.expressions.specs.Tables.{IsEventOf, IsTable}
use Rattle.profile.specs.declared.counts.FnCounts.{FnCounts}
use Rattle.flow_paths.specs.Paths.{Connects}
use Rattle.placement.specs.Marking.{AreEvents}
use Rattle.placement.specs.Placements.{arcs_of}
use Rattle.best_placement.specs.Laws.{IsExpressionGraph}
use Rattle.function_graphs.specs.Graphs.{graph_of, FunctionsHaveGraphs}
use Rattle.lazy_motion.specs.Steps.{event_at}
use Rattle.lazy_motion.proofs.Alike.{events_told}

no_counts : FnCounts
no_counts = record { entry = 0; slots = [] }

module _ (f : Function) (p : Points) (t : Kept) (e : ℕ) (events : List Event) (defined : 0 < length f.blocks) (are : ArePoints f p) (table : IsTable f p t) (told : AreEvents (IsEventOf f p t e) (length p.points) events) (graphs : FunctionsHaveGraphs) where
  graph : IsExpressionGraph (graph_of f p no_counts are.blocks.test (event_at events))
  graph = graphs f p t e no_counts are.blocks.test (event_at events)
      (record { defined = defined; points = are; table = table; blocks = are.blocks.told; events = events_told f p t e events told })

  pub start_passes : event_at events 0 ≡ Passes
  start_passes = graph.start_passes

  pub all_reached : (v : ℕ) → v < length p.points → Connects (arcs_of p.edges) 0 v
  all_reached = graph.reached
