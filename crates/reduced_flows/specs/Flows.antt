-- Flows of the needed part of a block network, and of the whole.
use Rattle.std.specs.Prelude.{◌≡◌, ◌<◌, ℕ, Bool, List, Contains, length, slice_index_or}
use Rattle.std.specs.List.{AllZip}
use Rattle.ir_types.specs.declared.syntax.Function.{Function}
use Rattle.point_graph.specs.declared.graph.Points.{Points}
use Rattle.expressions.specs.declared.syntax.Event.{Event}
use Rattle.expressions.specs.Kept.{Kept}
use Rattle.expressions.specs.Tables.{IsEventOf}
use Rattle.profile.specs.declared.counts.FnCounts.{FnCounts}
use Rattle.placement.specs.Placements.{arcs_of}
use Rattle.flow_net.specs.declared.Net.{Net}
use Rattle.flow_net.specs.declared.Flow.{Flow}
use Rattle.flow_net.specs.Network.{IsMaximum}
use Rattle.local_sets.specs.declared.flags.Reach.{Reach}
use Rattle.local_sets.specs.Reaching.{ends_of, IsAvailable, IsWanted, Tells}
use Rattle.best_placement.specs.Laws.{IsBlockNetwork}
use Rattle.function_graphs.specs.Graphs.{graph_of, IsIn}
use Rattle.reduction.specs.declared.reducing.Reduced.{Reduced}
use Rattle.reduction.specs.Reduced.{IsReduced}

-- the flags tell at which ends of the reached blocks the expression is available, and at which it is wanted
pub record IsReachOf (f : Function) (p : Points) (t : Kept) (e : ℕ) (reach : Reach) : Type 0 where
  pub available : AllZip (Tells p.points (IsAvailable (arcs_of p.edges) (IsEventOf f p t e))) (ends_of p.blocks) reach.available.items
  pub wanted : AllZip (Tells p.points (IsWanted (arcs_of p.edges) (IsEventOf f p t e))) (ends_of p.blocks) reach.wanted.items

-- so many amounts: those of the part at the numbers of its arcs, in order, and 0 elsewhere
pub record IsSpread (count : ℕ) (arc_of : List ℕ) (part whole : List ℕ) : Type 0 where
  pub len : length whole ≡ count
  pub named : (i : ℕ) → i < length arc_of → slice_index_or whole (slice_index_or arc_of i 0) 0 ≡ slice_index_or part i 0
  pub others : (k : ℕ) → ¬ Contains arc_of k → slice_index_or whole k 0 ≡ 0

-- a maximum flow of the needed part, with nothing on the other arcs, is one of the whole
abbrev pub ReducedFlowsAreMaximum : Type 0
ReducedFlowsAreMaximum = (f : Function) (p : Points) (t : Kept) (e : ℕ) (c : FnCounts) (reached : ℕ → Bool) (event : ℕ → Event) (net : Net) (reach : Reach) (reduced : Reduced) (small flow : Flow) → IsIn f p t e reached event
    → IsBlockNetwork (graph_of f p c reached event) net → IsReachOf f p t e reach → IsReduced net reach reduced → IsMaximum reduced.net small
    → IsSpread (length net.arcs.items) reduced.arc_of.items small.amounts.items flow.amounts.items → IsMaximum net flow
