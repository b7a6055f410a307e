-- The block network of an expression in a function.
use Rattle.std.specs.Prelude.{◌<◌, ◌^◌, ℕ, Bool}
use Rattle.ir_types.specs.declared.syntax.Function.{Function}
use Rattle.point_graph.specs.declared.graph.Points.{Points}
use Rattle.expressions.specs.declared.syntax.Event.{Event}
use Rattle.expressions.specs.Kept.{Kept}
use Rattle.profile.specs.declared.counts.FnCounts.{FnCounts}
use Rattle.profile.specs.Counts.{total}
use Rattle.flow_net.specs.declared.Net.{Net}
use Rattle.flow_net.specs.Network.{IsValid}
use Rattle.best_placement.specs.Laws.{IsBlockNetwork}
use Rattle.function_graphs.specs.Graphs.{graph_of, IsIn}

-- the block network of a function whose counts fit is valid
abbrev pub NetworksAreValid : Type 0
NetworksAreValid = (f : Function) (p : Points) (t : Kept) (e : ℕ) (c : FnCounts) (reached : ℕ → Bool) (event : ℕ → Event) (net : Net) → IsIn f p t e reached event → total c < 2 ^ 64
    → IsBlockNetwork (graph_of f p c reached event) net → IsValid net
