-- The sets of a function's blocks, seen on the graph of an expression.
use Rattle.std.specs.Prelude.{◌≡◌, ℕ, Bool, List}
use Rattle.std.specs.List.{AllZip}
use Rattle.ir_types.specs.declared.syntax.Function.{Function}
use Rattle.point_graph.specs.declared.graph.Points.{Points}
use Rattle.expressions.specs.declared.syntax.Event.{Event}
use Rattle.expressions.specs.declared.syntax.Event.TheVariants.{Passes}
use Rattle.expressions.specs.Kept.{Kept}
use Rattle.profile.specs.declared.counts.FnCounts.{FnCounts}
use Rattle.local_sets.specs.declared.blocks.BlockSets.{BlockSets}
use Rattle.local_sets.specs.Blocks.{IsBlockSets}
use Rattle.best_placement.specs.Blocks.{Block}
use Rattle.best_placement.specs.BlockNetwork.{first_event, last_event, forced}
use Rattle.function_graphs.specs.Graphs.{graph_of, IsIn}

-- the first and the last event of a block of the graph, and its forced occurrences
pub record HasSets (event : ℕ → Event) (b : Block) (sets : BlockSets) : Type 0 where
  pub first : first_event event b.steps ≡ sets.first
  pub last : last_event event Passes b.steps ≡ sets.last
  pub forced_count : forced event Passes b.steps ≡ sets.forced

-- the sets of a function's blocks are those of the blocks of the graph
abbrev pub SetsAgree : Type 0
SetsAgree = (f : Function) (p : Points) (t : Kept) (e : ℕ) (c : FnCounts) (reached : ℕ → Bool) (event : ℕ → Event) (sets : List BlockSets) → IsIn f p t e reached event
    → AllZip (IsBlockSets f t e) p.blocks sets → AllZip (HasSets event) (graph_of f p c reached event).blocks sets
