-- The block network of an expression, with what each placement pays besides.
use Rattle.std.specs.Prelude.{◌≡◌, ◌<◌, ℕ, Bool, List, length}
use Rattle.std.specs.List.{AllZip}
use Rattle.ir_types.specs.declared.syntax.Function.{Function}
use Rattle.point_graph.specs.declared.graph.Points.{Points}
use Rattle.expressions.specs.declared.syntax.Event.{Event}
use Rattle.expressions.specs.Kept.{Kept}
use Rattle.expressions.specs.Tables.{IsTable}
use Rattle.profile.specs.declared.counts.FnCounts.{FnCounts}
use Rattle.local_sets.specs.declared.blocks.BlockSets.{BlockSets}
use Rattle.local_sets.specs.Blocks.{IsBlockSets}
use Rattle.best_placement.specs.BlockNetwork.{constant}
use Rattle.best_placement.specs.Laws.{ExpressionGraph, IsBlockNetwork}
use Rattle.function_graphs.specs.Graphs.{graph_of, IsIn}
use Rattle.reduction.specs.declared.building.BlockNet.{BlockNet}

-- the sets of a function's blocks, for some expression of its table
pub record AreSetsOf (f : Function) (p : Points) (sets : List BlockSets) : Type 0 where
  pub table : Kept
  pub number : ℕ
  pub is_table : IsTable f p table
  pub known : number < length table.exprs
  pub are : AllZip (IsBlockSets f table number) p.blocks sets

-- the block network of the expression of a graph, with its constant
pub record IsNetworkOf (g : ExpressionGraph) (full : BlockNet) : Type 0 where
  pub network : IsBlockNetwork g full.net
  pub paid : full.constant ≡ constant g.event g.blocks

-- it is that of each expression with these sets
abbrev pub IsFullNetwork : Function → Points → FnCounts → List BlockSets → BlockNet → Type 0
IsFullNetwork f p c sets full = (t : Kept) (e : ℕ) (reached : ℕ → Bool) (event : ℕ → Event) → IsIn f p t e reached event → AllZip (IsBlockSets f t e) p.blocks sets
    → IsNetworkOf (graph_of f p c reached event) full
