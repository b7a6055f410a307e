-- How the entries of a certificate are written.
use Rattle.std.specs.Prelude.{◌≡◌, ◌<◌, ◌≤◌, ℕ, Bool, List, None, Some, slice_get}
use Rattle.ir_types.specs.declared.syntax.Function.{Function}
use Rattle.point_graph.specs.declared.graph.Points.{Points}
use Rattle.expressions.specs.declared.syntax.Event.{Event}
use Rattle.expressions.specs.Kept.{Kept}
use Rattle.profile.specs.declared.counts.FnCounts.{FnCounts}
use Rattle.flow_net.specs.declared.Net.{Net}
use Rattle.flow_net.specs.declared.Flow.{Flow}
use Rattle.flow_net.specs.Network.{ReachesSink, loads}
use Rattle.best_placement.specs.Laws.{IsBlockNetwork}
use Rattle.function_graphs.specs.Graphs.{graph_of, IsIn}
use Rattle.certificate.specs.declared.types.Entry.{Entry}
use Rattle.certified.specs.Entries.{CanTrap, HasProof, IsPlain, rank_in}

-- the rank of each node is how few residual arcs lead from it to the sink, and 0 where none do
pub record TellsDistances (net : Net) (flow : Flow) (rank : ℕ → ℕ) : Type 0 where
  pub found : (n v : ℕ) → 2 ≤ v → ReachesSink (loads net flow) n v → 0 < rank v
  pub way : (v : ℕ) → 0 < rank v → ReachesSink (loads net flow) (rank v) v
  pub fewest : (n v : ℕ) → ReachesSink (loads net flow) n v → rank v ≤ n

-- the entry has a flow, and these ranks
pub record HasDistances (net : Net) (entry : Entry) : Type 0 where
  pub flow : Flow
  pub ranks : List ℕ
  pub has : HasProof net entry flow ranks
  pub tells : TellsDistances net flow (rank_in ranks)

-- it has them in the block network of expression x of a function
pub record HasDistancesIn (f : Function) (p : Points) (t : Kept) (counts : FnCounts) (x : ℕ) (entry : Entry) : Type 0 where
  pub net : Net
  pub network : (reached : ℕ → Bool) (event : ℕ → Event) → IsIn f p t x reached event → IsBlockNetwork (graph_of f p counts reached event) net
  pub has : (reached : ℕ → Bool) (event : ℕ → Event) → IsIn f p t x reached event → HasDistances net entry

-- the entry has neither flow nor ranks
pub record IsBare (entry : Entry) : Type 0 where
  pub flow : entry.flow ≡ None
  pub ranks : entry.ranks ≡ None

-- an entry of an expression that can't trap has a flow and the distances by it, and one that can has neither
pub record IsWritten (f : Function) (p : Points) (t : Kept) (counts : FnCounts) (x : ℕ) (entry : Entry) : Type 0 where
  pub plain : IsPlain t x → HasDistancesIn f p t counts x entry
  pub trapping : CanTrap t x → IsBare entry

-- so has each of these entries
abbrev pub AreWritten : Function → Points → Kept → FnCounts → List Entry → Type 0
AreWritten f p t counts entries = (x : ℕ) (entry : Entry) → slice_get entries x ≡ Some entry → IsWritten f p t counts x entry
