-- What the parts of the check find.
use Rattle.std.specs.Prelude.{◌≡◌, ◌+◌, ◌*◌, ◌<◌, ◌^◌, ℕ, Bool, List, ◌∷◌, Contains, length, slice_index_or}
use Rattle.ir_types.specs.declared.syntax.Function.{Function}
use Rattle.point_graph.specs.declared.graph.Points.{Points}
use Rattle.expressions.specs.declared.syntax.Event.{Event}
use Rattle.expressions.specs.Kept.{Kept}
use Rattle.expressions.specs.Tables.{IsEventOf}
use Rattle.profile.specs.declared.counts.FnCounts.{FnCounts}
use Rattle.flow_net.specs.declared.Net.{Net}
use Rattle.flow_net.specs.declared.Flow.{Flow}
use Rattle.flow_net.specs.Network.{IsValid, IsWithin}
use Rattle.flow_check.specs.Faults.{IsFirstAbove, IsFirstUnbalanced}
use Rattle.flow_paths.specs.Paths.{target}
use Rattle.flow_paths.specs.Spreads.{IsSet}
use Rattle.placement.specs.declared.placements.Placement.{Placement}
use Rattle.placement.specs.Placements.{arcs_of, IsCorrect, IsFirstInvalid}
use Rattle.function_graphs.specs.Graphs.{graph_of, IsIn}
use Rattle.reduction.specs.declared.building.BlockNet.{BlockNet}
use Rattle.reduction.specs.Networks.{IsNetworkOf}
use Rattle.certificate.specs.declared.types.Entry.{Entry}
use Rattle.certified.specs.Entries.{HasProof, IsRight}
use Rattle.entry_check.specs.declared.fault.Fault.{Fault}
use Rattle.entry_check.specs.declared.fault.Fault.TheVariants.{Lists, Missing, Incorrect, Unsafe, Capacity, Balance}
use Rattle.entry_check.specs.declared.shown.Shown.{Shown}
use Rattle.entry_check.specs.Faults.{HasFailure, InNetwork, IsFirstUnsafe, IsWhole}

-- the first of these edges whose end isn't set
pub record IsFirstUnset (arcs : List (ℕ × ℕ)) (bits : List Bool) (numbers : List ℕ) (e : ℕ) : Type 0 where
  pub listed : Contains numbers e
  pub unset : ¬ (IsSet bits (target arcs e))
  pub first : (d : ℕ) → Contains numbers d → d < e → IsSet bits (target arcs d)

-- what is wrong with the placement of an expression that can trap
abbrev pub IsTrappingFault : Function → Points → Kept → ℕ → Placement → Fault → Type 0
IsTrappingFault f p t x placement (Incorrect point) = IsFirstInvalid (arcs_of p.edges) (IsEventOf f p t x) placement point
IsTrappingFault f p t x placement (Unsafe edge) = IsCorrect (arcs_of p.edges) (IsEventOf f p t x) placement × IsFirstUnsafe f p t x placement edge
IsTrappingFault f p t x placement _ = ⊥

-- the rank of a node
abbrev pub rank_at : Shown → ℕ → ℕ
rank_at shown v = slice_index_or shown.ranks.items v 0

-- these are the flow and the ranks of the entry, with 0 for the source and the sink before the ranks
pub record IsShownBy (net : Net) (entry : Entry) (shown : Shown) : Type 0 where
  pub listed : List ℕ
  pub has : HasProof net entry shown.flow listed
  pub ends : shown.ranks.items ≡ 0 ∷ 0 ∷ listed

-- one amount for each arc, and one rank for each node, 0 for the source and the sink
pub record HasPlaces (net : Net) (shown : Shown) : Type 0 where
  pub amounts : length shown.flow.amounts.items ≡ length net.arcs.items
  pub ranks : length shown.ranks.items ≡ net.nodes
  pub source : rank_at shown 0 ≡ 0
  pub sink : rank_at shown 1 ≡ 0

-- the block network of expression x of a function, with its constant
pub record IsNetworkIn (f : Function) (p : Points) (t : Kept) (counts : FnCounts) (x : ℕ) (full : BlockNet) : Type 0 where
  pub each : (reached : ℕ → Bool) (event : ℕ → Event) → IsIn f p t x reached event → IsNetworkOf (graph_of f p counts reached event) full
  pub nodes : full.net.nodes ≡ 2 + 2 * length p.blocks
  pub valid : IsValid full.net
  pub few : length full.net.arcs.items < 2 ^ 32
  pub bounded : full.constant < 2 ^ 104

-- what is wrong with a flow
abbrev pub IsFlowFault : Net → Flow → Fault → Type 0
IsFlowFault net flow (Capacity arc) = IsFirstAbove net flow arc
IsFlowFault net flow (Balance node) = IsWithin net flow × IsFirstUnbalanced net flow node
IsFlowFault net flow _ = ⊥

-- what is wrong with the entry of an expression that can't trap, besides its lists
abbrev pub IsPlainFault : Function → Points → Kept → FnCounts → ℕ → Entry → Fault → Type 0
IsPlainFault f p t counts x entry Lists = ⊥
IsPlainFault f p t counts x entry Missing = InNetwork (λ g net. ¬ (IsWhole net entry)) f p t counts x
IsPlainFault f p t counts x entry (Incorrect point) =
    InNetwork (λ g net. IsWhole net entry) f p t counts x × IsFirstInvalid (arcs_of p.edges) (IsEventOf f p t x) entry.placement point
IsPlainFault f p t counts x entry (Unsafe edge) = ⊥
IsPlainFault f p t counts x entry fault = IsRight f p t x entry × InNetwork (λ g net. HasFailure g net entry fault) f p t counts x
