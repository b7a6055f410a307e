-- What is wrong with a flow, and with ranks, at the first place.
use Rattle.std.specs.Prelude.{◌≡◌, ◌≢◌, ◌≤◌, ◌<◌, ◌⊎◌, ℕ, Some, slice_get}
use Rattle.flow_net.specs.declared.Net.{Net}
use Rattle.flow_net.specs.declared.Arc.{Arc}
use Rattle.flow_net.specs.declared.Flow.{Flow}
use Rattle.flow_net.specs.Network.{ResidualArc, inflow, outflow, loads}

-- the amount on this arc is above its capacity
pub record IsAbove (net : Net) (flow : Flow) (k : ℕ) : Type 0 where
  pub load : Arc × ℕ
  pub there : slice_get (loads net flow) k ≡ Some load
  pub above : load.0.cap < load.1

-- the first arc with an amount above its capacity
pub record IsFirstAbove (net : Net) (flow : Flow) (k : ℕ) : Type 0 where
  pub is_above : IsAbove net flow k
  pub first : (i : ℕ) → i < k → ¬ (IsAbove net flow i)

-- the first node, but the source and the sink, that doesn't let out what enters it
pub record IsFirstUnbalanced (net : Net) (flow : Flow) (v : ℕ) : Type 0 where
  pub inner : 2 ≤ v
  pub node : v < net.nodes
  pub unbalanced : inflow (loads net flow) v ≢ outflow (loads net flow) v
  pub first : (w : ℕ) → 2 ≤ w → w < v → inflow (loads net flow) w ≡ outflow (loads net flow) w

-- a residual arc leads from the node to the sink, or to a node of a lower rank above 0
abbrev pub FallsFrom : Net → Flow → (ℕ → ℕ) → ℕ → Type 0
FallsFrom net flow rank v = (w : ℕ) × ResidualArc (loads net flow) v w × ((w ≡ 1) ⊎ ((0 < rank w) × (rank w < rank v)))

-- one does so from each node of a rank above 0
abbrev pub RanksFall : Net → Flow → (ℕ → ℕ) → Type 0
RanksFall net flow rank = (v : ℕ) → 0 < rank v → FallsFrom net flow rank v

-- the first node of a rank above 0 from which none does
pub record IsFirstStuck (net : Net) (flow : Flow) (rank : ℕ → ℕ) (v : ℕ) : Type 0 where
  pub ranked : 0 < rank v
  pub stuck : ¬ (FallsFrom net flow rank v)
  pub first : (w : ℕ) → w < v → 0 < rank w → FallsFrom net flow rank w
