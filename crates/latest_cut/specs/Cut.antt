use Rattle.std.specs.Prelude.{◌≡◌, ℕ, ◌≤◌, ◌↔◌, Bool, true, false, List, length, slice_index_or}
use Rattle.flow_net.specs.declared.Arc.{Arc}
use Rattle.flow_net.specs.Network.{ReachesSink}
use Rattle.latest_cut.specs.declared.Cut.{Cut}

-- whether a node is on the sink's side
abbrev pub sink_side_of : Cut → ℕ → Bool
sink_side_of cut v = slice_index_or cut.sink_side.items v false

-- the rank of a node
abbrev pub rank_of : Cut → ℕ → ℕ
rank_of cut v = slice_index_or cut.rank.items v 0

-- the nodes that reach the sink by residual arcs
pub record IsSinkSide (nodes : ℕ) (ls : List (Arc × ℕ)) (cut : Cut) : Type 0 where
  pub len : length cut.sink_side.items ≡ nodes
  pub exact : (v : ℕ) → (sink_side_of cut v ≡ true) ↔ ((n : ℕ) × ReachesSink ls n v)

-- the fewest residual arcs from each of them to the sink
pub record AreRanks (nodes : ℕ) (ls : List (Arc × ℕ)) (cut : Cut) : Type 0 where
  pub len : length cut.rank.items ≡ nodes
  pub walk : (v : ℕ) → sink_side_of cut v ≡ true → ReachesSink ls (rank_of cut v) v
  pub fewest : (n v : ℕ) → ReachesSink ls n v → rank_of cut v ≤ n
  pub others : (v : ℕ) → sink_side_of cut v ≡ false → rank_of cut v ≡ 0
