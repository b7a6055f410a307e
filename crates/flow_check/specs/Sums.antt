-- The sums of a check: what entered each node less what left it.
use Rattle.std.specs.Prelude.{◌≡◌, ◌≢◌, ℕ, ◌^◌, ◌≤◌, ◌<◌, ℤ, pos, neg_ℤ, ◌-ℤ◌, ◌≤ℤ◌, List, length, slice_index_or}
use Rattle.flow_net.specs.declared.Arc.{Arc}
use Rattle.flow_net.specs.Network.{inflow, outflow}

-- the sum at the place of a node
abbrev pub sum_at : List ℤ → ℕ → ℤ
sum_at sums v = slice_index_or sums v (pos 0)

-- the sum of each node, of these loads
abbrev pub AreSums : List (Arc × ℕ) → List ℤ → Type 0
AreSums ls sums = (v : ℕ) → v < length sums → sum_at sums v ≡ pos (inflow ls v) -ℤ pos (outflow ls v)

-- an amount below 2^120 can be added to each sum, and taken from it
abbrev pub IsRoomy : List ℤ → Type 0
IsRoomy sums = (v : ℕ) → v < length sums → (neg_ℤ (pos (2 ^ 120)) ≤ℤ sum_at sums v) × (sum_at sums v ≤ℤ pos (2 ^ 120))

-- the first of so many nodes, but the source and the sink, whose sum isn't 0
pub record IsFirstNonzero (nodes : ℕ) (sums : List ℤ) (v : ℕ) : Type 0 where
  pub inner : 2 ≤ v
  pub node : v < nodes
  pub nonzero : sum_at sums v ≢ pos 0
  pub first : (w : ℕ) → 2 ≤ w → w < v → sum_at sums w ≡ pos 0
