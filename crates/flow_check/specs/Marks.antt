-- The marks of a check: the nodes whose ranks fall.
use Rattle.std.specs.Prelude.{◌≡◌, ℕ, ◌<◌, Bool, false, IsTrue, List, ◌⊎◌, slice_index_or}
use Rattle.flow_net.specs.declared.Arc.{Arc}
use Rattle.flow_net.specs.Network.{LetsMore}

-- the rank of a node
abbrev pub rank_at : List ℕ → ℕ → ℕ
rank_at ranks v = slice_index_or ranks v 0

-- the node is marked
abbrev pub IsMarked : List Bool → ℕ → Type 0
IsMarked marks v = IsTrue (slice_index_or marks v false)

-- w is the sink, or its rank is above 0 and below that of v
abbrev pub IsLower : List ℕ → ℕ → ℕ → Type 0
IsLower ranks w v = (w ≡ 1) ⊎ ((0 < rank_at ranks w) × (rank_at ranks w < rank_at ranks v))

-- one of the first k arcs lets more go from v to the sink, or to a node of a lower rank above 0
pub record FallsBefore (ls : List (Arc × ℕ)) (ranks : List ℕ) (k : ℕ) (v : ℕ) : Type 0 where
  pub place : ℕ
  pub load : Arc × ℕ
  pub to : ℕ
  pub before : place < k
  pub there : slice_index_or ls place load ≡ load
  pub lets_more : LetsMore v to load
  pub lower : IsLower ranks to v

-- the first node of a rank above 0 that isn't marked
pub record IsFirstUnmarked (ranks : List ℕ) (marks : List Bool) (v : ℕ) : Type 0 where
  pub ranked : 0 < rank_at ranks v
  pub unmarked : ¬ (IsMarked marks v)
  pub first : (w : ℕ) → w < v → 0 < rank_at ranks w → IsMarked marks w
