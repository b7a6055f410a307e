-- A part of a network that has its least sides: what is left out is either as good as the sink's side, or leads nowhere.
use Rattle.std.specs.Prelude.{◌≡◌, ℕ, ◌==◌, ◌&&◌, ◌||◌, ◌⊎◌, Bool, true, false, List, All}
use Rattle.flow_net.specs.declared.Arc.{Arc}
use Rattle.flow_net.specs.Network.{IsSide, capacity_where, enters}

-- the nodes of the part, and nodes left out that may be put on the sink's side (those where the value is available)
pub record IsSplit (part free : ℕ → Bool) : Type 0 where
  pub source : (part 0 ≡ false) × (free 0 ≡ false)
  pub sink : (part 1 ≡ false) × (free 1 ≡ false)
  pub apart : (v : ℕ) → part v ≡ true → free v ≡ false

-- an arc to a free node comes from a free node, and an arc to the sink or the part comes from the source, the part or a free node
pub record Splits (part free : ℕ → Bool) (a : Arc) : Type 0 where
  pub back : free a.to ≡ true → free a.from ≡ true
  pub wants : (a.to ≡ 1) ⊎ (part a.to ≡ true) → (a.from ≡ 0) ⊎ ((part a.from ≡ true) ⊎ (free a.from ≡ true))
  pub leaves : a.from ≡ 1 → ⊥

-- an arc of the part, of the source and of the sink
abbrev pub is_part : (ℕ → Bool) → Arc → Bool
is_part part a = ((a.from == 0) || part a.from) && ((a.to == 1) || part a.to)

-- a side of the part with the free nodes
abbrev pub widened : (ℕ → Bool) → (ℕ → Bool) → (ℕ → Bool) → ℕ → Bool
widened part free side v = free v || ((v == 1) || (part v && side v))

-- each side of the part is widened to a side of the whole that lets in as much
abbrev pub PartSidesWiden : Type 0
PartSidesWiden = (part free side : ℕ → Bool) (arcs : List Arc) → IsSplit part free → All (Splits part free) arcs → IsSide side →
    IsSide (widened part free side) × (capacity_where (enters (widened part free side)) arcs ≡ capacity_where (λ a. is_part part a && enters side a) arcs)
