-- How the search along passing arcs goes on.
use Rattle.std.specs.Prelude.{◌≡◌, ◌<◌, ◌+◌, ◌↔◌, ◌⊎◌, ℕ, Bool, not, List, [], Contains, length, count_by, slice_index_or}
use Rattle.flow_paths.specs.declared.spreading.Search.{Search}
use Rattle.flow_paths.specs.Paths.{source, target}
use Rattle.flow_paths.specs.Spreads.{IsSet, SpreadsTo}

-- one of the first n arcs leads from u to v and passes
pub record Leads (arcs : List (ℕ × ℕ)) (passes : List Bool) (n u v : ℕ) : Type 0 where
  pub arc : ℕ
  pub is_arc : arc < n
  pub passes_on : IsSet passes arc
  pub leaves : source arcs arc ≡ u
  pub ends : target arcs arc ≡ v

-- for each point the ends of the passing ones of the first n arcs from it
pub record AreEnds (arcs : List (ℕ × ℕ)) (passes : List Bool) (points n : ℕ) (lists : List (List ℕ)) : Type 0 where
  pub len : length lists ≡ points
  pub ends : (u v : ℕ) → u < points → Contains (slice_index_or lists u []) v ↔ Leads arcs passes n u v

-- those of the first n points whose bits are set
pub record AreSet (bits : List Bool) (n : ℕ) (points : List ℕ) : Type 0 where
  pub are : (v : ℕ) → Contains points v ↔ ((v < n) × IsSet bits v)

abbrev pub IsMarked : Search → ℕ → Type 0
IsMarked s v = IsSet s.bits.items v

-- how many points are not visited yet, marked or not
abbrev pub work : Search → ℕ
work s = count_by not s.bits.items + length s.pending.items

-- these points are marked now, and those that weren't before are to be visited
pub record Reaches (points : List ℕ) (old new : Search) : Type 0 where
  pub len : length new.bits.items ≡ length old.bits.items
  pub kept : (v : ℕ) → IsMarked old v → IsMarked new v
  pub marked : (v : ℕ) → Contains points v → IsMarked new v
  pub fresh : (v : ℕ) → IsMarked new v → IsMarked old v ⊎ (Contains points v × Contains new.pending.items v)
  pub waiting : (v : ℕ) → Contains old.pending.items v → Contains new.pending.items v
  pub added : (v : ℕ) → Contains new.pending.items v → Contains old.pending.items v ⊎ IsMarked new v
  pub work : work new ≡ work old

-- what passing arcs from u lead to is marked
abbrev pub IsFollowed : List (ℕ × ℕ) → List Bool → Search → ℕ → Type 0
IsFollowed arcs passes s u = (v : ℕ) → Leads arcs passes (length arcs) u v → IsMarked s v

-- the seeds are marked, only what they spread to is, and each marked point is followed or to be visited
pub record Searching (arcs : List (ℕ × ℕ)) (passes seeds : List Bool) (s : Search) : Type 0 where
  pub len : length s.bits.items ≡ length seeds
  pub seeded : (v : ℕ) → IsSet seeds v → IsMarked s v
  pub sound : (v : ℕ) → IsMarked s v → SpreadsTo arcs passes seeds v
  pub waiting : (v : ℕ) → Contains s.pending.items v → IsMarked s v
  pub closed : (v : ℕ) → IsMarked s v → Contains s.pending.items v ⊎ IsFollowed arcs passes s v
