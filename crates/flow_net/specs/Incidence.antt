use Rattle.std.specs.Prelude.{◌≡◌, ◌≢◌, ℕ, ◌<◌, List, [], ◌∷◌, ◌++◌, length, slice_get, slice_index_or, All, Contains, Vec}
use Rattle.std.specs.Option.{option_map_or}
use Rattle.std.specs.declared.alloc.Global.{Global}
use Rattle.flow_net.specs.declared.Arc.{Arc}
use Rattle.flow_net.specs.declared.Net.{Net}
use Rattle.flow_net.specs.declared.incidence.Incidence.{Incidence}

-- the list of a node
abbrev pub arcs_in : List (Vec ℕ Global) → ℕ → List ℕ
arcs_in lists v = option_map_or (λ list. list.items) (slice_get lists v) []

-- each list names arcs of the network alone, and each of its first arcs stands in the lists of both its ends
pub record HoldFirst (nodes : ℕ) (arcs : List Arc) (bound : ℕ) (lists : List (Vec ℕ Global)) : Type 0 where
  pub len : length lists ≡ nodes
  pub inside : (v : ℕ) → All (λ e. e < length arcs) (arcs_in lists v)
  pub ends : (e : ℕ) (a : Arc) → e < bound → Contains (arcs_in lists (slice_index_or arcs e a).from) e × Contains (arcs_in lists (slice_index_or arcs e a).to) e

-- the lists name arcs of the network alone, and each arc stands in the lists of both its ends
abbrev pub IsIncidenceOf : Net → Incidence → Type 0
IsIncidenceOf net incidence = HoldFirst net.nodes net.arcs.items (length net.arcs.items) incidence.arcs_at.items

-- one list has one more arc
pub record AddsArc (node index : ℕ) (old new : Incidence) : Type 0 where
  pub len : length new.arcs_at.items ≡ length old.arcs_at.items
  pub added : arcs_in new.arcs_at.items node ≡ arcs_in old.arcs_at.items node ++ index ∷ []
  pub others : (v : ℕ) → v ≢ node → arcs_in new.arcs_at.items v ≡ arcs_in old.arcs_at.items v
