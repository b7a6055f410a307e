-- The part of a network that is needed.
use Rattle.std.specs.Prelude.{◌≡◌, ◌<◌, ℕ, zero, suc, ◌&&◌, not, Bool, true, false, List, Option, Some, None, filter, length, is_some, slice_get, slice_index_or}
use Rattle.std.specs.List.{AllZip, range_with_len}
use Rattle.std.specs.Option.{option_map_or}
use Rattle.flow_net.specs.declared.Arc.{Arc}
use Rattle.flow_net.specs.declared.Net.{Net}
use Rattle.local_sets.specs.declared.flags.Reach.{Reach}
use Rattle.reduction.specs.declared.reducing.Reduced.{Reduced}

abbrev pub is_flagged : List Bool → ℕ → Bool
is_flagged flags i = slice_index_or flags i false

-- the source and the sink are needed, and what is wanted and not available
abbrev pub is_needed : Reach → ℕ → Bool
is_needed r zero = true
is_needed r (suc zero) = true
is_needed r (suc (suc v)) = is_flagged r.wanted.items v && not (is_flagged r.available.items v)

-- an arc between nodes that are needed
abbrev pub joins_needed : Reach → Arc → Bool
joins_needed r a = is_needed r a.from && is_needed r a.to

-- the arc of this number is one of them
abbrev pub is_needed_arc : Reach → List Arc → ℕ → Bool
is_needed_arc r arcs k = option_map_or (joins_needed r) (slice_get arcs k) false

-- the arc of the part is this one of the whole, whose nodes are named so
pub record Stands (whole : List Arc) (node_of : List ℕ) (number : ℕ) (a : Arc) : Type 0 where
  pub arc : Arc
  pub there : slice_get whole number ≡ Some arc
  pub from : slice_get node_of a.from ≡ Some arc.from
  pub to : slice_get node_of a.to ≡ Some arc.to
  pub cap : a.cap ≡ arc.cap

-- the nodes that are needed and the arcs between them, in the order of the whole
pub record IsReduced (whole : Net) (r : Reach) (reduced : Reduced) : Type 0 where
  pub nodes : reduced.net.nodes ≡ length reduced.node_of.items
  pub node_of : reduced.node_of.items ≡ filter (is_needed r) (range_with_len 0 whole.nodes)
  pub arc_of : reduced.arc_of.items ≡ filter (is_needed_arc r whole.arcs.items) (range_with_len 0 (length whole.arcs.items))
  pub arcs : AllZip (Stands whole.arcs.items reduced.node_of.items) reduced.arc_of.items reduced.net.arcs.items

-- ---- how the numbers are made

-- for each of n nodes its number among the kept ones, if it is kept
pub record AreNumbers (r : Reach) (n : ℕ) (kept : List ℕ) (numbers : List (Option ℕ)) : Type 0 where
  pub kept_are : kept ≡ filter (is_needed r) (range_with_len 0 n)
  pub len : length numbers ≡ n
  pub needed : (v : ℕ) → v < n → is_some (slice_index_or numbers v None) ≡ is_needed r v
  pub named : (v k : ℕ) → slice_index_or numbers v None ≡ Some k → slice_get kept k ≡ Some v

abbrev pub with_ends : Option ℕ → Option ℕ → ℕ → Option Arc
with_ends (Some u) (Some v) cap = Some (record { from = u; to = v; cap = cap })
with_ends (Some u) None cap = None
with_ends None _ cap = None

-- the arc by the numbers of its ends
abbrev pub renumbered : List (Option ℕ) → Arc → Option Arc
renumbered numbers a = with_ends (slice_index_or numbers a.from None) (slice_index_or numbers a.to None) a.cap

-- the arc of this number has both
abbrev pub is_renumbered : List (Option ℕ) → List Arc → ℕ → Bool
is_renumbered numbers arcs k = option_map_or (λ a. is_some (renumbered numbers a)) (slice_get arcs k) false
