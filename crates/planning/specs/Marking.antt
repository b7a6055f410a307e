-- What a placement says of points and edges.
use Rattle.std.specs.Prelude.{◌≡◌, ◌<◌, ◌↔◌, ℕ, Bool, true, false, not, nat_eq, List, Contains, filter, length, slice_index_or}
use Rattle.std.specs.List.{list_any}
use Rattle.point_graph.specs.declared.graph.Points.{Points}
use Rattle.live_search.specs.Leading.{Graph, LeadsTo}
use Rattle.placement.specs.declared.placements.Placement.{Placement}
use Rattle.placement.specs.Placements.{arcs_of}
use Rattle.planning.specs.declared.marks.Marks.{Marks}

-- exactly the listed ones of n bits are set
pub record AreBits (n : ℕ) (numbers : List ℕ) (bits : List Bool) : Type 0 where
  pub len : length bits ≡ n
  pub bits_are : (k : ℕ) → k < n → (slice_index_or bits k false ≡ true) ↔ Contains numbers k

-- whether the number is listed
abbrev pub has : List ℕ → ℕ → Bool
has numbers n = list_any (nat_eq n) numbers

abbrev pub is_missing : List ℕ → ℕ → Bool
is_missing numbers n = not (has numbers n)

-- a set has exactly the listed numbers
pub record IsSetOf (numbers set : List ℕ) : Type 0 where
  pub members : (n : ℕ) → (has set n ≡ true) ↔ Contains numbers n

-- the graph has the points and the edges of the function
pub record IsGraphOf (p : Points) (g : Graph) : Type 0 where
  pub points : g.points ≡ length p.points
  pub arcs : g.arcs ≡ arcs_of p.edges

-- what a placement with these occurrences says of points and edges
pub record AreMarks (g : Graph) (placement : Placement) (places : List ℕ) (marks : Marks) : Type 0 where
  pub kept_are : IsSetOf placement.kept marks.kept.keys
  pub inserted_are : IsSetOf placement.inserted marks.inserted.keys
  pub written : List ℕ
  pub written_are : IsSetOf (filter (has marks.kept.keys) places) written
  pub live_are : (v : ℕ) → Contains marks.live.keys v ↔ LeadsTo g written marks.inserted.keys (filter (is_missing marks.kept.keys) places) v
