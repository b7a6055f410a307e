-- What the search knows.
use Rattle.std.specs.Prelude.{◌≡◌, ◌<◌, ◌≤◌, ◌+◌, ℕ, Option, None, Some, List, ◌++◌, Contains, length, slice_index_or}
use Rattle.flow_paths.specs.Paths.{source, target, ArcsWithin}
use Rattle.live_search.specs.Leading.{Graph, LeadsTo}

-- arc e is among the first n, and leads from u to v
pub record IsArc (arcs : List (ℕ × ℕ)) (n e u v : ℕ) : Type 0 where
  pub inside : e < n
  pub leaves : source arcs e ≡ u
  pub ends : target arcs e ≡ v

-- the number of arcs up to this one
abbrev pub past : Option ℕ → ℕ
past None = 0
past (Some e) = e + 1

-- of the first n arcs this is the last one that ends at v, or none does
pub record IsLast (arcs : List (ℕ × ℕ)) (n v : ℕ) (last : Option ℕ) : Type 0 where
  pub inside : past last ≤ n
  pub ends : (e : ℕ) → last ≡ Some e → target arcs e ≡ v
  pub behind : (e : ℕ) → past last ≤ e → e < n → target arcs e ≡ v → ⊥

-- for each point the last of the first n arcs that ends there, and for each of these the one before it
pub record AreLinked (arcs : List (ℕ × ℕ)) (n : ℕ) (last before : List (Option ℕ)) : Type 0 where
  pub count : length before ≡ n
  pub points : (v : ℕ) → v < length last → IsLast arcs n v (slice_index_or last v None)
  pub arcs_before : (e : ℕ) → e < n → IsLast arcs e (target arcs e) (slice_index_or before e None)

-- all arcs, which join points of the graph
pub record IsWhole (arcs : List (ℕ × ℕ)) (last before : List (Option ℕ)) : Type 0 where
  pub within : ArcsWithin arcs (length last)
  pub linked : AreLinked arcs (length arcs) last before

-- an arc from the number n on leads from u to v, and neither u nor the arc is barred
pub record IsOpen (all : List (ℕ × ℕ)) (n v : ℕ) (points arcs : List ℕ) (u : ℕ) : Type 0 where
  pub arc : ℕ
  pub late : n ≤ arc
  pub is : IsArc all (length all) arc u v
  pub arc_free : ¬ Contains arcs arc
  pub point_free : ¬ Contains points u

-- exactly the points that open arcs to v leave, from the arc n on, are added behind the others
pub record AddsOpen (all : List (ℕ × ℕ)) (n v : ℕ) (points arcs old new : List ℕ) : Type 0 where
  pub more : List ℕ
  pub behind : new ≡ old ++ more
  pub only : (u : ℕ) → Contains more u → IsOpen all n v points arcs u
  pub all_added : (u : ℕ) → IsOpen all n v points arcs u → Contains new u

-- the goals are found, what is found leads to one, and the first n of the found points are followed
pub record IsSearch (g : Graph) (points arcs goals found : List ℕ) (n : ℕ) : Type 0 where
  pub within : n ≤ length found
  pub goals_found : (v : ℕ) → Contains goals v → Contains found v
  pub sound : (v : ℕ) → Contains found v → LeadsTo g points arcs goals v
  pub below : (v : ℕ) → Contains found v → v < g.points
  pub followed : (k e u : ℕ) → k < n → IsArc g.arcs (length g.arcs) e u (slice_index_or found k 0) → ¬ Contains arcs e → ¬ Contains points u → Contains found u
