-- Paths of a graph, which is the list of its arcs, and what a path meets.
use Rattle.std.specs.Prelude.{◌≡◌, ◌<◌, ◌⊎◌, ℕ, List, [], ◌∷◌, ◌++◌, All, length, map, slice_index_or}

-- where an arc begins and where it ends
abbrev pub source : List (ℕ × ℕ) → ℕ → ℕ
source arcs e = (slice_index_or arcs e (0, 0)).0

abbrev pub target : List (ℕ × ℕ) → ℕ → ℕ
target arcs e = (slice_index_or arcs e (0, 0)).1

-- each arc joins two of the first n points
abbrev pub ArcsWithin : List (ℕ × ℕ) → ℕ → Type 0
ArcsWithin arcs n = (e : ℕ) → e < length arcs → (source arcs e < n) × (target arcs e < n)

-- the path leads from u to v: each arc begins where the one before ends
abbrev pub IsPath : List (ℕ × ℕ) → ℕ → List ℕ → ℕ → Type 0
IsPath arcs u [] v = u ≡ v
IsPath arcs u (e ∷ path) v = (e < length arcs) × (source arcs e ≡ u) × IsPath arcs (target arcs e) path v

-- some path leads from u to v
pub record Connects (arcs : List (ℕ × ℕ)) (u v : ℕ) : Type 0 where
  pub path : List ℕ
  pub leads : IsPath arcs u path v

-- ---- what a path meets

pub data Place : Type 0 where
  at_point : ℕ → Place
  on_edge : ℕ → Place

-- the points and the edges of a path in order, its last point not counted
abbrev pub met : List (ℕ × ℕ) → List ℕ → List Place
met arcs [] = []
met arcs (e ∷ path) = at_point (source arcs e) ∷ on_edge e ∷ met arcs path

-- some write has no kill after it
pub record IsValid (Writes Kills : Place → Type 0) (places : List Place) : Type 0 where
  pub before : List Place
  pub write : Place
  pub after : List Place
  pub split : places ≡ before ++ write ∷ after
  pub writes : Writes write
  pub unkilled : All (λ m. ¬ Kills m) after

-- ---- the same in other words

-- some place has P
pub record Meets (P : Place → Type 0) (places : List Place) : Type 0 where
  pub before : List Place
  pub found : Place
  pub after : List Place
  pub split : places ≡ before ++ found ∷ after
  pub holds : P found

-- a write comes after the last kill
pub record WritesAfterKill (Writes Kills : Place → Type 0) (places : List Place) : Type 0 where
  pub before : List Place
  pub kill : Place
  pub after : List Place
  pub split : places ≡ before ++ kill ∷ after
  pub kills : Kills kill
  pub unkilled : All (λ m. ¬ Kills m) after
  pub write : Meets Writes after

-- a write comes after the last kill, or there is a write and no kill
abbrev pub WritesLast : (Place → Type 0) → (Place → Type 0) → List Place → Type 0
WritesLast Writes Kills places = WritesAfterKill Writes Kills places ⊎ (All (λ m. ¬ Kills m) places × Meets Writes places)

-- ---- the arcs against their direction

abbrev pub flipped_arcs : List (ℕ × ℕ) → List (ℕ × ℕ)
flipped_arcs arcs = map (λ a. (a.1, a.0)) arcs
