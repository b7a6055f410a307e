-- Points from which something occurs on every way.
use Rattle.std.specs.Prelude.{◌≡◌, ◌≢◌, ◌<◌, ◌⊎◌, ℕ, zero, suc, List, length}
use Rattle.flow_paths.specs.Paths.{source, target}

-- an arc leaves v, and all arcs from v lead to points with P
pub record LeadsAllTo (arcs : List (ℕ × ℕ)) (P : ℕ → Type 0) (v : ℕ) : Type 0 where
  pub arc : ℕ
  pub is_arc : arc < length arcs
  pub leaves : source arcs arc ≡ v
  pub all : (e : ℕ) → e < length arcs → source arcs e ≡ v → P (target arcs e)

-- v is not point 0, and on each way from it something occurs within k arcs, with no stop before it
abbrev pub IsInevitableWithin : List (ℕ × ℕ) → (ℕ → Type 0) → (ℕ → Type 0) → ℕ → ℕ → Type 0
IsInevitableWithin arcs Occurs Stops zero v = (v ≢ 0) × Occurs v
IsInevitableWithin arcs Occurs Stops (suc k) v =
    (v ≢ 0) × (Occurs v ⊎ (¬ (Stops v) × LeadsAllTo arcs (λ w. IsInevitableWithin arcs Occurs Stops k w) v))

abbrev pub IsInevitable : List (ℕ × ℕ) → (ℕ → Type 0) → (ℕ → Type 0) → ℕ → Type 0
IsInevitable arcs Occurs Stops v = (k : ℕ) × IsInevitableWithin arcs Occurs Stops k v
