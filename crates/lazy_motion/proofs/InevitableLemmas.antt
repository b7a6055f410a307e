-- What stands before an inevitable point.
use Rattle.std.proofs.Common.{◌≡◌, ◌≢◌, ℕ, zero, suc, List, ◌⊎◌, inl, inr, ⊎_elim}
use Rattle.expressions.specs.declared.syntax.Event.{Event}
use Rattle.expressions.specs.declared.syntax.Event.TheVariants.{Occurs, Kills, Bars}
use Rattle.flow_paths.specs.Paths.{target}
use Rattle.flow_paths.specs.Inevitable.{LeadsAllTo, IsInevitableWithin}
use Rattle.placement.specs.Placements.{IsInevitable}
use Rattle.best_placement.specs.Blocks.{HasEvent}

-- v is inevitable within k arcs, where `event` tells what each point is
abbrev pub IsInevitableIn : List (ℕ × ℕ) → (ℕ → Event) → ℕ → ℕ → Type 0
IsInevitableIn arcs event k v = IsInevitableWithin arcs (λ w. event w ≡ Occurs) (λ w. (event w ≡ Kills) ⊎ (event w ≡ Bars)) k v

-- v occurs, or neither kills nor bars and leads to points with P alone
abbrev pub OccursAhead : List (ℕ × ℕ) → (ℕ → Event) → (ℕ → Type 0) → ℕ → Type 0
OccursAhead arcs event P v = (event v ≡ Occurs) ⊎ ((event v ≢ Kills) × (event v ≢ Bars) × LeadsAllTo arcs P v)

module _ (arcs : List (ℕ × ℕ)) (event : ℕ → Event) where
  ahead_map : (P Q : ℕ → Type 0) → ((w : ℕ) → P w → Q w) → (v : ℕ) → (event v ≡ Occurs) ⊎ (¬ ((event v ≡ Kills) ⊎ (event v ≡ Bars)) × LeadsAllTo arcs P v) → OccursAhead arcs event Q v
  ahead_map P Q f v ahead =
      ⊎_elim
      (λ (o : event v ≡ Occurs). inl o)
      (λ (p : ¬ ((event v ≡ Kills) ⊎ (event v ≡ Bars)) × LeadsAllTo arcs P v). inr (
        (λ k. p.0 (inl k)),
        (λ b. p.0 (inr b)),
        record { arc = p.1.arc; is_arc = p.1.is_arc; leaves = p.1.leaves; all = λ e h s. f (target arcs e) (p.1.all e h s) },
      ))
      ahead

  pub ahead_within : (k v : ℕ) → IsInevitableIn arcs event (suc k) v → (v ≢ 0) × OccursAhead arcs event (IsInevitableIn arcs event k) v
  ahead_within k v h = (h.0, ahead_map (IsInevitableIn arcs event k) (IsInevitableIn arcs event k) (λ w i. i) v h.1)

  -- an inevitable point that does not occur neither kills nor bars, and leads to inevitable points alone
  pub inevitable_ahead : (v : ℕ) → IsInevitable arcs (HasEvent event) v → (v ≢ 0) × OccursAhead arcs event (λ w. IsInevitable arcs (HasEvent event) w) v
  inevitable_ahead v (k, h) = by k h
    where
      by : (k : ℕ) → IsInevitableIn arcs event k v → (v ≢ 0) × OccursAhead arcs event (λ w. IsInevitable arcs (HasEvent event) w) v
      by zero h = (h.0, inl h.1)
      by (suc k) h = (h.0, ahead_map (IsInevitableIn arcs event k) (λ w. IsInevitable arcs (HasEvent event) w) (λ w i. (k, i)) v h.1)
