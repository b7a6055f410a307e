-- What is inevitable by the events of the points is inevitable by the table.
use Rattle.std.proofs.Common.{◌≡◌, ◌<◌, ◌↔◌, ◌⊎◌, ℕ, List, subst, inl, inr, ⊎_elim}
use Rattle.expressions.specs.declared.syntax.Event.{Event}
use Rattle.expressions.specs.declared.syntax.Event.TheVariants.{Occurs, Kills, Bars}
use Rattle.flow_paths.specs.Paths.{ArcsWithin}
use Rattle.placement.specs.Placements.{IsInevitable}
use Rattle.placement.specs.Marking.{AreEvents}
use Rattle.local_sets.specs.Counting.{event_at, EventAt}
use Rattle.local_sets.proofs.InevitableLemmas.{inevitable_words}

module _ (arcs : List (ℕ × ℕ)) (n : ℕ) (Is : ℕ → Event → Type 0) (events : List Event) (within : ArcsWithin arcs n) (told : AreEvents Is n events) (one : (v : ℕ) (a b : Event) → Is v a → Is v b → a ≡ b) where
  is_told : (w : ℕ) (k : Event) → w < n → EventAt events w k → Is w k
  is_told w k h e = subst (Is w) e (told.are w h)

  told_is : (w : ℕ) (k : Event) → w < n → Is w k → EventAt events w k
  told_is w k h i = one w (event_at events w) k (told.are w h) i

  pub inevitable_told : (v : ℕ) → v < n → IsInevitable arcs (EventAt events) v ↔ IsInevitable arcs Is v
  inevitable_told v h = (
    λ i. (
      i.0,
      inevitable_words arcs n (λ w. EventAt events w Occurs) (λ w. EventAt events w Kills ⊎ EventAt events w Bars) (λ w. Is w Occurs) (λ w. Is w Kills ⊎ Is w Bars) within
          (λ w l o. is_told w Occurs l o)
          (λ w l s. ⊎_elim (λ (k : Is w Kills). inl (told_is w Kills l k)) (λ (b : Is w Bars). inr (told_is w Bars l b)) s)
          i.0 v h i.1,
    ),
    λ i. (
      i.0,
      inevitable_words arcs n (λ w. Is w Occurs) (λ w. Is w Kills ⊎ Is w Bars) (λ w. EventAt events w Occurs) (λ w. EventAt events w Kills ⊎ EventAt events w Bars) within
          (λ w l o. told_is w Occurs l o)
          (λ w l s. ⊎_elim (λ (k : EventAt events w Kills). inl (is_told w Kills l k)) (λ (b : EventAt events w Bars). inr (is_told w Bars l b)) s)
          i.0 v h i.1,
    ),
  )
