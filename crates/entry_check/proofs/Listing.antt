-- The numbers of an ascending list, and the edges that lead to inevitable points.
use Rattle.std.proofs.Common.{◌≡◌, ◌<◌, ◌≤◌, ◌↔◌, ℕ, Bool, List, length, get_or, ap, ◌∙◌, subst, ⊎_elim, arith, Contains}
use Rattle.std.specs.List.Sorted.{IsStrictlyIncreasing}
use Rattle.std.proofs.lemmas.Bool.{cases_eq}
use Rattle.std.proofs.lemmas.List.{get_or_default}
use Rattle.std.proofs.lemmas.List.Elements.{All-contains}
use Rattle.std.proofs.lemmas.List.Kept.{AllPairs-from_increasing}
use Rattle.ir_types.specs.declared.syntax.Function.{Function}
use Rattle.point_graph.specs.Numbers.{ArePoints}
use Rattle.point_graph.specs.declared.graph.Points.{Points}
use Rattle.expressions.specs.Kept.{Kept}
use Rattle.expressions.specs.Tables.{IsEventOf}
use Rattle.flow_paths.specs.Paths.{target}
use Rattle.flow_paths.specs.Spreads.{IsSet}
use Rattle.placement.specs.declared.placements.Placement.{Placement}
use Rattle.placement.specs.Placements.{arcs_of, IsInevitable, IsSafe}
use Rattle.placement.proofs.GraphLemmas.{arcs_within}
use Rattle.best_choice.specs.Best.{IsPlacementOn}
use Rattle.entry_check.specs.Faults.{IsFirstUnsafe}
use Rattle.entry_check.specs.Parts.{IsFirstUnset}

not_later : (xs : List ℕ) → IsStrictlyIncreasing xs → (i k : ℕ) → k < length xs → get_or xs k 0 < get_or xs i 0 → i ≤ k → ⊥
not_later xs up i k inside less later =
    ⊎_elim
    (λ (same : i ≡ k). let e : get_or xs i 0 ≡ get_or xs k 0 = ap (λ n. get_or xs n 0) same in omega arith)
    (λ (other : i ≡ k → ⊥). let lt : i < k = omega arith in let h = AllPairs-from_increasing xs up i k 0 lt inside in omega arith)
    (cases_eq i k)

-- what holds at each place before place i holds of each number below the one there
pub below_first : (P : ℕ → Type 0) (xs : List ℕ) → IsStrictlyIncreasing xs → (i : ℕ) → ((k : ℕ) → k < i → P (get_or xs k 0)) → (d : ℕ) → Contains xs d → d < get_or xs i 0 → P d
below_first P xs up i held d there less =
    let k : ℕ = there.0 in
    let inside : k < length xs = there.1 in
    let read : get_or xs k 0 ≡ d = get_or_default xs k 0 d inside ∙ there.2 in
    let under : get_or xs k 0 < get_or xs i 0 = omega arith in
    let late = not_later xs up i k inside under in
    subst P read (held k (omega arith))

module _ (f : Function) (p : Points) (t : Kept) (x : ℕ) (placement : Placement) (points : ArePoints f p) (listed : IsPlacementOn (arcs_of p.edges) (length p.points) (IsEventOf f p t x) placement)
    (bits : List Bool) (told : (v : ℕ) → v < length p.points → IsSet bits v ↔ IsInevitable (arcs_of p.edges) (IsEventOf f p t x) v) where
  end_inside : (e : ℕ) → Contains placement.inserted e → target (arcs_of p.edges) e < length p.points
  end_inside e there = (arcs_within f p points e (All-contains (λ d. d < length (arcs_of p.edges)) placement.inserted e listed.edges there)).1

  pub safe_from : ((e : ℕ) → Contains placement.inserted e → IsSet bits (target (arcs_of p.edges) e)) → IsSafe (arcs_of p.edges) (IsEventOf f p t x) placement
  safe_from set e there = (told (target (arcs_of p.edges) e) (end_inside e there)).0 (set e there)

  pub unsafe_from : (e : ℕ) → IsFirstUnset (arcs_of p.edges) bits placement.inserted e → IsFirstUnsafe f p t x placement e
  unsafe_from e h = record {
    inserted = h.listed;
    unsafe = λ is. h.unset ((told (target (arcs_of p.edges) e) (end_inside e h.listed)).1 is);
    first = λ d there less. (told (target (arcs_of p.edges) d) (end_inside d there)).0 (h.first d there less);
  }
