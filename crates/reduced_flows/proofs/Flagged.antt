-- What the flags of the ends of blocks tell of the nodes of a block network.
use Rattle.std.proofs.Common.{◌≡◌, ◌<◌, ◌≤◌, ◌+◌, ◌*◌, ◌&&◌, ◌↔◌, not, ℕ, suc, zero, Bool, true, false, List, [], ◌∷◌, length, map, get_or, refl, sym, ap, ◌∙◌, subst, ⊎_elim, arith}
use Rattle.std.specs.Prelude.{slice_get}
use Rattle.std.specs.List.{AllByRecursion, AllZip}
use Rattle.std.proofs.lemmas.Bool.{cases_lt}
use Rattle.ir_types.specs.declared.syntax.Function.{Function}
use Rattle.point_graph.specs.declared.graph.Points.{Points}
use Rattle.expressions.specs.declared.syntax.Event.{Event}
use Rattle.expressions.specs.declared.syntax.Event.TheVariants.{Occurs, Kills, Passes}
use Rattle.expressions.specs.Kept.{Kept}
use Rattle.expressions.specs.Tables.{IsEventOf}
use Rattle.profile.specs.declared.counts.FnCounts.{FnCounts}
use Rattle.placement.proofs.EventLemmas.{one_event, event_inside}
use Rattle.local_sets.specs.declared.flags.Reach.{Reach}
use Rattle.local_sets.specs.Reaching.{ends_of, Tells}
use Rattle.best_placement.specs.Blocks as graphs
use Rattle.best_placement.specs.Shapes.{blocks_from, next_point, next_edge}
use Rattle.best_placement.specs.Reduction.{IsSplit}
use Rattle.function_graphs.specs.Graphs.{AreEventsOf}
use Rattle.function_graphs.proofs.Lying.{LieFrom, shape}
use Rattle.reduction.specs.Reduced.{is_flagged, is_needed}
use Rattle.reduced_flows.proofs.Along.{AreEvents}

-- ---- the sets of nodes

-- wanted and not available
abbrev pub part : Reach → ℕ → Bool
part r zero = false
part r (suc zero) = false
part r (suc (suc v)) = is_flagged r.wanted.items v && not (is_flagged r.available.items v)

-- available
abbrev pub free : Reach → ℕ → Bool
free r zero = false
free r (suc zero) = false
free r (suc (suc v)) = is_flagged r.available.items v

part_apart : (wanted available : Bool) → (wanted && not available) ≡ true → available ≡ false
part_apart wanted false h = refl
part_apart true true h = absurd cc
part_apart false true h = absurd cc

apart : (r : Reach) (v : ℕ) → part r v ≡ true → free r v ≡ false
apart r zero h = refl
apart r (suc zero) h = refl
apart r (suc (suc v)) h = part_apart (is_flagged r.wanted.items v) (is_flagged r.available.items v) h

pub splits : (r : Reach) → IsSplit (part r) (free r)
splits r = record { source = (refl, refl); sink = (refl, refl); apart = apart r }

pub needed_part : (r : Reach) (v : ℕ) → 2 ≤ v → is_needed r v ≡ part r v
needed_part r zero h = absurd (omega (arith, h))
needed_part r (suc zero) h = absurd (omega (arith, h))
needed_part r (suc (suc v)) h = refl

-- ---- what an event is

module _ (f : Function) (p : Points) (t : Kept) (e : ℕ) (event : ℕ → Event) (told : AreEventsOf f p t e event) where
  event_is : (v : ℕ) (k : Event) → (k ≡ Passes → ⊥) → IsEventOf f p t e v k ↔ (event v ≡ k)
  event_is v k other = (
    (λ is. one_event f p t e v (event v) k (told.at_points v (event_inside f p t e v k is)) is),
    (λ same. ⊎_elim
        (λ (lt : v < length p.points). subst (λ x. IsEventOf f p t e v x) same (told.at_points v lt))
        (λ (past : length p.points ≤ v). absurd (other (sym same ∙ told.past v past)))
        (cases_lt v (length p.points))),
  )

  pub are_events : AreEvents (λ v k. IsEventOf f p t e v k) event
  are_events = record { occurs = λ v. event_is v Occurs (λ same. cc); kills = λ v. event_is v Kills (λ same. cc) }

-- ---- the flags at the blocks of the graph

module _ (f : Function) (p : Points) (c : FnCounts) (reached : ℕ → Bool) (P : ℕ → Type 0) (all : List Bool) where
  -- the flags of a block's head and terminator
  abbrev pub AreFlagged : graphs.Block → Type 0
  AreFlagged b = ((is_flagged all (2 * b.index) ≡ true) ↔ P b.head) × ((is_flagged all (2 * b.index + 1) ≡ true) ↔ P b.terminator)

  pub flagged_from : (index point edge : ℕ) (blocks : List ℕ) (flags : List Bool) → LieFrom f p c reached point edge blocks → AllZip (Tells p.points P) (ends_of blocks) flags → ((k : ℕ) → get_or all (2 * index + k) false ≡ get_or flags k false)
      → AllByRecursion AreFlagged (blocks_from index point edge (map (shape f p c reached) blocks))
  flagged_from index point edge [] flags lies tells at = tt
  flagged_from index point edge (b ∷ blocks) [] lies tells at = absurd tells
  flagged_from index point edge (b ∷ blocks) (x ∷ []) lies tells at = absurd tells.1
  flagged_from index point edge (b ∷ blocks) (x ∷ (y ∷ flags)) lies tells at =
      let none : 2 * index + 0 ≡ 2 * index = omega arith in
      let head : is_flagged all (2 * index) ≡ x = ap (λ k. get_or all k false) (sym none) ∙ at 0 in
      let term : is_flagged all (2 * index + 1) ≡ y = at 1 in
      let size : (shape f p c reached b).instructions ≡ length lies.0.block.instrs = ap (λ s. s.instructions) lies.0.shape_is in
      let last = tells.1.0 (suc point + (shape f p c reached b).instructions) (ap (λ n. slice_get p.points (suc point + n)) size ∙ lies.0.term) in
      let first = tells.0 point lies.0.head in (
        ((λ h. first.0 (sym head ∙ h), λ h. head ∙ first.1 h), (λ h. last.0 (sym term ∙ h), λ h. term ∙ last.1 h)),
        flagged_from (suc index) (next_point point (shape f p c reached b)) (next_edge edge (shape f p c reached b)) blocks flags lies.1 tells.1.1
            (λ k. let more : 2 * suc index + k ≡ 2 * index + suc (suc k) = omega arith in ap (λ i. get_or all i false) more ∙ at (suc (suc k))),
      )
