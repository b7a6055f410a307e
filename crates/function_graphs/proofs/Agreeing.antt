-- Two readings of what occurs and kills, alike at every point, tell the same of a placement.
use Rattle.std.proofs.Common.{◌≡◌, ◌<◌, ◌≤◌, ◌↔◌, ℕ, Bool, List, length, refl, sym, ◌∙◌, subst, ⊎_elim}
use Rattle.std.proofs.lemmas.Bool.{cases_lt}
use Rattle.ir_types.specs.declared.syntax.Function.{Function}
use Rattle.point_graph.specs.declared.graph.Points.{Points}
use Rattle.expressions.specs.declared.syntax.Event.{Event}
use Rattle.expressions.specs.declared.syntax.Event.TheVariants.{Occurs, Kills as KillsIt, Passes}
use Rattle.expressions.specs.Kept.{Kept}
use Rattle.expressions.specs.Tables.{IsEventOf}
use Rattle.profile.specs.declared.counts.FnCounts.{FnCounts}
use Rattle.flow_paths.specs.Paths.{Place, at_point, on_edge, target}
use Rattle.placement.specs.declared.placements.Placement.{Placement}
use Rattle.placement.specs.Placements.{arcs_of, Writes, Kills, IsCorrect, IsLiveAt}
use Rattle.placement.proofs.EventLemmas.{one_event, event_inside}
use Rattle.best_choice.specs.Best.{IsPlacementOn}
use Rattle.best_placement.specs.Blocks.{HasEvent}
use Rattle.best_placement.specs.Laws.{IsPlacement}
use Rattle.function_graphs.specs.Graphs.{graph_of, AreEventsOf, Agrees, PlacementsAgree}

module _ (Is Js : ℕ → Event → Type 0) (occurs : (v : ℕ) → Is v Occurs ↔ Js v Occurs) (kills : (v : ℕ) → Is v KillsIt ↔ Js v KillsIt) (p : Placement) where
  writes_too : (m : Place) → Writes Is p m → Writes Js p m
  writes_too (at_point v) w = ((occurs v).0 w.0, w.1)
  writes_too (on_edge e) w = w

  writes_back : (m : Place) → Writes Js p m → Writes Is p m
  writes_back (at_point v) w = ((occurs v).1 w.0, w.1)
  writes_back (on_edge e) w = w

  kills_back : (m : Place) → Kills Js m → Kills Is m
  kills_back (at_point v) k = (kills v).1 k
  kills_back (on_edge e) k = k

  pub correct_too : (arcs : List (ℕ × ℕ)) → IsCorrect arcs Is p → IsCorrect arcs Js p
  correct_too arcs correct v path deleted leads =
      let valid = correct v path ((occurs v).1 deleted.0, deleted.1) leads in
      record {
        before = valid.before;
        write = valid.write;
        after = valid.after;
        split = valid.split;
        writes = writes_too valid.write valid.writes;
        unkilled = λ k d h killed. valid.unkilled k d h (kills_back _ killed);
      }

  pub live_too : (arcs : List (ℕ × ℕ)) (v : ℕ) → IsLiveAt arcs Is p v → IsLiveAt arcs Js p v
  live_too arcs v l = record {
    path = l.path;
    occurrence = l.occurrence;
    leads = l.leads;
    deleted = ((occurs l.occurrence).0 l.deleted.0, l.deleted.1);
    unwritten = λ k d h written. l.unwritten k d h (writes_back _ written);
  }

module _ (f : Function) (p : Points) (t : Kept) (e : ℕ) (event : ℕ → Event) (told : AreEventsOf f p t e event) where
  -- what isn't nothing is told alike
  event_told : (v : ℕ) (k : Event) → (k ≡ Passes → ⊥) → HasEvent event v k ↔ IsEventOf f p t e v k
  event_told v k other = (
    (λ same. ⊎_elim
        (λ (lt : v < length p.points). subst (λ x. IsEventOf f p t e v x) same (told.at_points v lt))
        (λ (ge : length p.points ≤ v). absurd (other (sym same ∙ told.past v ge)))
        (cases_lt v (length p.points))),
    (λ is. one_event f p t e v (event v) k (told.at_points v (event_inside f p t e v k is)) is),
  )

  occurs_told : (v : ℕ) → HasEvent event v Occurs ↔ IsEventOf f p t e v Occurs
  occurs_told v = event_told v Occurs (λ same. cc)

  kills_told : (v : ℕ) → HasEvent event v KillsIt ↔ IsEventOf f p t e v KillsIt
  kills_told v = event_told v KillsIt (λ same. cc)

  occurs_from : (v : ℕ) → IsEventOf f p t e v Occurs ↔ HasEvent event v Occurs
  occurs_from v = ((occurs_told v).1, (occurs_told v).0)

  kills_from : (v : ℕ) → IsEventOf f p t e v KillsIt ↔ HasEvent event v KillsIt
  kills_from v = ((kills_told v).1, (kills_told v).0)

  pub live_same : (placement : Placement) (v : ℕ) → IsLiveAt (arcs_of p.edges) (HasEvent event) placement v ↔ IsLiveAt (arcs_of p.edges) (IsEventOf f p t e) placement v
  live_same placement v = (
    live_too (HasEvent event) (IsEventOf f p t e) occurs_told kills_told placement (arcs_of p.edges) v,
    live_too (IsEventOf f p t e) (HasEvent event) occurs_from kills_from placement (arcs_of p.edges) v,
  )

  pub placement_same : (c : FnCounts) (reached : ℕ → Bool) (placement : Placement) → IsPlacement (graph_of f p c reached event) placement ↔ IsPlacementOn (arcs_of p.edges) (length p.points) (IsEventOf f p t e) placement
  placement_same c reached placement = (
    (λ h. record {
      inserted_order = h.inserted_order;
      edges = h.edges;
      kept_order = h.kept_order;
      points = h.points;
      occurrences = λ k d lt. (occurs_told _).0 (h.occurrences k d lt);
    }),
    (λ h. record {
      inserted_order = h.inserted_order;
      edges = h.edges;
      kept_order = h.kept_order;
      points = h.points;
      occurrences = λ k d lt. (occurs_told _).1 (h.occurrences k d lt);
    }),
  )

  pub agrees : (c : FnCounts) (reached : ℕ → Bool) (placement : Placement) → Agrees f p t e c reached event placement
  agrees c reached placement = record {
    is_placement = placement_same c reached placement;
    correct = (
      correct_too (HasEvent event) (IsEventOf f p t e) occurs_told kills_told placement (arcs_of p.edges),
      correct_too (IsEventOf f p t e) (HasEvent event) occurs_from kills_from placement (arcs_of p.edges),
    );
    live_at = live_same placement;
    live_on = λ n. let both = live_same placement (target (arcs_of p.edges) n) in ((λ l. (l.0, both.0 l.1)), (λ l. (l.0, both.1 l.1)));
    cost = refl;
  }

pub placements_agree : PlacementsAgree
placements_agree f p t e c reached event placement is = agrees f p t e event is.events c reached placement
