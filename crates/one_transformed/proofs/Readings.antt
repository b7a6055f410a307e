-- Two readings of points and events that say the same have the same best placements.
use Rattle.std.proofs.Common.{◌+◌, ℕ, List, length, subst}
use Rattle.ir_types.specs.declared.syntax.Function.{Function}
use Rattle.flow_paths.specs.Paths.{Place, at_point, on_edge}
use Rattle.profile.specs.declared.counts.FnCounts.{FnCounts}
use Rattle.point_graph.specs.declared.graph.Edge.{Edge}
use Rattle.point_graph.specs.declared.graph.Point.{Point}
use Rattle.point_graph.specs.declared.graph.Points.{Points}
use Rattle.expressions.specs.declared.syntax.Event.{Event}
use Rattle.expressions.specs.Kept.{Kept}
use Rattle.expressions.specs.Tables.{IsEventOf}
use Rattle.placement.specs.declared.placements.Placement.{Placement}
use Rattle.placement.specs.Costs.{edges_cost, points_cost}
use Rattle.placement.specs.Placements.{arcs_of, Writes, Kills, IsCorrect, IsLiveAt}
use Rattle.best_choice.specs.Best.{IsPlacementOn, LivesWithin, IsBestBy, IsBestIn}
use Rattle.one_transformed.specs.Numberings.{AreSame}

-- what one says the other says
abbrev pub Says : (ℕ → Event → Type 0) → (ℕ → Event → Type 0) → Type 0
Says Is Js = (v : ℕ) (event : Event) → Is v event → Js v event

module _ (Is Js : ℕ → Event → Type 0) (to : Says Is Js) (back : Says Js Is) where
  writes_to : (p : Placement) (m : Place) → Writes Is p m → Writes Js p m
  writes_to p (at_point v) w = (to v _ w.0, w.1)
  writes_to p (on_edge e) w = w

  writes_back : (p : Placement) (m : Place) → Writes Js p m → Writes Is p m
  writes_back p (at_point v) w = (back v _ w.0, w.1)
  writes_back p (on_edge e) w = w

  kills_back : (m : Place) → Kills Js m → Kills Is m
  kills_back (at_point v) k = back v _ k
  kills_back (on_edge e) k = k

  placement_to : (arcs : List (ℕ × ℕ)) (n : ℕ) (p : Placement) → IsPlacementOn arcs n Is p → IsPlacementOn arcs n Js p
  placement_to arcs n p is = record {
    inserted_order = is.inserted_order;
    edges = is.edges;
    kept_order = is.kept_order;
    points = is.points;
    occurrences = λ k d lt. to _ _ (is.occurrences k d lt);
  }

  correct_to : (arcs : List (ℕ × ℕ)) (p : Placement) → IsCorrect arcs Is p → IsCorrect arcs Js p
  correct_to arcs p correct v path deleted leads =
      let valid = correct v path (back v _ deleted.0, deleted.1) leads in
      record {
        before = valid.before;
        write = valid.write;
        after = valid.after;
        split = valid.split;
        writes = writes_to p valid.write valid.writes;
        unkilled = λ k d lt killed. valid.unkilled k d lt (kills_back _ killed);
      }

  pub live_to : (arcs : List (ℕ × ℕ)) (p : Placement) (v : ℕ) → IsLiveAt arcs Is p v → IsLiveAt arcs Js p v
  live_to arcs p v live = record {
    path = live.path;
    occurrence = live.occurrence;
    leads = live.leads;
    deleted = (to live.occurrence _ live.deleted.0, live.deleted.1);
    unwritten = λ k d lt written. live.unwritten k d lt (writes_back p _ written);
  }

module _ (Is Js : ℕ → Event → Type 0) (to : Says Is Js) (back : Says Js Is) (arcs : List (ℕ × ℕ)) (n : ℕ) where
  lives_within : (p q : Placement) → LivesWithin arcs n Is p q → LivesWithin arcs n Js p q
  lives_within p q within = (
    λ v lt live. live_to Is Js to back arcs q v (within.0 v lt (live_to Js Is back to arcs p v live)),
    λ e lt live. let there = within.1 e lt (live.0, live_to Js Is back to arcs p _ live.1) in (there.0, live_to Is Js to back arcs q _ there.1),
  )

  best_to : (cost : Placement → ℕ) (p : Placement) → IsBestBy arcs n Is cost p → IsBestBy arcs n Js cost p
  best_to cost p best = record {
    placement = placement_to Is Js to back arcs n p best.placement;
    correct = correct_to Is Js to back arcs p best.correct;
    cheapest = λ q is correct. best.cheapest q (placement_to Js Is back to arcs n q is) (correct_to Js Is back to arcs q correct);
    lives_least = λ q is correct same. lives_within p q (best.lives_least q (placement_to Js Is back to arcs n q is) (correct_to Js Is back to arcs q correct) same);
  }

pub best_stays : (f : Function) (p p' : Points) (t t' : Kept) (x : ℕ) (counts : FnCounts) (placement : Placement) → AreSame f p p' t t' → IsBestIn f p t x counts placement → IsBestIn f p' t' x counts placement
best_stays f p p' t t' x counts placement same best reached are =
    let here = best_to (IsEventOf f p t x) (IsEventOf f p' t' x) (λ v event. (same.events x v event).0) (λ v event. (same.events x v event).1)
    (arcs_of p.edges) (length p.points) (λ q. edges_cost f counts reached p.edges q.inserted + points_cost f counts reached p.points q.kept) placement (best reached are) in
    let IsBest : List Edge → List Point → Type 0 = λ edges points. IsBestBy (arcs_of edges) (length points) (IsEventOf f p' t' x) (λ q. edges_cost f counts reached edges q.inserted + points_cost f counts reached points q.kept) placement in
    subst (λ points. IsBest p'.edges points) same.points (subst (λ edges. IsBest edges p.points) same.edges here)
