-- Two readings of what occurs, kills and bars, alike at every point, tell the same of placements.
use Rattle.std.proofs.Common.{◌≡◌, ◌<◌, ◌≤◌, ◌↔◌, ◌⊎◌, ℕ, zero, suc, Bool, List, ◌∷◌, [], ◌++◌, length, sym, ◌∙◌, subst, inl, inr, ⊎_elim}
use Rattle.std.proofs.lemmas.Bool.{cases_lt}
use Rattle.std.proofs.lemmas.List.{get_or_default, get_or_past}
use Rattle.ir_types.specs.declared.syntax.Function.{Function}
use Rattle.point_graph.specs.declared.graph.Points.{Points}
use Rattle.expressions.specs.declared.syntax.Event.{Event}
use Rattle.expressions.specs.declared.syntax.Event.TheVariants.{Occurs, Kills as KillsIt, Bars, Passes}
use Rattle.expressions.specs.Kept.{Kept}
use Rattle.expressions.specs.Tables.{IsEventOf}
use Rattle.flow_paths.specs.Paths.{source, target, Place, at_point, on_edge, met}
use Rattle.flow_paths.specs.Spreads.{IsSet}
use Rattle.flow_paths.specs.Inevitable.{LeadsAllTo, IsInevitableWithin}
use Rattle.placement.specs.declared.placements.Placement.{Placement}
use Rattle.placement.specs.Marking.{AreEvents}
use Rattle.placement.specs.Placements.{Kills, IsInevitable, IsCorrect, IsSafe, IsLiveOn}
use Rattle.placement.proofs.EventLemmas.{one_event, event_inside}
use Rattle.best_placement.specs.Blocks.{HasEvent}
use Rattle.best_choice.specs.Best.{IsPlacementOn}
use Rattle.function_graphs.specs.Graphs.{AreEventsOf}
use Rattle.function_graphs.proofs.Agreeing.{correct_too, live_too}
use Rattle.lazy_motion.specs.Motion.{IsOccurrence, IsEarly, IsEarlyPlace, IsDelayedOn, IsDelayedAt, IsLazy}
use Rattle.lazy_motion.specs.Optimality.{IsSettled, ComputesAtMost, ComputesLeast, LivesLeast}
use Rattle.lazy_motion.specs.Steps.{event_at}
use Rattle.lazy_motion.proofs.PathSteps.{IsValid-map}

pub record Alike (Is Js : ℕ → Event → Type 0) : Type 0 where
  pub occurs : (v : ℕ) → Is v Occurs ↔ Js v Occurs
  pub kills : (v : ℕ) → Is v KillsIt ↔ Js v KillsIt
  pub bars : (v : ℕ) → Is v Bars ↔ Js v Bars

pub alike_back : (Is Js : ℕ → Event → Type 0) → Alike Is Js → Alike Js Is
alike_back Is Js a = record {
  occurs = λ v. ((a.occurs v).1, (a.occurs v).0);
  kills = λ v. ((a.kills v).1, (a.kills v).0);
  bars = λ v. ((a.bars v).1, (a.bars v).0);
}

module _ (arcs : List (ℕ × ℕ)) where
  within_too : (Is Js : ℕ → Event → Type 0) → Alike Is Js → (k v : ℕ) → IsInevitableWithin arcs (λ w. Is w Occurs) (λ w. Is w KillsIt ⊎ Is w Bars) k v → IsInevitableWithin arcs (λ w. Js w Occurs) (λ w. Js w KillsIt ⊎ Js w Bars) k v
  within_too Is Js a zero v h = (h.0, (a.occurs v).0 h.1)
  within_too Is Js a (suc k) v h = (
    h.0,
    ⊎_elim
        (λ (o : Is v Occurs). inl ((a.occurs v).0 o))
        (λ (p : ¬ (Is v KillsIt ⊎ Is v Bars) × LeadsAllTo arcs (λ w. IsInevitableWithin arcs (λ w. Is w Occurs) (λ w. Is w KillsIt ⊎ Is w Bars) k w) v). inr (
          (λ (s : Js v KillsIt ⊎ Js v Bars). p.0 (⊎_elim (λ (x : Js v KillsIt). inl ((a.kills v).1 x)) (λ (x : Js v Bars). inr ((a.bars v).1 x)) s)),
          record { arc = p.1.arc; is_arc = p.1.is_arc; leaves = p.1.leaves; all = λ e l s. within_too Is Js a k (target arcs e) (p.1.all e l s) },
        ))
        h.1,
  )

  inevitable_too : (Is Js : ℕ → Event → Type 0) → Alike Is Js → (v : ℕ) → IsInevitable arcs Is v → IsInevitable arcs Js v
  inevitable_too Is Js a v (k, h) = (k, within_too Is Js a k v h)

  occurrence_too : (Is Js : ℕ → Event → Type 0) → Alike Is Js → (m : Place) → IsOccurrence Is m → IsOccurrence Js m
  occurrence_too Is Js a (at_point v) o = (a.occurs v).0 o
  occurrence_too Is Js a (on_edge e) o = o

  kills_too : (Is Js : ℕ → Event → Type 0) → Alike Is Js → (m : Place) → Kills Is m → Kills Js m
  kills_too Is Js a (at_point v) k = (a.kills v).0 k
  kills_too Is Js a (on_edge e) k = k

  early_too : (Is Js : ℕ → Event → Type 0) → Alike Is Js → (e : ℕ) → IsEarly arcs Is e → IsEarly arcs Js e
  early_too Is Js a e i = record {
    inevitable = inevitable_too Is Js a (target arcs e) i.inevitable;
    not_before = λ h. i.not_before (inevitable_too Js Is (alike_back Is Js a) (source arcs e) h);
    path = i.path;
    leads = i.leads;
    not_computed = λ c. i.not_computed (IsValid-map (IsOccurrence Js) (Kills Js) (IsOccurrence Is) (Kills Is)
        (occurrence_too Js Is (alike_back Is Js a)) (kills_too Is Js a) (met arcs i.path ++ at_point (source arcs e) ∷ []) c);
  }

  early_place_too : (Is Js : ℕ → Event → Type 0) → Alike Is Js → (m : Place) → IsEarlyPlace arcs Is m → IsEarlyPlace arcs Js m
  early_place_too Is Js a (at_point v) h = h
  early_place_too Is Js a (on_edge e) h = early_too Is Js a e h

  delayed_on_too : (Is Js : ℕ → Event → Type 0) → Alike Is Js → (e : ℕ) → IsDelayedOn arcs Is e → IsDelayedOn arcs Js e
  delayed_on_too Is Js a e d path leads =
      IsValid-map (IsEarlyPlace arcs Is) (IsOccurrence Is) (IsEarlyPlace arcs Js) (IsOccurrence Js)
      (early_place_too Is Js a) (occurrence_too Js Is (alike_back Is Js a)) (met arcs (path ++ e ∷ [])) (d path leads)

  delayed_at_too : (Is Js : ℕ → Event → Type 0) → Alike Is Js → (v : ℕ) → IsDelayedAt arcs Is v → IsDelayedAt arcs Js v
  delayed_at_too Is Js a v d = (d.0, λ e h t. delayed_on_too Is Js a e (d.1 e h t))

  pub lazy_too : (Is Js : ℕ → Event → Type 0) → Alike Is Js → (p : Placement) → IsLazy arcs Is p → IsLazy arcs Js p
  lazy_too Is Js a p lazy =
      let back = alike_back Is Js a in
      record {
        inserted = λ e. (
          λ c. let l = (lazy.inserted e).0 c in record { is_edge = l.is_edge; delayed = delayed_on_too Is Js a e l.delayed; not_after = λ d. l.not_after (delayed_at_too Js Is back (target arcs e) d) },
          λ l. (lazy.inserted e).1 (record { is_edge = l.is_edge; delayed = delayed_on_too Js Is back e l.delayed; not_after = λ d. l.not_after (delayed_at_too Is Js a (target arcs e) d) }),
        );
        kept = λ v. (
          λ c. let l = (lazy.kept v).0 c in ((a.occurs v).0 l.0, delayed_at_too Is Js a v l.1),
          λ l. (lazy.kept v).1 ((a.occurs v).1 l.0, delayed_at_too Js Is back v l.1),
        );
      }

  pub placement_too : (n : ℕ) (Is Js : ℕ → Event → Type 0) → Alike Is Js → (p : Placement) → IsPlacementOn arcs n Is p → IsPlacementOn arcs n Js p
  placement_too n Is Js a p h = record {
    inserted_order = h.inserted_order;
    edges = h.edges;
    kept_order = h.kept_order;
    points = h.points;
    occurrences = λ k d lt. (a.occurs _).0 (h.occurrences k d lt);
  }

  pub is_correct_too : (Is Js : ℕ → Event → Type 0) → Alike Is Js → (p : Placement) → IsCorrect arcs Is p → IsCorrect arcs Js p
  is_correct_too Is Js a p correct = correct_too Is Js a.occurs a.kills p arcs correct

  pub safe_too : (Is Js : ℕ → Event → Type 0) → Alike Is Js → (p : Placement) → IsSafe arcs Is p → IsSafe arcs Js p
  safe_too Is Js a p safe e c = inevitable_too Is Js a (target arcs e) (safe e c)

  settled_too : (Is Js : ℕ → Event → Type 0) → Alike Is Js → (path : List ℕ) (v : ℕ) → IsSettled arcs Is path v → IsSettled arcs Js path v
  settled_too Is Js a path v s = (
    s.0,
    ⊎_elim
        (λ (o : Is v Occurs). inl ((a.occurs v).0 o))
        (λ (fails : ¬ (IsInevitable arcs Is v)). inr (λ (i : IsInevitable arcs Js v). fails (inevitable_too Js Is (alike_back Is Js a) v i)))
        s.1,
  )

  at_most_too : (Is Js : ℕ → Event → Type 0) → Alike Is Js → (p q : Placement) → ComputesAtMost arcs Is p q → ComputesAtMost arcs Js p q
  at_most_too Is Js a p q fewer path v s = fewer path v (settled_too Js Is (alike_back Is Js a) path v s)

  pub least_too : (Is Js : ℕ → Event → Type 0) → Alike Is Js → (p : Placement) → ComputesLeast arcs Is p → ComputesLeast arcs Js p
  least_too Is Js a p least q correct safe =
      let back = alike_back Is Js a in
      at_most_too Is Js a p q (least q (is_correct_too Js Is back q correct) (safe_too Js Is back q safe))

  live_on_too : (Is Js : ℕ → Event → Type 0) → Alike Is Js → (p : Placement) (e : ℕ) → IsLiveOn arcs Is p e → IsLiveOn arcs Js p e
  live_on_too Is Js a p e l = (l.0, live_too Is Js a.occurs a.kills p arcs (target arcs e) l.1)

  pub lives_too : (n : ℕ) (Is Js : ℕ → Event → Type 0) → Alike Is Js → (p : Placement) → LivesLeast arcs n Is p → LivesLeast arcs n Js p
  lives_too n Is Js a p lives q correct safe as_few =
      let back = alike_back Is Js a in
      let within = lives q (is_correct_too Js Is back q correct) (safe_too Js Is back q safe) (at_most_too Js Is back q p as_few) in (
        λ v h l. live_too Is Js a.occurs a.kills q arcs v (within.0 v h (live_too Js Is back.occurs back.kills p arcs v l)),
        λ e h l. live_on_too Is Js a q e (within.1 e h (live_on_too Js Is back p e l)),
      )

-- ---- listed events

module _ (f : Function) (p : Points) (t : Kept) (e : ℕ) (events : List Event) (told : AreEvents (IsEventOf f p t e) (length p.points) events) where
  pub events_told : AreEventsOf f p t e (event_at events)
  events_told = record {
    at_points = λ v h. subst (λ k. IsEventOf f p t e v k) (get_or_default events v Occurs Passes (subst (λ n. v < n) (sym told.len) h)) (told.are v h);
    past = λ v h. get_or_past events v Passes (subst (λ n. n ≤ v) (sym told.len) h);
  }

  event_same : (k : Event) → (k ≡ Passes → ⊥) → (v : ℕ) → HasEvent (event_at events) v k ↔ IsEventOf f p t e v k
  event_same k other v = (
    (λ same. ⊎_elim
        (λ (lt : v < length p.points). subst (λ x. IsEventOf f p t e v x) same (events_told.at_points v lt))
        (λ (ge : length p.points ≤ v). absurd (other (sym same ∙ events_told.past v ge)))
        (cases_lt v (length p.points))),
    (λ is. one_event f p t e v (event_at events v) k (events_told.at_points v (event_inside f p t e v k is)) is),
  )

  pub events_alike : Alike (HasEvent (event_at events)) (IsEventOf f p t e)
  events_alike = record {
    occurs = event_same Occurs (λ same. cc);
    kills = event_same KillsIt (λ same. cc);
    bars = event_same Bars (λ same. cc);
  }

  -- bits of inevitable points serve for the list of events
  pub inevitable_same : (arcs : List (ℕ × ℕ)) (bits : List Bool) → ((v : ℕ) → v < length p.points → IsSet bits v ↔ IsInevitable arcs (IsEventOf f p t e) v)
      → (v : ℕ) → v < length p.points → IsSet bits v ↔ IsInevitable arcs (HasEvent (event_at events)) v
  inevitable_same arcs bits are v h = (
    λ s. inevitable_too arcs (IsEventOf f p t e) (HasEvent (event_at events)) (alike_back (HasEvent (event_at events)) (IsEventOf f p t e) events_alike) v ((are v h).0 s),
    λ i. (are v h).1 (inevitable_too arcs (HasEvent (event_at events)) (IsEventOf f p t e) events_alike v i),
  )
