-- What the bits say of early and delayed edges over all paths.
use Rattle.std.proofs.Common.{◌≡◌, ◌≢◌, ℕ, ◌<◌, ◌≤◌, subst, Bool, true, false, List, [], ◌∷◌, ◌++◌, length, get_or, map, replicate, refl, sym, ◌∙◌, ap, ◌⊎◌, inl, inr, ⊎_elim, Contains, ◌↔◌, arith}
use Rattle.std.proofs.lemmas.Bool.{cases_Bool, cases_lt}
use Rattle.std.proofs.lemmas.List.{get_or-replicate, get_or-map, get_or_default, get_or_past}
use Rattle.flow_paths.specs.declared.marks.Mark.{Mark}
use Rattle.flow_paths.specs.declared.marks.Mark.TheVariants.{Write, Kill, Pass}
use Rattle.expressions.specs.declared.syntax.Event.{Event}
use Rattle.expressions.specs.declared.syntax.Event.TheVariants.{Occurs, Kills as KillsIt, Bars, Passes}
use Rattle.flow_paths.specs.Marks.{mark_at, ValidBy, ReachedInvalid}
use Rattle.flow_paths.specs.Paths.{source, target, ArcsWithin, IsPath, Connects, Place, at_point, on_edge, met, IsValid}
use Rattle.flow_paths.specs.Spreads.{IsSet}
use Rattle.flow_paths.proofs.Validity.{carried, valid-carried, invalid-carried}
use Rattle.placement.specs.declared.placements.Placement.{Placement}
use Rattle.placement.specs.Placements.{Kills, IsInevitable}
use Rattle.best_placement.specs.Blocks.{HasEvent}
use Rattle.lazy_motion.specs.Motion.{IsOccurrence, IsEarly, IsEarlyPlace, IsDelayedOn, IsDelayedAt, IsLazy}
use Rattle.lazy_motion.specs.Steps.{computing_mark, ending_mark, beginning_mark, event_at, bit, EarlyBehind, EarlyBits, DelayedBits, DelayedBehind, EndsUndelayed}
use Rattle.lazy_motion.proofs.PathSteps.{kills_or_not, InGraph, met_in_graph, IsValid-agree, IsValid-write, IsValid-keep, IsValid-last, edge_writes, edge_last, path_keeps}

computing_writes : (k : Event) → (computing_mark k ≡ Write) ↔ (k ≡ Occurs)
computing_writes Occurs = (λ h. refl, λ h. refl)
computing_writes KillsIt = (λ h. cc, λ h. cc)
computing_writes Bars = (λ h. cc, λ h. cc)
computing_writes Passes = (λ h. cc, λ h. cc)

computing_kills : (k : Event) → (computing_mark k ≡ Kill) ↔ (k ≡ KillsIt)
computing_kills Occurs = (λ h. cc, λ h. cc)
computing_kills KillsIt = (λ h. refl, λ h. refl)
computing_kills Bars = (λ h. cc, λ h. cc)
computing_kills Passes = (λ h. cc, λ h. cc)

ending_writes : (k : Event) → ending_mark k ≡ Write → ⊥
ending_writes Occurs h = cc
ending_writes KillsIt h = cc
ending_writes Bars h = cc
ending_writes Passes h = cc

ending_kills : (k : Event) → (ending_mark k ≡ Kill) ↔ (k ≡ Occurs)
ending_kills Occurs = (λ h. refl, λ h. refl)
ending_kills KillsIt = (λ h. cc, λ h. cc)
ending_kills Bars = (λ h. cc, λ h. cc)
ending_kills Passes = (λ h. cc, λ h. cc)

beginning_writes : (b : Bool) → (beginning_mark b ≡ Write) ↔ (b ≡ true)
beginning_writes true = (λ h. refl, λ h. refl)
beginning_writes false = (λ h. cc, λ h. cc)

beginning_kills : (b : Bool) → beginning_mark b ≡ Kill → ⊥
beginning_kills true h = cc
beginning_kills false h = cc

-- the marks say at each place of the graph what writes and what kills
abbrev pub MarksAre : ℕ → ℕ → (Place → Mark) → (Place → Type 0) → (Place → Type 0) → Type 0
MarksAre n m mark W K = (place : Place) → InGraph n m place → ((mark place ≡ Write) ↔ W place) × ((mark place ≡ Kill) ↔ K place)

module _ (arcs : List (ℕ × ℕ)) (n : ℕ) (within : ArcsWithin arcs n) (mark : Place → Mark) (W K : Place → Type 0) (marks : MarksAre n (length arcs) mark W K) where
  pub marks_valid : (u : ℕ) (path : List ℕ) (v : ℕ) → IsPath arcs u path v → ValidBy mark (met arcs path) ↔ IsValid W K (met arcs path)
  marks_valid u path v h = (
    IsValid-agree (λ m. mark m ≡ Write) (λ m. mark m ≡ Kill) W K (met arcs path) (λ k d l. let a = marks _ (met_in_graph arcs n within u path v h k d l) in (a.0.0, a.1.1)),
    IsValid-agree W K (λ m. mark m ≡ Write) (λ m. mark m ≡ Kill) (met arcs path) (λ k d l. let a = marks _ (met_in_graph arcs n within u path v h k d l) in (a.0.1, a.1.0)),
  )

  -- where no path is invalid, each path is valid
  pub all_valid : (v : ℕ) → ¬ (ReachedInvalid arcs mark v) → (path : List ℕ) → IsPath arcs 0 path v → IsValid W K (met arcs path)
  all_valid v none path h = ⊎_elim
      (λ (e : carried mark (met arcs path) false ≡ true). (marks_valid 0 path v h).0 (valid-carried mark (met arcs path) e))
      (λ (e : carried mark (met arcs path) false ≡ false). absurd (none (record { path = path; leads = h; invalid = invalid-carried mark (met arcs path) e })))
      (cases_Bool (carried mark (met arcs path) false))

-- the events of the points are listed
abbrev pub AreListed : List Event → (ℕ → Event) → Type 0
AreListed events event = (v : ℕ) → v < length events → get_or events v Occurs ≡ event v

module _ (arcs : List (ℕ × ℕ)) (events : List Event) (event : ℕ → Event) (listed : AreListed events event) (within : ArcsWithin arcs (length events)) (reached : (v : ℕ) → v < length events → Connects arcs 0 v) where
  abbrev C : List Place → Type 0
  C places = IsValid (IsOccurrence (HasEvent event)) (Kills (HasEvent event)) places

  module _ (points edges : List Mark) (points_are : points ≡ map computing_mark events) (edges_are : edges ≡ replicate (length arcs) Pass) where
    computing_marks : MarksAre (length events) (length arcs) (mark_at points edges) (IsOccurrence (HasEvent event)) (Kills (HasEvent event))
    computing_marks (at_point v) h =
        let is : get_or points v Write ≡ computing_mark (event v) = ap (λ m. get_or m v Write) points_are ∙ get_or-map computing_mark events v Occurs Write h ∙ ap computing_mark (listed v h) in
        ((λ w. (computing_writes (event v)).0 (sym is ∙ w), λ o. is ∙ (computing_writes (event v)).1 o), (λ k. (computing_kills (event v)).0 (sym is ∙ k), λ o. is ∙ (computing_kills (event v)).1 o))
    computing_marks (on_edge e) h =
        let is : get_or edges e Write ≡ Pass = ap (λ m. get_or m e Write) edges_are ∙ get_or-replicate (length arcs) e Pass Write h in
        ((λ w. let f : Pass ≡ Write = sym is ∙ w in cc, λ o. absurd o), (λ k. let f : Pass ≡ Kill = sym is ∙ k in cc, λ o. absurd o))

    pub early_are : (ahead uncomputed bits : List Bool)
        → ((v : ℕ) → v < length events → IsSet ahead v ↔ IsInevitable arcs (HasEvent event) v)
        → ((v : ℕ) → IsSet uncomputed v ↔ ReachedInvalid arcs (mark_at points edges) v)
        → EarlyBits arcs events ahead uncomputed (length arcs) bits
        → (e : ℕ) → e < length arcs → IsSet bits e ↔ IsEarly arcs (HasEvent event) e
    early_are ahead uncomputed bits ahead_are uncomputed_are is e h =
        let u : ℕ = source arcs e in
        let inside = within e h in
        let on : IsSet bits e ↔ EarlyBehind (event u) (bit ahead (target arcs e)) (bit ahead u) (bit uncomputed u) =
        subst (λ k. IsSet bits e ↔ EarlyBehind k (bit ahead (target arcs e)) (bit ahead u) (bit uncomputed u)) (listed u inside.0) (is.bits_are e h) in
        let valid : (path : List ℕ) → IsPath arcs 0 path u → ValidBy (mark_at points edges) (met arcs path) ↔ C (met arcs path) =
        λ path k. marks_valid arcs (length events) within (mark_at points edges) (IsOccurrence (HasEvent event)) (Kills (HasEvent event)) computing_marks 0 path u k in (
          λ s.
              let b = on.0 s in
              ⊎_elim
              (λ (k : event u ≡ KillsIt). let r = reached u inside.0 in record {
                inevitable = (ahead_are (target arcs e) inside.1).0 b.0;
                not_before = λ i. let t : bit ahead u ≡ true = (ahead_are u inside.0).1 i in let f : bit ahead u ≡ false = b.1 in cc;
                path = r.path;
                leads = r.leads;
                not_computed = λ c. ⊎_elim
                    (λ (o : event u ≡ Occurs). cc)
                    (λ (p : (¬ (event u ≡ KillsIt)) × C (met arcs r.path)). p.0 k)
                    (IsValid-last (IsOccurrence (HasEvent event)) (Kills (HasEvent event)) (met arcs r.path) (at_point u) c);
              })
              (λ (p : (event u ≢ Occurs) × (bit uncomputed u ≡ true)). let r : ReachedInvalid arcs (mark_at points edges) u = (uncomputed_are u).0 p.1 in record {
                inevitable = (ahead_are (target arcs e) inside.1).0 b.0;
                not_before = λ i. let t : bit ahead u ≡ true = (ahead_are u inside.0).1 i in let f : bit ahead u ≡ false = b.1 in cc;
                path = r.path;
                leads = r.leads;
                not_computed = λ c. ⊎_elim
                    p.0
                    (λ (q : (¬ (event u ≡ KillsIt)) × C (met arcs r.path)). r.invalid ((valid r.path r.leads).1 q.1))
                    (IsValid-last (IsOccurrence (HasEvent event)) (Kills (HasEvent event)) (met arcs r.path) (at_point u) c);
              })
              b.2,
          λ i. on.1 (
            (ahead_are (target arcs e) inside.1).1 i.inevitable,
            ⊎_elim (λ (t : bit ahead u ≡ true). absurd (i.not_before ((ahead_are u inside.0).0 t))) (λ (f : bit ahead u ≡ false). f) (cases_Bool (bit ahead u)),
            ⊎_elim
                (λ (k : event u ≡ KillsIt). inl k)
                (λ (k : event u ≢ KillsIt). inr (
                  λ o. i.not_computed (IsValid-write (IsOccurrence (HasEvent event)) (Kills (HasEvent event)) (met arcs i.path) (at_point u) o),
                  (uncomputed_are u).1 (record {
                    path = i.path;
                    leads = i.leads;
                    invalid = λ v. i.not_computed (IsValid-keep (IsOccurrence (HasEvent event)) (Kills (HasEvent event)) (met arcs i.path) (at_point u) k ((valid i.path i.leads).0 v));
                  }),
                ))
                (kills_or_not (event u)),
          ),
        )

  abbrev D : List Place → Type 0
  D places = IsValid (IsEarlyPlace arcs (HasEvent event)) (IsOccurrence (HasEvent event)) places

  module _ (early : List Bool) (early_is : (e : ℕ) → e < length arcs → IsSet early e ↔ IsEarly arcs (HasEvent event) e) (len : length early ≡ length arcs) (points edges : List Mark) (points_are : points ≡ map ending_mark events) (edges_are : edges ≡ map beginning_mark early) where
    delaying_marks : MarksAre (length events) (length arcs) (mark_at points edges) (IsEarlyPlace arcs (HasEvent event)) (IsOccurrence (HasEvent event))
    delaying_marks (at_point v) h =
        let is : get_or points v Write ≡ ending_mark (event v) = ap (λ m. get_or m v Write) points_are ∙ get_or-map ending_mark events v Occurs Write h ∙ ap ending_mark (listed v h) in
        ((λ w. ending_writes (event v) (sym is ∙ w), λ o. absurd o), (λ k. (ending_kills (event v)).0 (sym is ∙ k), λ o. is ∙ (ending_kills (event v)).1 o))
    delaying_marks (on_edge e) h =
        let inside : e < length early = omega arith in
        let is : get_or edges e Write ≡ beginning_mark (get_or early e false) = ap (λ m. get_or m e Write) edges_are ∙ get_or-map beginning_mark early e false Write inside in
        ((λ w. (early_is e h).0 ((beginning_writes (get_or early e false)).0 (sym is ∙ w)), λ o. is ∙ (beginning_writes (get_or early e false)).1 ((early_is e h).1 o)), (λ k. beginning_kills (get_or early e false) (sym is ∙ k), λ o. absurd o))

    pub delayed_are : (undelayed bits : List Bool)
        → ((v : ℕ) → IsSet undelayed v ↔ ReachedInvalid arcs (mark_at points edges) v)
        → DelayedBits arcs events early undelayed (length arcs) bits
        → (e : ℕ) → e < length arcs → IsSet bits e ↔ IsDelayedOn arcs (HasEvent event) e
    delayed_are undelayed bits undelayed_is is e h =
        let u : ℕ = source arcs e in
        let E : Place → Type 0 = IsEarlyPlace arcs (HasEvent event) in
        let O : Place → Type 0 = IsOccurrence (HasEvent event) in
        let inside = within e h in
        let on : IsSet bits e ↔ DelayedBehind (event u) (bit early e) (bit undelayed u) =
        subst (λ k. IsSet bits e ↔ DelayedBehind k (bit early e) (bit undelayed u)) (listed u inside.0) (is.bits_are e h) in (
          λ s path k. ⊎_elim
              (λ (t : bit early e ≡ true). edge_writes E O arcs path e ((early_is e h).0 t))
              (λ (p : (event u ≢ Occurs) × (bit undelayed u ≡ false)).
              path_keeps E O arcs path e (λ x. x) p.0
              (all_valid arcs (length events) within (mark_at points edges) E O delaying_marks u (λ r. let t : bit undelayed u ≡ true = (undelayed_is u).1 r in let f : bit undelayed u ≡ false = p.1 in cc) path k))
              (on.0 s),
          λ d. on.1 (⊎_elim
              (λ (t : bit early e ≡ true). inl t)
              (λ (f : bit early e ≡ false).
              let before : (path : List ℕ) → IsPath arcs 0 path u → (event u ≢ Occurs) × D (met arcs path) = λ path k. ⊎_elim
              (λ (i : IsEarly arcs (HasEvent event) e). let t : bit early e ≡ true = (early_is e h).1 i in cc)
              (λ (p : (⊥ → ⊥) × D (met arcs path ++ at_point u ∷ [])). ⊎_elim
              (λ (x : ⊥). absurd x)
              (λ (q : (¬ (event u ≡ Occurs)) × D (met arcs path)). q)
              (IsValid-last E O (met arcs path) (at_point u) p.1))
              (edge_last E O arcs path e (d path k)) in
              let r = reached u inside.0 in
              inr (
                (before r.path r.leads).0,
                ⊎_elim
                    (λ (t : bit undelayed u ≡ true). let q : ReachedInvalid arcs (mark_at points edges) u = (undelayed_is u).0 t in
                    absurd (q.invalid ((marks_valid arcs (length events) within (mark_at points edges) E O delaying_marks 0 q.path u q.leads).1 (before q.path q.leads).1)))
                    (λ (g : bit undelayed u ≡ false). g)
                    (cases_Bool (bit undelayed u)),
              ))
              (cases_Bool (bit early e))),
        )

module _ (arcs : List (ℕ × ℕ)) (event : ℕ → Event) (n : ℕ) (delayed : List Bool) (delayed_is : (e : ℕ) → e < length arcs → IsSet delayed e ↔ IsDelayedOn arcs (HasEvent event) e) where
  -- a point that cannot but be delayed is delayed
  pub delayed_stable : (v : ℕ) → ¬ ¬ (IsDelayedAt arcs (HasEvent event) v) → IsDelayedAt arcs (HasEvent event) v
  delayed_stable v nn = (
    λ z. nn (λ d. d.0 z),
    λ e h t. ⊎_elim
        (λ (s : bit delayed e ≡ true). (delayed_is e h).0 s)
        (λ (f : bit delayed e ≡ false). absurd (nn (λ d. let s : bit delayed e ≡ true = (delayed_is e h).1 (d.1 e h t) in cc)))
        (cases_Bool (bit delayed e)),
  )

  pub undelayed_are : (start bits : List Bool) → ((v : ℕ) → IsSet start v ↔ (v ≡ 0)) → ((v : ℕ) → IsSet bits v ↔ (IsSet start v ⊎ EndsUndelayed arcs delayed (length arcs) v)) → (v : ℕ) → v < n → IsSet bits v ↔ ¬ (IsDelayedAt arcs (HasEvent event) v)
  undelayed_are start bits start_is is v h = (
    λ s d. ⊎_elim
        (λ (b : IsSet start v). d.0 ((start_is v).0 b))
        (λ (u : EndsUndelayed arcs delayed (length arcs) v). u.undelayed ((delayed_is u.edge u.is_edge).1 (d.1 u.edge u.is_edge u.ends)))
        ((is v).0 s),
    λ fails. ⊎_elim
        (λ (s : bit bits v ≡ true). s)
        (λ (f : bit bits v ≡ false). absurd (fails (
          λ z. let s : bit bits v ≡ true = (is v).1 (inl ((start_is v).1 z)) in cc,
          λ e k t. ⊎_elim
              (λ (s : bit delayed e ≡ true). (delayed_is e k).0 s)
              (λ (g : bit delayed e ≡ false).
              let s : bit bits v ≡ true = (is v).1 (inr (record { edge = e; is_edge = k; undelayed = λ s. let s' : bit delayed e ≡ true = s in cc; ends = t })) in
              cc)
              (cases_Bool (bit delayed e)),
        )))
        (cases_Bool (bit bits v)),
  )

  pub lazy_is : (p : Placement) (undelayed : List Bool) → ArcsWithin arcs n
      → ((v : ℕ) → v < n → IsSet undelayed v ↔ ¬ (IsDelayedAt arcs (HasEvent event) v))
      → ((v : ℕ) → event v ≡ Occurs → v < n)
      → ((e : ℕ) → Contains p.inserted e ↔ ((e < length arcs) × IsSet delayed e × IsSet undelayed (target arcs e)))
      → ((v : ℕ) → Contains p.kept v ↔ ((v < n) × (event v ≡ Occurs) × (bit undelayed v ≡ false)))
      → IsLazy arcs (HasEvent event) p
  lazy_is p undelayed within undelayed_is occurs_inside inserted kept = record {
    inserted = λ e. (
      λ c. let b = (inserted e).0 c in record { is_edge = b.0; delayed = (delayed_is e b.0).0 b.1; not_after = (undelayed_is (target arcs e) (within e b.0).1).0 b.2 },
      λ l. (inserted e).1 (l.is_edge, (delayed_is e l.is_edge).1 l.delayed, (undelayed_is (target arcs e) (within e l.is_edge).1).1 l.not_after),
    );
    kept = λ v. (
      λ c. let b = (kept v).0 c in (b.1, delayed_stable v (λ fails. let s : bit undelayed v ≡ true = (undelayed_is v b.0).1 fails in let f : bit undelayed v ≡ false = b.2 in cc)),
      λ l. let inside = occurs_inside v l.0 in (kept v).1 (inside, l.0, ⊎_elim (λ (s : bit undelayed v ≡ true). absurd ((undelayed_is v inside).0 s l.1)) (λ (f : bit undelayed v ≡ false). f) (cases_Bool (bit undelayed v))),
    );
  }

module _ (events : List Event) (event : ℕ → Event) (listed : AreListed events event) where
  -- what is kept by the list of events is kept by the events
  pub kept_listed : (kept : List ℕ) (undelayed : List Bool)
      → ((v : ℕ) → Contains kept v ↔ ((v < length events) × (get_or events v Occurs ≡ Occurs) × (bit undelayed v ≡ false)))
      → (v : ℕ) → Contains kept v ↔ ((v < length events) × (event v ≡ Occurs) × (bit undelayed v ≡ false))
  kept_listed kept undelayed are v = (
    λ c. let b = (are v).0 c in (b.0, sym (listed v b.0) ∙ b.1, b.2),
    λ b. (are v).1 (b.0, listed v b.0 ∙ b.1, b.2),
  )

-- listed events, with nothing done past the points
module _ (events : List Event) where
  pub event_listed : AreListed events (event_at events)
  event_listed v h = get_or_default events v Occurs Passes h

  pub occurrence_listed : (v : ℕ) → event_at events v ≡ Occurs → v < length events
  occurrence_listed v o =
      ⊎_elim
      (λ (lt : v < length events). lt)
      (λ (ge : length events ≤ v). let p : event_at events v ≡ Passes = get_or_past events v Passes ge in let f : Passes ≡ Occurs = sym p ∙ o in cc)
      (cases_lt v (length events))
