-- Where an expression is available and where it is wanted, from arc to arc and along the steps of a block.
use Rattle.std.proofs.Common.{◌≡◌, ◌<◌, ◌⊎◌, ◌↔◌, ℕ, Bool, true, false, List, [], ◌∷◌, ◌++◌, length, refl, sym, ap, ◌∙◌, subst, inl, inr}
use Rattle.std.specs.List.{AllByRecursion}
use Rattle.std.proofs.lemmas.Bool.{false≢true}
use Rattle.std.proofs.lemmas.List.Elements.{All-nil, All-cons}
use Rattle.expressions.specs.declared.syntax.Event.{Event}
use Rattle.expressions.specs.declared.syntax.Event.TheVariants.{Occurs, Kills, Bars, Passes}
use Rattle.flow_paths.specs.declared.marks.Mark.{Mark}
use Rattle.flow_paths.specs.declared.marks.Mark.TheVariants.{Write, Kill, Pass}
use Rattle.flow_paths.specs.Paths.{source, target, IsPath, Connects, Place, at_point, on_edge, met, IsValid}
use Rattle.flow_paths.specs.Marks.{ValidBy}
use Rattle.flow_paths.proofs.PathLemmas.{IsPath-append, IsPath-one}
use Rattle.flow_paths.proofs.Validity.{after_mark, carried, carried-append, carried-valid, valid-carried, met-append, Connects-step}
use Rattle.placement.specs.Placements as placements
use Rattle.local_sets.specs.Heads.{mark_of_event}
use Rattle.local_sets.specs.Reaching.{OccursAt, IsAvailable, IsWanted}
use Rattle.best_placement.specs.Blocks.{IsStretch, last_point}
use Rattle.best_placement.specs.BlockNetwork.{event_after, first_event, last_event}

-- neither occurs nor kills
abbrev pub IsQuiet : Event → Type 0
IsQuiet k = (k ≡ Occurs → ⊥) × (k ≡ Kills → ⊥)

mark_writes : (k : Event) → mark_of_event k ≡ Write → k ≡ Occurs
mark_writes Occurs h = refl
mark_writes Kills h = absurd cc
mark_writes Bars h = absurd cc
mark_writes Passes h = absurd cc

mark_kills : (k : Event) → mark_of_event k ≡ Kill → k ≡ Kills
mark_kills Occurs h = absurd cc
mark_kills Kills h = refl
mark_kills Bars h = absurd cc
mark_kills Passes h = absurd cc

-- what was there behind an event was there before it, unless it occurs
there_before : (k : Event) (there : Bool) → (k ≡ Occurs → ⊥) → after_mark (mark_of_event k) there ≡ true → there ≡ true
there_before Occurs there other h = absurd (other refl)
there_before Kills there other h = absurd cc
there_before Bars there other h = h
there_before Passes there other h = h

quiet_parts : (k rest : Event) → IsQuiet (event_after k rest) → IsQuiet k × IsQuiet rest
quiet_parts Occurs rest h = absurd (h.0 refl)
quiet_parts Kills rest h = absurd (h.1 refl)
quiet_parts Bars rest h = (((λ e. absurd cc), (λ e. absurd cc)), h)
quiet_parts Passes rest h = (((λ e. absurd cc), (λ e. absurd cc)), h)

occurs_first : (k rest : Event) → event_after k rest ≡ Occurs → (k ≡ Occurs) ⊎ ((k ≡ Kills → ⊥) × (rest ≡ Occurs))
occurs_first Occurs rest h = inl refl
occurs_first Kills rest h = absurd cc
occurs_first Bars rest h = inr ((λ e. absurd cc), h)
occurs_first Passes rest h = inr ((λ e. absurd cc), h)

kills_last : (k before : Event) → event_after k before ≡ Kills → (k ≡ Kills) ⊎ ((k ≡ Occurs → ⊥) × (before ≡ Kills))
kills_last Occurs before h = absurd cc
kills_last Kills before h = inl refl
kills_last Bars before h = inr ((λ e. absurd cc), h)
kills_last Passes before h = inr ((λ e. absurd cc), h)

-- the events say what occurs and what kills
pub record AreEvents (Is : ℕ → Event → Type 0) (event : ℕ → Event) : Type 0 where
  pub occurs : (v : ℕ) → Is v Occurs ↔ (event v ≡ Occurs)
  pub kills : (v : ℕ) → Is v Kills ↔ (event v ≡ Kills)

module _ (arcs : List (ℕ × ℕ)) (Is : ℕ → Event → Type 0) (event : ℕ → Event) (are : AreEvents Is event) where
  abbrev Available : ℕ → Type 0
  Available v = IsAvailable arcs Is v

  abbrev Wanted : ℕ → Type 0
  Wanted v = IsWanted arcs Is v

  abbrev mark : Place → Mark
  mark (at_point v) = mark_of_event (event v)
  mark (on_edge e) = Pass

  -- ---- available at the end of an arc

  writes_marked : (m : Place) → OccursAt Is m → mark m ≡ Write
  writes_marked (at_point v) w = ap mark_of_event ((are.occurs v).0 w)
  writes_marked (on_edge e) w = absurd w

  marked_writes : (m : Place) → mark m ≡ Write → OccursAt Is m
  marked_writes (at_point v) w = (are.occurs v).1 (mark_writes (event v) w)
  marked_writes (on_edge e) w = absurd cc

  kills_marked : (m : Place) → placements.Kills Is m → mark m ≡ Kill
  kills_marked (at_point v) w = ap mark_of_event ((are.kills v).0 w)
  kills_marked (on_edge e) w = absurd w

  marked_kills : (m : Place) → mark m ≡ Kill → placements.Kills Is m
  marked_kills (at_point v) w = (are.kills v).1 (mark_kills (event v) w)
  marked_kills (on_edge e) w = absurd cc

  carried_there : (places : List Place) → IsValid (OccursAt Is) (placements.Kills Is) places → carried mark places false ≡ true
  carried_there places v = carried-valid mark places false (record {
    before = v.before;
    write = v.write;
    after = v.after;
    split = v.split;
    writes = writes_marked v.write v.writes;
    unkilled = λ k d h killed. v.unkilled k d h (marked_kills _ killed);
  })

  there_carried : (places : List Place) → carried mark places false ≡ true → IsValid (OccursAt Is) (placements.Kills Is) places
  there_carried places h =
      let v : ValidBy mark places = valid-carried mark places h in
      record {
        before = v.before;
        write = v.write;
        after = v.after;
        split = v.split;
        writes = marked_writes v.write v.writes;
        unkilled = λ k d l killed. v.unkilled k d l (kills_marked _ killed);
      }

  -- what a path with one arc more carries
  carried_more : (e : ℕ) → e < length arcs → (path : List ℕ) → IsPath arcs 0 path (source arcs e) → Available (target arcs e) → after_mark (mark_of_event (event (source arcs e))) (carried mark (met arcs path) false) ≡ true
  carried_more e lt path leads a =
      let whole = a (path ++ e ∷ []) (IsPath-append arcs 0 path (source arcs e) (e ∷ []) (target arcs e) leads (IsPath-one arcs e lt)) in
      sym (carried-append mark (met arcs path) (met arcs (e ∷ [])) false) ∙ ap (λ places. carried mark places false) (sym (met-append arcs path (e ∷ []))) ∙ carried_there (met arcs (path ++ e ∷ [])) whole

  available_before : (e : ℕ) → e < length arcs → (event (source arcs e) ≡ Occurs → ⊥) → Available (target arcs e) → Available (source arcs e)
  available_before e lt other a path leads = there_carried (met arcs path) (there_before (event (source arcs e)) (carried mark (met arcs path) false) other (carried_more e lt path leads a))

  -- nothing is available behind a kill that some path reaches, nor at Start
  not_behind_kill : (e : ℕ) → e < length arcs → Connects arcs 0 (source arcs e) → event (source arcs e) ≡ Kills → Available (target arcs e) → ⊥
  not_behind_kill e lt reached kill a = false≢true (ap (λ k. after_mark (mark_of_event k) (carried mark (met arcs reached.path) false)) (sym kill) ∙ carried_more e lt reached.path reached.leads a)

  not_at_start : Available 0 → ⊥
  not_at_start a = false≢true (carried_there [] (a [] refl))

  pub available_over : (e u w : ℕ) → e < length arcs → source arcs e ≡ u → target arcs e ≡ w → (event u ≡ Occurs → ⊥) → Available w → Available u
  available_over e u w lt from to other a = subst Available from (available_before e lt (λ o. other (sym (ap event from) ∙ o)) (subst Available (sym to) a))

  pub not_entered : (e w : ℕ) → e < length arcs → source arcs e ≡ 0 → target arcs e ≡ w → event 0 ≡ Passes → Available w → ⊥
  not_entered e w lt from to passes a = not_at_start (available_over e 0 w lt from to (λ o. let same : Passes ≡ Occurs = sym passes ∙ o in cc) a)

  -- ---- wanted at the begin of an arc

  wanted_here : (v : ℕ) → event v ≡ Occurs → Wanted v
  wanted_here v is = record { path = []; occurrence = v; leads = refl; occurs = (are.occurs v).1 is; unkilled = All-nil (λ m. ¬ placements.Kills Is m) }

  wanted_before : (e : ℕ) → e < length arcs → (event (source arcs e) ≡ Kills → ⊥) → Wanted (target arcs e) → Wanted (source arcs e)
  wanted_before e lt other w = record {
    path = e ∷ w.path;
    occurrence = w.occurrence;
    leads = (lt, refl, w.leads);
    occurs = w.occurs;
    unkilled =
        All-cons (λ m. ¬ placements.Kills Is m) (at_point (source arcs e)) (on_edge e ∷ met arcs w.path) (λ k. other ((are.kills (source arcs e)).0 k))
        (All-cons (λ m. ¬ placements.Kills Is m) (on_edge e) (met arcs w.path) (λ k. k) w.unkilled);
  }

  pub wanted_over : (e u w : ℕ) → e < length arcs → source arcs e ≡ u → target arcs e ≡ w → (event u ≡ Kills → ⊥) → Wanted w → Wanted u
  wanted_over e u w lt from to other h = subst Wanted from (wanted_before e lt (λ k. other (sym (ap event from) ∙ k)) (subst Wanted (sym to) h))

  -- ---- along the steps of a block

  abbrev Inside : List (ℕ × ℕ) → Type 0
  Inside steps = AllByRecursion (λ s. s.0 < length arcs) steps

  -- where the first event is an occurrence, it is wanted
  pub wanted_first : (u : ℕ) (steps : List (ℕ × ℕ)) → (event u ≡ Kills → ⊥) → IsStretch arcs u steps → Inside steps → first_event event steps ≡ Occurs → Wanted u
  wanted_first u [] other leads inside first = absurd cc
  wanted_first u (s ∷ steps) other leads inside first = wanted_over s.0 u s.1 inside.0 leads.0 leads.1 other (elim (occurs_first (event s.1) (first_event event steps) first) [
    | inl here ↦ wanted_here s.1 here
    | inr later ↦ wanted_first s.1 steps later.0 leads.2 inside.1 later.1
  ])

  module _ (exit end : ℕ) (within : exit < length arcs) (ends : target arcs exit ≡ end) where
    -- without an event, what holds at the end of the block holds at its begin
    pub wanted_across : (u : ℕ) (steps : List (ℕ × ℕ)) → (event u ≡ Kills → ⊥) → IsStretch arcs u steps → Inside steps → source arcs exit ≡ last_point u steps → IsQuiet (first_event event steps) → Wanted end → Wanted u
    wanted_across u [] other leads inside leaves quiet w = wanted_over exit u end within leaves ends other w
    wanted_across u (s ∷ steps) other leads inside leaves quiet w =
        let parts = quiet_parts (event s.1) (first_event event steps) quiet in
        wanted_over s.0 u s.1 inside.0 leads.0 leads.1 other (wanted_across s.1 steps parts.0.1 leads.2 inside.1 leaves parts.1 w)

    pub available_across : (u : ℕ) (steps : List (ℕ × ℕ)) → (event u ≡ Occurs → ⊥) → IsStretch arcs u steps → Inside steps → source arcs exit ≡ last_point u steps → IsQuiet (first_event event steps) → Available end → Available u
    available_across u [] other leads inside leaves quiet a = available_over exit u end within leaves ends other a
    available_across u (s ∷ steps) other leads inside leaves quiet a =
        let parts = quiet_parts (event s.1) (first_event event steps) quiet in
        available_over s.0 u s.1 inside.0 leads.0 leads.1 other (available_across s.1 steps parts.0.0 leads.2 inside.1 leaves parts.1 a)

    -- behind a point with a kill as the last event nothing is available
    abbrev IsLost : ℕ → Event → Type 0
    IsLost u last = last ≡ Kills → (e : ℕ) → e < length arcs → source arcs e ≡ u → Available (target arcs e) → ⊥

    lost_along : (u : ℕ) (before : Event) (steps : List (ℕ × ℕ)) → Connects arcs 0 u → IsStretch arcs u steps → Inside steps → IsLost u before → IsLost (last_point u steps) (last_event event before steps)
    lost_along u before [] reached leads inside lost = lost
    lost_along u before (s ∷ steps) reached leads inside lost =
        let next : Connects arcs 0 s.1 = subst (Connects arcs 0) leads.1 (Connects-step arcs 0 s.0 inside.0 (subst (Connects arcs 0) (sym leads.0) reached)) in
        lost_along s.1 (event_after (event s.1) before) steps next leads.2 inside.1 (λ same e lt from a. elim (kills_last (event s.1) before same) [
          | inl kill ↦ not_behind_kill e lt (subst (Connects arcs 0) (sym from) next) (ap event from ∙ kill) a
          | inr earlier ↦ lost earlier.1 s.0 inside.0 leads.0 (subst Available (sym leads.1) (available_over e s.1 (target arcs e) lt from refl earlier.0 a))
        ])

    pub not_behind_last_kill : (u : ℕ) (steps : List (ℕ × ℕ)) → Connects arcs 0 u → IsStretch arcs u steps → Inside steps → source arcs exit ≡ last_point u steps → last_event event Passes steps ≡ Kills → Available end → ⊥
    not_behind_last_kill u steps reached leads inside leaves last a =
        lost_along u Passes steps reached leads inside (λ same. absurd cc) last exit within leaves (subst Available (sym ends) a)
