-- The lazy placement is safe and correct.
use Rattle.std.proofs.Common.{◌≡◌, ◌≢◌, ℕ, ◌<◌, get_or, Bool, true, false, List, [], ◌∷◌, ◌++◌, length, refl, sym, ◌∙◌, subst, ◌⊎◌, inl, inr, ⊎_elim, ◌↔◌}
use Rattle.std.specs.List.Sorted.{IsStrictlyIncreasing}
use Rattle.std.proofs.lemmas.Bool.{cases_Bool}
use Rattle.std.proofs.lemmas.List.Elements.{Contains-get_or}
use Rattle.expressions.specs.declared.syntax.Event.{Event}
use Rattle.expressions.specs.declared.syntax.Event.TheVariants.{Occurs, Kills as KillsIt, Bars, Passes}
use Rattle.flow_paths.specs.Paths.{source, target, ArcsWithin, IsPath, Connects, Place, at_point, met, IsValid}
use Rattle.flow_paths.specs.Spreads.{IsSet}
use Rattle.flow_paths.specs.Inevitable.{LeadsAllTo}
use Rattle.placement.specs.declared.placements.Placement.{Placement}
use Rattle.placement.specs.Placements.{Writes, Kills, IsCorrect, IsValidPath, IsInevitable, IsSafe}
use Rattle.best_placement.specs.Blocks.{HasEvent}
use Rattle.best_choice.specs.Best.{IsPlacementOn}
use Rattle.lazy_motion.specs.Motion.{IsOccurrence, IsEarly, IsEarlyPlace, IsDelayedOn, IsDelayedAt, IsLazy}
use Rattle.lazy_motion.specs.Steps.{bit}
use Rattle.lazy_motion.proofs.InevitableLemmas.{inevitable_ahead}
use Rattle.lazy_motion.proofs.MotionBits.{delayed_stable}
use Rattle.lazy_motion.proofs.PathSteps.{occurs_or_not, kills_or_not, path_induction, IsPath-push, IsValid-nil, IsValid-last, edge_writes, edge_last, edge_keeps, point_writes, path_keeps}

-- arcs join points, Start passes, occurrences are points, and some path leads to each point
pub record Graph (arcs : List (ℕ × ℕ)) (n : ℕ) (event : ℕ → Event) : Type 0 where
  pub start : 0 < n
  pub passes : event 0 ≡ Passes
  pub inside : (v : ℕ) → event v ≡ Occurs → v < n
  pub within : ArcsWithin arcs n
  pub reached : (v : ℕ) → v < n → Connects arcs 0 v

-- bits that decide what is inevitable, early and delayed
pub record Decided (arcs : List (ℕ × ℕ)) (n : ℕ) (event : ℕ → Event) (ahead early delayed undelayed : List Bool) : Type 0 where
  pub ahead_is : (v : ℕ) → v < n → IsSet ahead v ↔ IsInevitable arcs (HasEvent event) v
  pub early_is : (e : ℕ) → e < length arcs → IsSet early e ↔ IsEarly arcs (HasEvent event) e
  pub delayed_is : (e : ℕ) → e < length arcs → IsSet delayed e ↔ IsDelayedOn arcs (HasEvent event) e
  pub undelayed_is : (v : ℕ) → v < n → IsSet undelayed v ↔ ¬ IsDelayedAt arcs (HasEvent event) v

-- a graph, and bits that decide what is inevitable, early and delayed in it
pub record Given (arcs : List (ℕ × ℕ)) (n : ℕ) (event : ℕ → Event) : Type 0 where
  pub graph : Graph arcs n event
  pub ahead : List Bool
  pub early : List Bool
  pub delayed : List Bool
  pub undelayed : List Bool
  pub bits : Decided arcs n event ahead early delayed undelayed

decided : (bits : List Bool) (k : ℕ) (P : Type 0) → (IsSet bits k ↔ P) → P ⊎ (P → ⊥)
decided bits k P is = ⊎_elim
    (λ (t : bit bits k ≡ true). inl (is.0 t))
    (λ (f : bit bits k ≡ false). inr (λ p. let t : bit bits k ≡ true = is.1 p in cc))
    (cases_Bool (bit bits k))

module _ (arcs : List (ℕ × ℕ)) (n : ℕ) (event : ℕ → Event) (given : Given arcs n event) where
  abbrev pub Computed : List ℕ → Type 0
  Computed path = IsValid (IsOccurrence (HasEvent event)) (Kills (HasEvent event)) (met arcs path)

  abbrev pub Begun : List ℕ → Type 0
  Begun path = IsValid (IsEarlyPlace arcs (HasEvent event)) (IsOccurrence (HasEvent event)) (met arcs path)

  pub not_start : (v : ℕ) → event v ≡ Occurs → v ≢ 0
  not_start v o z = let p : event 0 ≡ Passes = given.graph.passes in let q : event 0 ≡ Occurs = subst (λ x. event x ≡ Occurs) z o in let f : Passes ≡ Occurs = sym p ∙ q in cc

  pub occurrence_inevitable : (v : ℕ) → event v ≡ Occurs → IsInevitable arcs (HasEvent event) v
  occurrence_inevitable v o = (0, (not_start v o, o))

  -- an inevitable point that does not occur kills nothing and leads to inevitable points alone
  pub inevitable_next : (v : ℕ) → IsInevitable arcs (HasEvent event) v → event v ≢ Occurs → (event v ≢ KillsIt) × ((e : ℕ) → e < length arcs → source arcs e ≡ v → IsInevitable arcs (HasEvent event) (target arcs e))
  inevitable_next v i o = ⊎_elim
      (λ (h : event v ≡ Occurs). absurd (o h))
      (λ (p : (event v ≢ KillsIt) × (event v ≢ Bars) × LeadsAllTo arcs (λ w. IsInevitable arcs (HasEvent event) w) v). (p.0, p.2.all))
      (inevitable_ahead arcs event v i).1

  -- where a path has crossed an early edge since its last occurrence, an occurrence is inevitable
  pub begun_inevitable : (path : List ℕ) (v : ℕ) → IsPath arcs 0 path v → Begun path → IsInevitable arcs (HasEvent event) v
  begun_inevitable = path_induction arcs (λ path v. Begun path → IsInevitable arcs (HasEvent event) v)
      (λ b. absurd (IsValid-nil (IsEarlyPlace arcs (HasEvent event)) (IsOccurrence (HasEvent event)) b))
      (λ path e h k before b. ⊎_elim
      (λ (i : IsEarly arcs (HasEvent event) e). i.inevitable)
      (λ (p : (⊥ → ⊥) × IsValid (IsEarlyPlace arcs (HasEvent event)) (IsOccurrence (HasEvent event)) (met arcs path ++ at_point (source arcs e) ∷ [])). ⊎_elim
      (λ (x : ⊥). absurd x)
      (λ (q : (¬ (event (source arcs e) ≡ Occurs)) × Begun path). (inevitable_next (source arcs e) (before q.1) q.0).1 e h refl)
      (IsValid-last (IsEarlyPlace arcs (HasEvent event)) (IsOccurrence (HasEvent event)) (met arcs path) (at_point (source arcs e)) p.1))
      (edge_last (IsEarlyPlace arcs (HasEvent event)) (IsOccurrence (HasEvent event)) arcs path e b))

  pub early_delayed : (e : ℕ) → IsEarly arcs (HasEvent event) e → IsDelayedOn arcs (HasEvent event) e
  early_delayed e i path k = edge_writes (IsEarlyPlace arcs (HasEvent event)) (IsOccurrence (HasEvent event)) arcs path e i

  -- what a delayed edge that isn't early says of a path before it
  pub begun_before : (e : ℕ) → IsDelayedOn arcs (HasEvent event) e → ¬ IsEarly arcs (HasEvent event) e → (path : List ℕ) → IsPath arcs 0 path (source arcs e) → (event (source arcs e) ≢ Occurs) × Begun path
  begun_before e d fails path k = ⊎_elim
      (λ (i : IsEarly arcs (HasEvent event) e). absurd (fails i))
      (λ (p : (⊥ → ⊥) × IsValid (IsEarlyPlace arcs (HasEvent event)) (IsOccurrence (HasEvent event)) (met arcs path ++ at_point (source arcs e) ∷ [])). ⊎_elim
      (λ (x : ⊥). absurd x)
      (λ (q : (¬ (event (source arcs e) ≡ Occurs)) × Begun path). q)
      (IsValid-last (IsEarlyPlace arcs (HasEvent event)) (IsOccurrence (HasEvent event)) (met arcs path) (at_point (source arcs e)) p.1))
      (edge_last (IsEarlyPlace arcs (HasEvent event)) (IsOccurrence (HasEvent event)) arcs path e (d path k))

  -- a delayed edge that isn't early leaves a delayed point
  pub delayed_before : (e : ℕ) → IsDelayedOn arcs (HasEvent event) e → ¬ IsEarly arcs (HasEvent event) e → IsDelayedAt arcs (HasEvent event) (source arcs e)
  delayed_before e d fails = (
    λ z. IsValid-nil (IsEarlyPlace arcs (HasEvent event)) (IsOccurrence (HasEvent event)) (begun_before e d fails [] (sym z)).1,
    λ f h t path k. (begun_before e d fails (path ++ f ∷ []) (subst (IsPath arcs 0 (path ++ f ∷ [])) t (IsPath-push arcs path f h k))).1,
  )

  -- each path to a delayed point has crossed an early edge since its last occurrence
  pub delayed_begun : (path : List ℕ) (v : ℕ) → IsPath arcs 0 path v → IsDelayedAt arcs (HasEvent event) v → Begun path
  delayed_begun = path_induction arcs (λ path v. IsDelayedAt arcs (HasEvent event) v → Begun path)
      (λ d. absurd (d.0 refl))
      (λ path e h k before d. d.1 e h refl path k)

  -- the edges that leave a delayed point are delayed, unless it occurs
  pub delayed_behind : (e : ℕ) → IsDelayedAt arcs (HasEvent event) (source arcs e) → event (source arcs e) ≢ Occurs → IsDelayedOn arcs (HasEvent event) e
  delayed_behind e d o path k = path_keeps (IsEarlyPlace arcs (HasEvent event)) (IsOccurrence (HasEvent event)) arcs path e (λ x. x) o (delayed_begun path (source arcs e) k d)

  pub computed_or_not : (path : List ℕ) (v : ℕ) → IsPath arcs 0 path v → Computed path ⊎ (Computed path → ⊥)
  computed_or_not = path_induction arcs (λ path v. Computed path ⊎ (Computed path → ⊥))
      (inr (IsValid-nil (IsOccurrence (HasEvent event)) (Kills (HasEvent event))))
      (λ path e h k before. ⊎_elim
      (λ (o : event (source arcs e) ≡ Occurs). inl (point_writes (IsOccurrence (HasEvent event)) (Kills (HasEvent event)) arcs path e (λ x. x) o))
      (λ (o : event (source arcs e) ≢ Occurs). ⊎_elim
      (λ (c : (event (source arcs e) ≢ KillsIt) × Computed path). inl (path_keeps (IsOccurrence (HasEvent event)) (Kills (HasEvent event)) arcs path e (λ x. x) c.0 c.1))
      (λ (fails : (event (source arcs e) ≢ KillsIt) × Computed path → ⊥). inr (λ c. ⊎_elim
      (λ (x : ⊥). x)
      (λ (p : (⊥ → ⊥) × IsValid (IsOccurrence (HasEvent event)) (Kills (HasEvent event)) (met arcs path ++ at_point (source arcs e) ∷ [])). ⊎_elim
      o
      fails
      (IsValid-last (IsOccurrence (HasEvent event)) (Kills (HasEvent event)) (met arcs path) (at_point (source arcs e)) p.1))
      (edge_last (IsOccurrence (HasEvent event)) (Kills (HasEvent event)) arcs path e c)))
      (both (event (source arcs e)) (Computed path) before))
      (occurs_or_not (event (source arcs e))))
    where
      both : (k : Event) (P : Type 0) → P ⊎ (P → ⊥) → ((k ≢ KillsIt) × P) ⊎ ((k ≢ KillsIt) × P → ⊥)
      both k P d = ⊎_elim
          (λ (kills : k ≡ KillsIt). inr (λ p. p.0 kills))
          (λ (fails : k ≢ KillsIt). ⊎_elim (λ (p : P). inl (fails, p)) (λ (np : P → ⊥). inr (λ p. np p.1)) d)
          (kills_or_not k)

  pub inevitable_or_not : (v : ℕ) → v < n → IsInevitable arcs (HasEvent event) v ⊎ (IsInevitable arcs (HasEvent event) v → ⊥)
  inevitable_or_not v h = decided given.ahead v (IsInevitable arcs (HasEvent event) v) (given.bits.ahead_is v h)

  pub early_or_not : (e : ℕ) → e < length arcs → IsEarly arcs (HasEvent event) e ⊎ (IsEarly arcs (HasEvent event) e → ⊥)
  early_or_not e h = decided given.early e (IsEarly arcs (HasEvent event) e) (given.bits.early_is e h)

  pub delayed_or_not : (e : ℕ) → e < length arcs → IsDelayedOn arcs (HasEvent event) e ⊎ (IsDelayedOn arcs (HasEvent event) e → ⊥)
  delayed_or_not e h = decided given.delayed e (IsDelayedOn arcs (HasEvent event) e) (given.bits.delayed_is e h)

  pub delayed_at_or_not : (v : ℕ) → v < n → IsDelayedAt arcs (HasEvent event) v ⊎ (IsDelayedAt arcs (HasEvent event) v → ⊥)
  delayed_at_or_not v h = ⊎_elim
      (λ (fails : ¬ IsDelayedAt arcs (HasEvent event) v). inr fails)
      (λ (nn : ¬ ¬ IsDelayedAt arcs (HasEvent event) v). inl (delayed_stable arcs event n given.delayed given.bits.delayed_is v nn))
      (decided given.undelayed v (¬ IsDelayedAt arcs (HasEvent event) v) (given.bits.undelayed_is v h))

  -- an edge into the inevitable points that isn't early is one before which every path is computed
  pub computed_behind : (path : List ℕ) (e : ℕ) → e < length arcs → IsPath arcs 0 path (source arcs e) → IsInevitable arcs (HasEvent event) (target arcs e) → ¬ IsInevitable arcs (HasEvent event) (source arcs e) → ¬ IsEarly arcs (HasEvent event) e → Computed (path ++ e ∷ [])
  computed_behind path e h k i fails not_early = ⊎_elim
      (λ (c : Computed (path ++ e ∷ [])). c)
      (λ (nc : Computed (path ++ e ∷ []) → ⊥). absurd (not_early (record {
        inevitable = i;
        not_before = fails;
        path = path;
        leads = k;
        not_computed = λ c. nc (edge_keeps (IsOccurrence (HasEvent event)) (Kills (HasEvent event)) arcs path e (λ x. x) c);
      })))
      (computed_or_not (path ++ e ∷ []) (target arcs e) (IsPath-push arcs path e h k))

  module _ (p : Placement) (lazy : IsLazy arcs (HasEvent event) p) where
    abbrev W : Place → Type 0
    W m = Writes (HasEvent event) p m

    abbrev K : Place → Type 0
    K m = Kills (HasEvent event) m

    pub lazy_safe : IsSafe arcs (HasEvent event) p
    lazy_safe e c =
        let l = (lazy.inserted e).0 c in
        let r = given.graph.reached (source arcs e) (given.graph.within e l.is_edge).0 in
        begun_inevitable (r.path ++ e ∷ []) (target arcs e) (IsPath-push arcs r.path e l.is_edge r.leads) (l.delayed r.path r.leads)

    -- ascending lists of what is inserted and kept lie in the graph
    pub lazy_placed : IsStrictlyIncreasing p.inserted → IsStrictlyIncreasing p.kept → IsPlacementOn arcs n (HasEvent event) p
    lazy_placed inserted kept = record {
      inserted_order = inserted;
      edges = λ k d h. ((lazy.inserted (get_or p.inserted k d)).0 (Contains-get_or p.inserted k d h)).is_edge;
      kept_order = kept;
      points = λ k d h. given.graph.inside (get_or p.kept k d) ((lazy.kept (get_or p.kept k d)).0 (Contains-get_or p.kept k d h)).0;
      occurrences = λ k d h. ((lazy.kept (get_or p.kept k d)).0 (Contains-get_or p.kept k d h)).0;
    }

    -- a path that is computed is valid, and one to an inevitable point is valid unless the point is delayed
    pub record Covered (path : List ℕ) (v : ℕ) : Type 0 where
      pub computed : Computed path → IsValidPath arcs (HasEvent event) p path
      pub inevitable : IsInevitable arcs (HasEvent event) v → IsDelayedAt arcs (HasEvent event) v ⊎ IsValidPath arcs (HasEvent event) p path

    covered_point : (path : List ℕ) (e : ℕ) → e < length arcs → Covered path (source arcs e) → event (source arcs e) ≡ Occurs → IsValidPath arcs (HasEvent event) p (path ++ e ∷ [])
    covered_point path e h c o =
        let inside = (given.graph.within e h).0 in ⊎_elim
        (λ (d : IsDelayedAt arcs (HasEvent event) (source arcs e)). point_writes W K arcs path e (λ x. x) (o, (lazy.kept (source arcs e)).1 (o, d)))
        (λ (fails : IsDelayedAt arcs (HasEvent event) (source arcs e) → ⊥). ⊎_elim
        (λ (d : IsDelayedAt arcs (HasEvent event) (source arcs e)). absurd (fails d))
        (λ (v : IsValidPath arcs (HasEvent event) p path). path_keeps W K arcs path e (λ x. x) (λ k. let f : Occurs ≡ KillsIt = sym o ∙ k in cc) v)
        (c.inevitable (occurrence_inevitable (source arcs e) o)))
        (delayed_at_or_not (source arcs e) inside)

    covered_computed : (path : List ℕ) (e : ℕ) → e < length arcs → Covered path (source arcs e) → Computed (path ++ e ∷ []) → IsValidPath arcs (HasEvent event) p (path ++ e ∷ [])
    covered_computed path e h c v = ⊎_elim
        (λ (x : ⊥). absurd x)
        (λ (q : (⊥ → ⊥) × IsValid (IsOccurrence (HasEvent event)) (Kills (HasEvent event)) (met arcs path ++ at_point (source arcs e) ∷ [])). ⊎_elim
        (λ (o : event (source arcs e) ≡ Occurs). covered_point path e h c o)
        (λ (r : (¬ (event (source arcs e) ≡ KillsIt)) × Computed path). path_keeps W K arcs path e (λ x. x) r.0 (c.computed r.1))
        (IsValid-last (IsOccurrence (HasEvent event)) (Kills (HasEvent event)) (met arcs path) (at_point (source arcs e)) q.1))
        (edge_last (IsOccurrence (HasEvent event)) (Kills (HasEvent event)) arcs path e v)

    -- over an edge that isn't delayed into the inevitable points
    covered_undelayed : (path : List ℕ) (e : ℕ) → e < length arcs → IsPath arcs 0 path (source arcs e) → Covered path (source arcs e) → IsInevitable arcs (HasEvent event) (target arcs e) → ¬ IsDelayedOn arcs (HasEvent event) e → IsValidPath arcs (HasEvent event) p (path ++ e ∷ [])
    covered_undelayed path e h k c i fails = ⊎_elim
        (λ (j : IsInevitable arcs (HasEvent event) (source arcs e)). ⊎_elim
        (λ (o : event (source arcs e) ≡ Occurs). covered_point path e h c o)
        (λ (o : event (source arcs e) ≢ Occurs). ⊎_elim
        (λ (d : IsDelayedAt arcs (HasEvent event) (source arcs e)). absurd (fails (delayed_behind e d o)))
        (λ (v : IsValidPath arcs (HasEvent event) p path). path_keeps W K arcs path e (λ x. x) (inevitable_next (source arcs e) j o).0 v)
        (c.inevitable j))
        (occurs_or_not (event (source arcs e))))
        (λ (j : IsInevitable arcs (HasEvent event) (source arcs e) → ⊥). covered_computed path e h c (computed_behind path e h k i j (λ early. fails (early_delayed e early))))
        (inevitable_or_not (source arcs e) (given.graph.within e h).0)

    pub covered : (path : List ℕ) (v : ℕ) → IsPath arcs 0 path v → Covered path v
    covered = path_induction arcs Covered
        (record {
          computed = λ c. absurd (IsValid-nil (IsOccurrence (HasEvent event)) (Kills (HasEvent event)) c);
          inevitable = λ i. absurd ((inevitable_ahead arcs event 0 i).0 refl);
        })
        (λ path e h k c. record {
          computed = covered_computed path e h c;
          inevitable = λ i. ⊎_elim
              (λ (d : IsDelayedAt arcs (HasEvent event) (target arcs e)). inl d)
              (λ (fails : IsDelayedAt arcs (HasEvent event) (target arcs e) → ⊥). inr (⊎_elim
              (λ (on : IsDelayedOn arcs (HasEvent event) e). edge_writes W K arcs path e ((lazy.inserted e).1 (record { is_edge = h; delayed = on; not_after = fails })))
              (λ (not_on : IsDelayedOn arcs (HasEvent event) e → ⊥). covered_undelayed path e h k c i not_on)
              (delayed_or_not e h)))
              (delayed_at_or_not (target arcs e) (given.graph.within e h).1);
        })

    pub lazy_correct : IsCorrect arcs (HasEvent event) p
    lazy_correct v path deleted k = ⊎_elim
        (λ (d : IsDelayedAt arcs (HasEvent event) v). absurd (deleted.1 ((lazy.kept v).1 (deleted.0, d))))
        (λ (valid : IsValidPath arcs (HasEvent event) p path). valid)
        ((covered path v k).inevitable (occurrence_inevitable v deleted.0))
