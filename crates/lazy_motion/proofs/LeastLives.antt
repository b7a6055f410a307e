-- A safe correct placement that computes as few as the lazy one is live wherever that is.
use Rattle.std.proofs.Common.{◌≡◌, ◌≢◌, ℕ, zero, suc, ◌<◌, ◌≤◌, ◌+◌, List, [], ◌∷◌, ◌++◌, length, refl, sym, ◌∙◌, subst, ap, inl, ⊎_elim, All, Contains, arith}
use Rattle.std.specs.Prelude.{sum_by}
use Rattle.std.proofs.lemmas.List.Elements.{All-head, All-tail}
use Rattle.std.proofs.lemmas.List.Sums.{sum_by-cons, sum_by_push}
use Rattle.expressions.specs.declared.syntax.Event.{Event}
use Rattle.expressions.specs.declared.syntax.Event.TheVariants.{Occurs, Kills as KillsIt, Bars}
use Rattle.flow_paths.specs.Paths.{source, target, IsPath, Place, at_point, on_edge, met, IsValid}
use Rattle.flow_paths.specs.Inevitable.{LeadsAllTo}
use Rattle.flow_paths.proofs.PathLemmas.{IsPath-append}
use Rattle.flow_paths.proofs.Validity.{met-append}
use Rattle.placement.specs.declared.placements.Placement.{Placement}
use Rattle.placement.specs.Placements.{Writes, Kills, IsDeleted, IsCorrect, IsValidPath, IsLiveAt, IsLiveOn, IsInevitable, IsSafe}
use Rattle.best_placement.specs.Blocks.{HasEvent}
use Rattle.best_choice.specs.Best.{LivesWithin}
use Rattle.lazy_motion.specs.Motion.{IsDelayedOn, IsDelayedAt, IsLazy}
use Rattle.lazy_motion.specs.Optimality.{computations_at, computations, ComputesAtMost}
use Rattle.lazy_motion.proofs.InevitableLemmas.{IsInevitableIn, ahead_within, inevitable_ahead}
use Rattle.lazy_motion.proofs.LazyLemmas.{Given, delayed_behind, delayed_at_or_not}
use Rattle.lazy_motion.proofs.Counting.{early_at, count, early_count, counts_not_early, point_spent, spent, spent_end, Pending, earned, kept_unless_valid}
use Rattle.lazy_motion.proofs.PathSteps.{occurs_or_not, IsPath-push, IsValid-front, sum_met_append, All-from_zero, zero_from_All, counts_inserted, counts_not_inserted, counts_kept, counts_not_kept}

-- a place that adds nothing to the computations does not write
zero_unwritten : (event : ℕ → Event) (q : Placement) (m : Place) → computations_at q m ≡ 0 → ¬ Writes (HasEvent event) q m
zero_unwritten event q (at_point v) z w = let one : computations_at q (at_point v) ≡ 1 = counts_kept q v w.1 in absurd (omega arith)
zero_unwritten event q (on_edge e) z w = let one : computations_at q (on_edge e) ≡ 1 = counts_inserted q e w in absurd (omega arith)

not_kept : (q : Placement) (v : ℕ) → computations_at q (at_point v) ≡ 0 → Contains q.kept v → ⊥
not_kept q v z c = let one : computations_at q (at_point v) ≡ 1 = counts_kept q v c in absurd (omega arith)

not_inserted : (q : Placement) (e : ℕ) → computations_at q (on_edge e) ≡ 0 → Contains q.inserted e → ⊥
not_inserted q e z c = let one : computations_at q (on_edge e) ≡ 1 = counts_inserted q e c in absurd (omega arith)

-- what a sum says of a path that begins with an edge
sum_met_cons : (f : Place → ℕ) (arcs : List (ℕ × ℕ)) (e : ℕ) (path : List ℕ) → sum_by f (met arcs (e ∷ path)) ≡ f (at_point (source arcs e)) + (f (on_edge e) + sum_by f (met arcs path))
sum_met_cons f arcs e path = sum_by-cons f (at_point (source arcs e)) (on_edge e ∷ met arcs path) ∙ ap (λ k. f (at_point (source arcs e)) + k) (sum_by-cons f (on_edge e) (met arcs path))

module _ (arcs : List (ℕ × ℕ)) (n : ℕ) (event : ℕ → Event) (given : Given arcs n event) where
  -- a path from v to an occurrence that crosses no early edge
  pub record Ahead (v : ℕ) : Type 0 where
    pub rest : List ℕ
    pub occurrence : ℕ
    pub leads : IsPath arcs v rest occurrence
    pub occurs : event occurrence ≡ Occurs
    pub quiet : early_count arcs given.early rest ≡ 0

  pub path_ahead : (k v : ℕ) → IsInevitableIn arcs event k v → Ahead v
  path_ahead zero v i = record { rest = []; occurrence = v; leads = refl; occurs = i.1; quiet = refl }
  path_ahead (suc k) v i = ⊎_elim
      (λ (o : event v ≡ Occurs). record { rest = []; occurrence = v; leads = refl; occurs = o; quiet = refl })
      (λ (p : (event v ≢ KillsIt) × (event v ≢ Bars) × LeadsAllTo arcs (IsInevitableIn arcs event k) v).
      let next = path_ahead k (target arcs p.2.arc) (p.2.all p.2.arc p.2.is_arc p.2.leaves) in
      let here : IsInevitable arcs (HasEvent event) v = (suc k, i) in
      let sum : early_count arcs given.early (p.2.arc ∷ next.rest) ≡ 0 + (early_at given.early (on_edge p.2.arc) + early_count arcs given.early next.rest) = sum_met_cons (early_at given.early) arcs p.2.arc next.rest in
      let quiet : early_at given.early (on_edge p.2.arc) ≡ 0 = counts_not_early arcs n event given p.2.arc p.2.is_arc (λ e. e.not_before (subst (IsInevitable arcs (HasEvent event)) (sym p.2.leaves) here)) in
      let rest : early_count arcs given.early next.rest ≡ 0 = next.quiet in
      record {
        rest = p.2.arc ∷ next.rest;
        occurrence = next.occurrence;
        leads = (p.2.is_arc, p.2.leaves, next.leads);
        occurs = next.occurs;
        quiet = omega arith;
      })
      (ahead_within arcs event k v i).1

  module _ (p : Placement) (lazy : IsLazy arcs (HasEvent event) p) where
    lazy_zero : (m : Place) → ¬ Writes (HasEvent event) p m → computations_at p m ≡ 0
    lazy_zero (at_point v) w = counts_not_kept p v (λ c. w (((lazy.kept v).0 c).0, c))
    lazy_zero (on_edge e) w = counts_not_inserted p e w

    -- where the lazy placement still has to write before an occurrence that it deletes, it writes on the way there
    pub undelayed_live : (v : ℕ) (path : List ℕ) (occurrence : ℕ) → v < n → IsPath arcs v path occurrence → IsDeleted (HasEvent event) p occurrence → All (λ m. ¬ Writes (HasEvent event) p m) (met arcs path) → ¬ IsDelayedAt arcs (HasEvent event) v
    undelayed_live v [] occurrence h k deleted a d =
        deleted.1 ((lazy.kept occurrence).1 (deleted.0, subst (IsDelayedAt arcs (HasEvent event)) k d))
    undelayed_live v (e ∷ path) occurrence h k deleted a d =
        let W : Place → Type 0 = λ m. ¬ Writes (HasEvent event) p m in
        let inside = given.graph.within e k.0 in
        let at_source : IsDelayedAt arcs (HasEvent event) (source arcs e) = subst (IsDelayedAt arcs (HasEvent event)) (sym k.1) d in
        let later : All W (on_edge e ∷ met arcs path) = All-tail W (at_point (source arcs e)) (on_edge e ∷ met arcs path) a in
        ⊎_elim
        (λ (o : event (source arcs e) ≡ Occurs). All-head W (at_point (source arcs e)) (on_edge e ∷ met arcs path) a (o, (lazy.kept (source arcs e)).1 (o, at_source)))
        (λ (o : event (source arcs e) ≢ Occurs). ⊎_elim
        (λ (next : IsDelayedAt arcs (HasEvent event) (target arcs e)). undelayed_live (target arcs e) path occurrence inside.1 k.2 deleted (All-tail W (on_edge e) (met arcs path) later) next)
        (λ (fails : IsDelayedAt arcs (HasEvent event) (target arcs e) → ⊥). All-head W (on_edge e) (met arcs path) later ((lazy.inserted e).1 (record { is_edge = k.0; delayed = delayed_behind arcs n event given e at_source o; not_after = fails })))
        (delayed_at_or_not arcs n event given (target arcs e) inside.1))
        (occurs_or_not (event (source arcs e)))

    module _ (q : Placement) (correct : IsCorrect arcs (HasEvent event) q) (safe : IsSafe arcs (HasEvent event) q) (as_few : ComputesAtMost arcs (HasEvent event) q p) where
      -- where the other placement has computed for each early edge, what follows up to an occurrence is at most what the lazy placement computes there
      none_after : (path rest : List ℕ) (v occurrence : ℕ) → IsPath arcs 0 path v → IsPath arcs v rest occurrence → event occurrence ≡ Occurs → early_count arcs given.early path ≤ count arcs q path → early_count arcs given.early rest ≡ 0 → (count arcs q rest ≡ 0) × (computations_at q (at_point occurrence) ≡ 0)
      none_after path rest v occurrence k l o least quiet =
          let whole : IsPath arcs 0 (path ++ rest) occurrence = IsPath-append arcs 0 path v rest occurrence k l in
          let few : computations arcs q (path ++ rest) occurrence ≤ computations arcs p (path ++ rest) occurrence = as_few (path ++ rest) occurrence (whole, inl o) in
          let below : computations arcs p (path ++ rest) occurrence ≤ early_count arcs given.early (path ++ rest) = spent_end arcs n event given p lazy (path ++ rest) occurrence whole in
          let a : early_count arcs given.early (path ++ rest) ≡ early_count arcs given.early path + early_count arcs given.early rest = sum_met_append (early_at given.early) arcs path rest in
          let b : count arcs q (path ++ rest) ≡ count arcs q path + count arcs q rest = sum_met_append (computations_at q) arcs path rest in
          let c : computations arcs q (path ++ rest) occurrence ≡ count arcs q (path ++ rest) + computations_at q (at_point occurrence) = sum_by_push (computations_at q) (met arcs (path ++ rest)) (at_point occurrence) in
          (omega arith, omega arith)

      -- an inevitable point that some path reaches with no write of the other placement is delayed
      pub delayed_if_unwritten : (v : ℕ) → v < n → IsInevitable arcs (HasEvent event) v → (other : List ℕ) → IsPath arcs 0 other v → ¬ IsValidPath arcs (HasEvent event) q other → IsDelayedAt arcs (HasEvent event) v
      delayed_if_unwritten v h i other leads unwritten = (
        (inevitable_ahead arcs event v i).0,
        λ e l t path k.
            let whole : IsPath arcs 0 (path ++ e ∷ []) v = subst (IsPath arcs 0 (path ++ e ∷ [])) t (IsPath-push arcs path e l k) in
            ⊎_elim
            (λ (least : early_count arcs given.early (path ++ e ∷ []) ≤ count arcs q (path ++ e ∷ [])).
            let next = path_ahead i.0 v i.1 in
            let none = none_after (path ++ e ∷ []) next.rest v next.occurrence whole next.leads next.occurs least next.quiet in
            let to_occurrence : IsPath arcs 0 (other ++ next.rest) next.occurrence = IsPath-append arcs 0 other v next.rest next.occurrence leads next.leads in
            let valid : IsValidPath arcs (HasEvent event) q (other ++ next.rest) = correct next.occurrence (other ++ next.rest) (next.occurs, not_kept q next.occurrence none.1) to_occurrence in
            absurd (unwritten (IsValid-front (Writes (HasEvent event) q) (Kills (HasEvent event)) (met arcs other) (met arcs next.rest)
            (All-from_zero (computations_at q) (λ m. ¬ Writes (HasEvent event) q m) (zero_unwritten event q) (met arcs next.rest) none.0)
            (subst (IsValid (Writes (HasEvent event) q) (Kills (HasEvent event))) (met-append arcs other next.rest) valid))))
            (λ (r : Pending arcs n event given q correct safe (path ++ e ∷ []) v × (early_count arcs given.early (path ++ e ∷ []) ≤ count arcs q (path ++ e ∷ []) + 1)). r.0.begun)
            (earned arcs n event given q correct safe (path ++ e ∷ []) v whole),
      )

      -- what the other placement computes behind a point, where the lazy one computes no more
      free : (path : List ℕ) (v : ℕ) (rest : List ℕ) (occurrence : ℕ) → IsPath arcs 0 path v → IsPath arcs v rest occurrence → IsDeleted (HasEvent event) p occurrence → (before : ℕ)
          → early_count arcs given.early path ≤ count arcs q path + before → count arcs p path + count arcs p rest ≤ early_count arcs given.early path
          → count arcs q rest + computations_at q (at_point occurrence) ≤ before
      free path v rest occurrence k l deleted before least most =
          let whole : IsPath arcs 0 (path ++ rest) occurrence = IsPath-append arcs 0 path v rest occurrence k l in
          let few : computations arcs q (path ++ rest) occurrence ≤ computations arcs p (path ++ rest) occurrence = as_few (path ++ rest) occurrence (whole, inl deleted.0) in
          let a : count arcs p (path ++ rest) ≡ count arcs p path + count arcs p rest = sum_met_append (computations_at p) arcs path rest in
          let b : count arcs q (path ++ rest) ≡ count arcs q path + count arcs q rest = sum_met_append (computations_at q) arcs path rest in
          let c : computations arcs q (path ++ rest) occurrence ≡ count arcs q (path ++ rest) + computations_at q (at_point occurrence) = sum_by_push (computations_at q) (met arcs (path ++ rest)) (at_point occurrence) in
          let d : computations arcs p (path ++ rest) occurrence ≡ count arcs p (path ++ rest) + computations_at p (at_point occurrence) = sum_by_push (computations_at p) (met arcs (path ++ rest)) (at_point occurrence) in
          let zero_p : computations_at p (at_point occurrence) ≡ 0 = counts_not_kept p occurrence deleted.1 in
          omega arith

      pub live_at : (v : ℕ) → v < n → IsLiveAt arcs (HasEvent event) p v → IsLiveAt arcs (HasEvent event) q v
      live_at v h l =
          let r = given.graph.reached v h in
          let zero_p : count arcs p l.path ≡ 0 = zero_from_All (computations_at p) (λ m. ¬ Writes (HasEvent event) p m) lazy_zero (met arcs l.path) l.unwritten in
          let most : count arcs p r.path ≤ early_count arcs given.early r.path = (spent arcs n event given p lazy r.path v r.leads).most in
          let least : early_count arcs given.early r.path ≤ count arcs q r.path + 0 = ⊎_elim
          (λ (s : early_count arcs given.early r.path ≤ count arcs q r.path). omega arith)
          (λ (s : Pending arcs n event given q correct safe r.path v × (early_count arcs given.early r.path ≤ count arcs q r.path + 1)).
          absurd (undelayed_live v l.path l.occurrence h l.leads l.deleted l.unwritten (delayed_if_unwritten v h s.0.inevitable s.0.other s.0.leads s.0.unwritten)))
          (earned arcs n event given q correct safe r.path v r.leads) in
          let none : count arcs q l.path + computations_at q (at_point l.occurrence) ≤ 0 = free r.path v l.path l.occurrence r.leads l.leads l.deleted 0 least (omega arith) in
          let zero_rest : count arcs q l.path ≡ 0 = omega arith in
          let zero_end : computations_at q (at_point l.occurrence) ≡ 0 = omega arith in
          record {
            path = l.path;
            occurrence = l.occurrence;
            leads = l.leads;
            deleted = (l.deleted.0, not_kept q l.occurrence zero_end);
            unwritten = All-from_zero (computations_at q) (λ m. ¬ Writes (HasEvent event) q m) (zero_unwritten event q) (met arcs l.path) zero_rest;
          }

      -- what the other placement has computed at a point that a live edge leaves, the point counted
      least_before : (path : List ℕ) (e : ℕ) → e < length arcs → IsPath arcs 0 path (source arcs e) → ¬ IsDelayedOn arcs (HasEvent event) e → early_count arcs given.early path ≤ count arcs q path + computations_at q (at_point (source arcs e))
      least_before path e h k fails = ⊎_elim
          (λ (s : early_count arcs given.early path ≤ count arcs q path). omega arith)
          (λ (s : Pending arcs n event given q correct safe path (source arcs e) × (early_count arcs given.early path ≤ count arcs q path + 1)).
          let most : early_count arcs given.early path ≤ count arcs q path + 1 = s.1 in
          let inside = (given.graph.within e h).0 in
          ⊎_elim
          (λ (o : event (source arcs e) ≡ Occurs).
          let one : computations_at q (at_point (source arcs e)) ≡ 1 = counts_kept q (source arcs e) (kept_unless_valid arcs n event given q correct safe (source arcs e) o s.0.other s.0.leads s.0.unwritten) in
          omega arith)
          (λ (o : event (source arcs e) ≢ Occurs). absurd (fails (delayed_behind arcs n event given e (delayed_if_unwritten (source arcs e) inside s.0.inevitable s.0.other s.0.leads s.0.unwritten) o)))
          (occurs_or_not (event (source arcs e))))
          (earned arcs n event given q correct safe path (source arcs e) k)

      -- a live edge isn't delayed
      live_undelayed : (e : ℕ) → e < length arcs → IsLiveOn arcs (HasEvent event) p e → ¬ IsDelayedOn arcs (HasEvent event) e
      live_undelayed e h l d = ⊎_elim
          (λ (t : IsDelayedAt arcs (HasEvent event) (target arcs e)). undelayed_live (target arcs e) l.1.path l.1.occurrence (given.graph.within e h).1 l.1.leads l.1.deleted l.1.unwritten t)
          (λ (fails : IsDelayedAt arcs (HasEvent event) (target arcs e) → ⊥). l.0 ((lazy.inserted e).1 (record { is_edge = h; delayed = d; not_after = fails })))
          (delayed_at_or_not arcs n event given (target arcs e) (given.graph.within e h).1)

      pub live_on : (e : ℕ) → e < length arcs → IsLiveOn arcs (HasEvent event) p e → IsLiveOn arcs (HasEvent event) q e
      live_on e h l =
          let u : ℕ = source arcs e in
          let r = given.graph.reached u (given.graph.within e h).0 in
          let fails = live_undelayed e h l in
          let zero_p : count arcs p l.1.path ≡ 0 = zero_from_All (computations_at p) (λ m. ¬ Writes (HasEvent event) p m) lazy_zero (met arcs l.1.path) l.1.unwritten in
          let zero_edge : computations_at p (on_edge e) ≡ 0 = counts_not_inserted p e l.0 in
          let most : count arcs p r.path + computations_at p (at_point (source arcs e)) ≤ early_count arcs given.early r.path = point_spent arcs n event given p lazy r.path u (spent arcs n event given p lazy r.path u r.leads) in
          let least : early_count arcs given.early r.path ≤ count arcs q r.path + computations_at q (at_point (source arcs e)) = least_before r.path e h r.leads fails in
          let sum_p : count arcs p (e ∷ l.1.path) ≡ computations_at p (at_point (source arcs e)) + (computations_at p (on_edge e) + count arcs p l.1.path) = sum_met_cons (computations_at p) arcs e l.1.path in
          let sum_q : count arcs q (e ∷ l.1.path) ≡ computations_at q (at_point (source arcs e)) + (computations_at q (on_edge e) + count arcs q l.1.path) = sum_met_cons (computations_at q) arcs e l.1.path in
          let none : count arcs q (e ∷ l.1.path) + computations_at q (at_point l.1.occurrence) ≤ computations_at q (at_point (source arcs e)) = free r.path u (e ∷ l.1.path) l.1.occurrence r.leads (h, refl, l.1.leads) l.1.deleted (computations_at q (at_point (source arcs e))) least (omega arith) in
          let zero_q : computations_at q (on_edge e) ≡ 0 = omega arith in
          (not_inserted q e zero_q, live_at (target arcs e) (given.graph.within e h).1 l.1)

      pub live_wherever : LivesWithin arcs n (HasEvent event) p q
      live_wherever = (live_at, live_on)
