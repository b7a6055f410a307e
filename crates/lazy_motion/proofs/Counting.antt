-- Early edges are crossed at least as often as the lazy placement computes, and at most as often as any other does.
use Rattle.std.proofs.Common.{◌≡◌, ◌≢◌, ℕ, ◌<◌, ◌≤◌, ◌+◌, Bool, true, false, cond, List, [], ◌∷◌, ◌++◌, length, refl, ap, ◌⊎◌, inl, inr, ⊎_elim, Contains, arith}
use Rattle.std.specs.Prelude.{sum_by, ◌==◌}
use Rattle.std.specs.List.{list_any}
use Rattle.std.proofs.lemmas.Bool.{cases_Bool}
use Rattle.std.proofs.lemmas.List.Sums.{sum_by_push}
use Rattle.expressions.specs.declared.syntax.Event.{Event}
use Rattle.expressions.specs.declared.syntax.Event.TheVariants.{Occurs, Kills as KillsIt}
use Rattle.flow_paths.specs.Paths.{source, target, IsPath, Place, at_point, on_edge, met, IsValid}
use Rattle.placement.specs.declared.placements.Placement.{Placement}
use Rattle.placement.specs.Placements.{Writes, Kills, IsCorrect, IsValidPath, IsInevitable, IsSafe}
use Rattle.best_placement.specs.Blocks.{HasEvent}
use Rattle.lazy_motion.specs.Motion.{IsOccurrence, IsEarly, IsEarlyPlace, IsDelayedOn, IsDelayedAt, IsLazy}
use Rattle.lazy_motion.specs.Optimality.{IsSettled, computations_at, computations, ComputesAtMost}
use Rattle.lazy_motion.specs.Steps.{bit}
use Rattle.lazy_motion.proofs.LazyLemmas.{Given, Computed, Begun, inevitable_next, begun_before, delayed_before, early_or_not, delayed_or_not}
use Rattle.lazy_motion.proofs.PathSteps.{occurs_or_not, contains_or_not, path_induction, IsPath-push, IsValid-nil, IsValid-write, IsValid-keep, IsValid-last, edge_writes, edge_last, point_writes, path_keeps, sum_met_push, counts_inserted, counts_not_inserted, counts_kept, counts_not_kept}

-- the list holds the number or not
pub member_or_not : (xs : List ℕ) (v : ℕ) → Contains xs v ⊎ (Contains xs v → ⊥)
member_or_not xs v = ⊎_elim
    (λ (t : (list_any (λ w. w == v) xs ≡ true) × Contains xs v). inl t.1)
    (λ (f : (list_any (λ w. w == v) xs ≡ false) × (Contains xs v → ⊥)). inr f.1)
    (contains_or_not xs v)

-- 1 at an early edge
abbrev pub early_at : List Bool → Place → ℕ
early_at early (at_point v) = 0
early_at early (on_edge e) = cond (bit early e) 1 0

abbrev pub count : List (ℕ × ℕ) → Placement → List ℕ → ℕ
count arcs p path = sum_by (computations_at p) (met arcs path)

abbrev pub early_count : List (ℕ × ℕ) → List Bool → List ℕ → ℕ
early_count arcs early path = sum_by (early_at early) (met arcs path)

module _ (arcs : List (ℕ × ℕ)) (n : ℕ) (event : ℕ → Event) (given : Given arcs n event) where
  pub counts_early : (e : ℕ) → e < length arcs → IsEarly arcs (HasEvent event) e → early_at given.early (on_edge e) ≡ 1
  counts_early e h i = ap (λ b. cond b 1 0) ((given.bits.early_is e h).1 i)

  pub counts_not_early : (e : ℕ) → e < length arcs → ¬ IsEarly arcs (HasEvent event) e → early_at given.early (on_edge e) ≡ 0
  counts_not_early e h fails = ⊎_elim
      (λ (t : bit given.early e ≡ true). absurd (fails ((given.bits.early_is e h).0 t)))
      (λ (f : bit given.early e ≡ false). ap (λ b. cond b 1 0) f)
      (cases_Bool (bit given.early e))

  module _ (p : Placement) (lazy : IsLazy arcs (HasEvent event) p) where
    -- the lazy placement computes at most once for each early edge, and owes one where it is delayed
    pub record Spent (path : List ℕ) (v : ℕ) : Type 0 where
      pub most : count arcs p path ≤ early_count arcs given.early path
      pub fewer : IsDelayedAt arcs (HasEvent event) v → count arcs p path < early_count arcs given.early path

    pub point_spent : (path : List ℕ) (v : ℕ) → Spent path v → count arcs p path + computations_at p (at_point v) ≤ early_count arcs given.early path
    point_spent path v s = ⊎_elim
        (λ (c : Contains p.kept v).
        let one : computations_at p (at_point v) ≡ 1 = counts_kept p v c in
        let l : count arcs p path < early_count arcs given.early path = s.fewer ((lazy.kept v).0 c).1 in
        omega arith)
        (λ (f : Contains p.kept v → ⊥).
        let none : computations_at p (at_point v) ≡ 0 = counts_not_kept p v f in
        let l : count arcs p path ≤ early_count arcs given.early path = s.most in
        omega arith)
        (member_or_not p.kept v)

    at_most_one : (e : ℕ) → computations_at p (on_edge e) ≤ 1
    at_most_one e = ⊎_elim
        (λ (c : Contains p.inserted e). let one : computations_at p (on_edge e) ≡ 1 = counts_inserted p e c in omega arith)
        (λ (f : Contains p.inserted e → ⊥). let none : computations_at p (on_edge e) ≡ 0 = counts_not_inserted p e f in omega arith)
        (member_or_not p.inserted e)

    none_before_delayed : (e : ℕ) → IsDelayedAt arcs (HasEvent event) (target arcs e) → computations_at p (on_edge e) ≡ 0
    none_before_delayed e d = counts_not_inserted p e (λ c. ((lazy.inserted e).0 c).not_after d)

    spent_early : (path : List ℕ) (e : ℕ) → e < length arcs → Spent path (source arcs e) → IsEarly arcs (HasEvent event) e → Spent (path ++ e ∷ []) (target arcs e)
    spent_early path e h s i =
        let a : count arcs p (path ++ e ∷ []) ≡ count arcs p path + (computations_at p (at_point (source arcs e)) + computations_at p (on_edge e)) = sum_met_push (computations_at p) arcs path e in
        let b : early_count arcs given.early (path ++ e ∷ []) ≡ early_count arcs given.early path + (0 + early_at given.early (on_edge e)) = sum_met_push (early_at given.early) arcs path e in
        let one : early_at given.early (on_edge e) ≡ 1 = counts_early e h i in
        let before : count arcs p path + computations_at p (at_point (source arcs e)) ≤ early_count arcs given.early path = point_spent path (source arcs e) s in
        let here : computations_at p (on_edge e) ≤ 1 = at_most_one e in
        record {
          most = omega arith;
          fewer = λ d. let none : computations_at p (on_edge e) ≡ 0 = none_before_delayed e d in omega arith;
        }

    spent_delayed : (path : List ℕ) (e : ℕ) → e < length arcs → IsPath arcs 0 path (source arcs e) → Spent path (source arcs e) → IsDelayedOn arcs (HasEvent event) e → ¬ IsEarly arcs (HasEvent event) e → Spent (path ++ e ∷ []) (target arcs e)
    spent_delayed path e h k s d fails =
        let a : count arcs p (path ++ e ∷ []) ≡ count arcs p path + (computations_at p (at_point (source arcs e)) + computations_at p (on_edge e)) = sum_met_push (computations_at p) arcs path e in
        let b : early_count arcs given.early (path ++ e ∷ []) ≡ early_count arcs given.early path + (0 + early_at given.early (on_edge e)) = sum_met_push (early_at given.early) arcs path e in
        let zero_early : early_at given.early (on_edge e) ≡ 0 = counts_not_early e h fails in
        let before : count arcs p path < early_count arcs given.early path = s.fewer (delayed_before arcs n event given e d fails) in
        let zero_kept : computations_at p (at_point (source arcs e)) ≡ 0 = counts_not_kept p (source arcs e) (λ c. (begun_before arcs n event given e d fails path k).0 ((lazy.kept (source arcs e)).0 c).0) in
        let here : computations_at p (on_edge e) ≤ 1 = at_most_one e in
        record {
          most = omega arith;
          fewer = λ d. let none : computations_at p (on_edge e) ≡ 0 = none_before_delayed e d in omega arith;
        }

    spent_undelayed : (path : List ℕ) (e : ℕ) → e < length arcs → Spent path (source arcs e) → ¬ IsDelayedOn arcs (HasEvent event) e → ¬ IsEarly arcs (HasEvent event) e → Spent (path ++ e ∷ []) (target arcs e)
    spent_undelayed path e h s not_on fails =
        let a : count arcs p (path ++ e ∷ []) ≡ count arcs p path + (computations_at p (at_point (source arcs e)) + computations_at p (on_edge e)) = sum_met_push (computations_at p) arcs path e in
        let b : early_count arcs given.early (path ++ e ∷ []) ≡ early_count arcs given.early path + (0 + early_at given.early (on_edge e)) = sum_met_push (early_at given.early) arcs path e in
        let before : count arcs p path + computations_at p (at_point (source arcs e)) ≤ early_count arcs given.early path = point_spent path (source arcs e) s in
        let here : computations_at p (on_edge e) ≡ 0 = counts_not_inserted p e (λ c. not_on ((lazy.inserted e).0 c).delayed) in
        record {
          most = omega arith;
          fewer = λ d. absurd (not_on (d.1 e h refl));
        }

    pub spent : (path : List ℕ) (v : ℕ) → IsPath arcs 0 path v → Spent path v
    spent = path_induction arcs Spent
        (record { most = omega arith; fewer = λ d. absurd (d.0 refl) })
        (λ path e h k s. ⊎_elim
        (λ (i : IsEarly arcs (HasEvent event) e). spent_early path e h s i)
        (λ (fails : IsEarly arcs (HasEvent event) e → ⊥). ⊎_elim
        (λ (d : IsDelayedOn arcs (HasEvent event) e). spent_delayed path e h k s d fails)
        (λ (not_on : IsDelayedOn arcs (HasEvent event) e → ⊥). spent_undelayed path e h s not_on fails)
        (delayed_or_not arcs n event given e h))
        (early_or_not arcs n event given e h))

    pub spent_end : (path : List ℕ) (v : ℕ) → IsPath arcs 0 path v → computations arcs p path v ≤ early_count arcs given.early path
    spent_end path v k =
        let all : computations arcs p path v ≡ count arcs p path + computations_at p (at_point v) = sum_by_push (computations_at p) (met arcs path) (at_point v) in
        let most : count arcs p path + computations_at p (at_point v) ≤ early_count arcs given.early path = point_spent path v (spent path v k) in
        omega arith

  module _ (q : Placement) (correct : IsCorrect arcs (HasEvent event) q) (safe : IsSafe arcs (HasEvent event) q) where
    abbrev W : Place → Type 0
    W m = Writes (HasEvent event) q m

    abbrev K : Place → Type 0
    K m = Kills (HasEvent event) m

    -- a path that a safe placement makes valid is computed, unless an occurrence is inevitable
    pub valid_computed : (path : List ℕ) (v : ℕ) → IsPath arcs 0 path v → IsValidPath arcs (HasEvent event) q path → Computed arcs n event given path ⊎ IsInevitable arcs (HasEvent event) v
    valid_computed = path_induction arcs (λ path v. IsValidPath arcs (HasEvent event) q path → Computed arcs n event given path ⊎ IsInevitable arcs (HasEvent event) v)
        (λ v. absurd (IsValid-nil W K v))
        (λ path e h k before v. ⊎_elim
        (λ (c : Contains q.inserted e). inr (safe e c))
        (λ (r : (⊥ → ⊥) × IsValid W K (met arcs path ++ at_point (source arcs e) ∷ [])). ⊎_elim
        (λ (o : event (source arcs e) ≡ Occurs). inl (point_writes (IsOccurrence (HasEvent event)) (Kills (HasEvent event)) arcs path e (λ x. x) o))
        (λ (o : event (source arcs e) ≢ Occurs). ⊎_elim
        (λ (w : (event (source arcs e) ≡ Occurs) × Contains q.kept (source arcs e)). absurd (o w.0))
        (λ (s : (¬ (event (source arcs e) ≡ KillsIt)) × IsValidPath arcs (HasEvent event) q path). ⊎_elim
        (λ (c : Computed arcs n event given path). inl (path_keeps (IsOccurrence (HasEvent event)) (Kills (HasEvent event)) arcs path e (λ x. x) s.0 c))
        (λ (i : IsInevitable arcs (HasEvent event) (source arcs e)). inr ((inevitable_next arcs n event given (source arcs e) i o).1 e h refl))
        (before s.1))
        (IsValid-last W K (met arcs path) (at_point (source arcs e)) r.1))
        (occurs_or_not (event (source arcs e))))
        (edge_last W K arcs path e v))

    -- an early edge was crossed since the last occurrence, and some path to v has no write yet
    pub record Pending (path : List ℕ) (v : ℕ) : Type 0 where
      pub inevitable : IsInevitable arcs (HasEvent event) v
      pub begun : Begun arcs n event given path
      pub other : List ℕ
      pub leads : IsPath arcs 0 other v
      pub unwritten : ¬ IsValidPath arcs (HasEvent event) q other

    -- the placement has computed for each early edge, but for the last where it is pending
    abbrev pub Earned : List ℕ → ℕ → Type 0
    Earned path v = (early_count arcs given.early path ≤ count arcs q path) ⊎ (Pending path v × (early_count arcs given.early path ≤ count arcs q path + 1))

    -- an occurrence that a path reaches with no write is kept
    pub kept_unless_valid : (v : ℕ) → event v ≡ Occurs → (other : List ℕ) → IsPath arcs 0 other v → ¬ IsValidPath arcs (HasEvent event) q other → Contains q.kept v
    kept_unless_valid v o other k unwritten = ⊎_elim
        (λ (c : Contains q.kept v). c)
        (λ (f : Contains q.kept v → ⊥). absurd (unwritten (correct v other (o, f) k)))
        (member_or_not q.kept v)

    unwritten_early : (e : ℕ) (i : IsEarly arcs (HasEvent event) e) → (Contains q.inserted e → ⊥) → ¬ IsValidPath arcs (HasEvent event) q (i.path ++ e ∷ [])
    unwritten_early e i f v = ⊎_elim
        f
        (λ (r : (⊥ → ⊥) × IsValid W K (met arcs i.path ++ at_point (source arcs e) ∷ [])). ⊎_elim
        (λ (w : (event (source arcs e) ≡ Occurs) × Contains q.kept (source arcs e)). i.not_computed (IsValid-write (IsOccurrence (HasEvent event)) (Kills (HasEvent event)) (met arcs i.path) (at_point (source arcs e)) w.0))
        (λ (s : (¬ (event (source arcs e) ≡ KillsIt)) × IsValidPath arcs (HasEvent event) q i.path). ⊎_elim
        (λ (c : Computed arcs n event given i.path). i.not_computed (IsValid-keep (IsOccurrence (HasEvent event)) (Kills (HasEvent event)) (met arcs i.path) (at_point (source arcs e)) s.0 c))
        i.not_before
        (valid_computed i.path (source arcs e) i.leads s.1))
        (IsValid-last W K (met arcs i.path) (at_point (source arcs e)) r.1))
        (edge_last W K arcs i.path e v)

    unwritten_on : (other : List ℕ) (e : ℕ) → event (source arcs e) ≢ Occurs → (Contains q.inserted e → ⊥) → ¬ IsValidPath arcs (HasEvent event) q other → ¬ IsValidPath arcs (HasEvent event) q (other ++ e ∷ [])
    unwritten_on other e o f unwritten v = ⊎_elim
        f
        (λ (r : (⊥ → ⊥) × IsValid W K (met arcs other ++ at_point (source arcs e) ∷ [])). ⊎_elim
        (λ (w : (event (source arcs e) ≡ Occurs) × Contains q.kept (source arcs e)). o w.0)
        (λ (s : (¬ (event (source arcs e) ≡ KillsIt)) × IsValidPath arcs (HasEvent event) q other). unwritten s.1)
        (IsValid-last W K (met arcs other) (at_point (source arcs e)) r.1))
        (edge_last W K arcs other e v)

    earned_early : (path : List ℕ) (e : ℕ) → e < length arcs → Earned path (source arcs e) → IsEarly arcs (HasEvent event) e → Earned (path ++ e ∷ []) (target arcs e)
    earned_early path e h before i =
        let a : count arcs q (path ++ e ∷ []) ≡ count arcs q path + (computations_at q (at_point (source arcs e)) + computations_at q (on_edge e)) = sum_met_push (computations_at q) arcs path e in
        let b : early_count arcs given.early (path ++ e ∷ []) ≡ early_count arcs given.early path + (0 + early_at given.early (on_edge e)) = sum_met_push (early_at given.early) arcs path e in
        let one_early : early_at given.early (on_edge e) ≡ 1 = counts_early e h i in
        let so_far : early_count arcs given.early path ≤ count arcs q path = ⊎_elim
        (λ (l : early_count arcs given.early path ≤ count arcs q path). l)
        (λ (r : Pending path (source arcs e) × (early_count arcs given.early path ≤ count arcs q path + 1)). absurd (i.not_before r.0.inevitable))
        before in
        ⊎_elim
        (λ (c : Contains q.inserted e). let one : computations_at q (on_edge e) ≡ 1 = counts_inserted q e c in inl (omega arith))
        (λ (f : Contains q.inserted e → ⊥). inr (
          record {
            inevitable = i.inevitable;
            begun = edge_writes (IsEarlyPlace arcs (HasEvent event)) (IsOccurrence (HasEvent event)) arcs path e i;
            other = i.path ++ e ∷ [];
            leads = IsPath-push arcs i.path e h i.leads;
            unwritten = unwritten_early e i f;
          },
          omega arith,
        ))
        (member_or_not q.inserted e)

    earned_on : (path : List ℕ) (e : ℕ) → e < length arcs → Earned path (source arcs e) → ¬ IsEarly arcs (HasEvent event) e → Earned (path ++ e ∷ []) (target arcs e)
    earned_on path e h before fails =
        let a : count arcs q (path ++ e ∷ []) ≡ count arcs q path + (computations_at q (at_point (source arcs e)) + computations_at q (on_edge e)) = sum_met_push (computations_at q) arcs path e in
        let b : early_count arcs given.early (path ++ e ∷ []) ≡ early_count arcs given.early path + (0 + early_at given.early (on_edge e)) = sum_met_push (early_at given.early) arcs path e in
        let none_early : early_at given.early (on_edge e) ≡ 0 = counts_not_early e h fails in
        ⊎_elim
        (λ (l : early_count arcs given.early path ≤ count arcs q path). inl (omega arith))
        (λ (r : Pending path (source arcs e) × (early_count arcs given.early path ≤ count arcs q path + 1)).
        let most : early_count arcs given.early path ≤ count arcs q path + 1 = r.1 in
        ⊎_elim
        (λ (o : event (source arcs e) ≡ Occurs).
        let one : computations_at q (at_point (source arcs e)) ≡ 1 = counts_kept q (source arcs e) (kept_unless_valid (source arcs e) o r.0.other r.0.leads r.0.unwritten) in
        inl (omega arith))
        (λ (o : event (source arcs e) ≢ Occurs). ⊎_elim
        (λ (c : Contains q.inserted e). let one : computations_at q (on_edge e) ≡ 1 = counts_inserted q e c in inl (omega arith))
        (λ (f : Contains q.inserted e → ⊥). inr (
          record {
            inevitable = (inevitable_next arcs n event given (source arcs e) r.0.inevitable o).1 e h refl;
            begun = path_keeps (IsEarlyPlace arcs (HasEvent event)) (IsOccurrence (HasEvent event)) arcs path e (λ x. x) o r.0.begun;
            other = r.0.other ++ e ∷ [];
            leads = IsPath-push arcs r.0.other e h r.0.leads;
            unwritten = unwritten_on r.0.other e o f r.0.unwritten;
          },
          omega arith,
        ))
        (member_or_not q.inserted e))
        (occurs_or_not (event (source arcs e))))
        before

    pub earned : (path : List ℕ) (v : ℕ) → IsPath arcs 0 path v → Earned path v
    earned = path_induction arcs Earned
        (inl (omega arith))
        (λ path e h k before. ⊎_elim
        (λ (i : IsEarly arcs (HasEvent event) e). earned_early path e h before i)
        (λ (fails : IsEarly arcs (HasEvent event) e → ⊥). earned_on path e h before fails)
        (early_or_not arcs n event given e h))

    pub earned_end : (path : List ℕ) (v : ℕ) → IsSettled arcs (HasEvent event) path v → early_count arcs given.early path ≤ computations arcs q path v
    earned_end path v settled =
        let all : computations arcs q path v ≡ count arcs q path + computations_at q (at_point v) = sum_by_push (computations_at q) (met arcs path) (at_point v) in
        ⊎_elim
        (λ (l : early_count arcs given.early path ≤ count arcs q path). omega arith)
        (λ (r : Pending path v × (early_count arcs given.early path ≤ count arcs q path + 1)).
        let most : early_count arcs given.early path ≤ count arcs q path + 1 = r.1 in
        ⊎_elim
        (λ (o : event v ≡ Occurs).
        let one : computations_at q (at_point v) ≡ 1 = counts_kept q v (kept_unless_valid v o r.0.other r.0.leads r.0.unwritten) in
        omega arith)
        (λ (fails : ¬ IsInevitable arcs (HasEvent event) v). absurd (fails r.0.inevitable))
        settled.1)
        (earned path v settled.0)

    pub lazy_best : (p : Placement) → IsLazy arcs (HasEvent event) p → ComputesAtMost arcs (HasEvent event) p q
    lazy_best p lazy path v settled =
        let below : computations arcs p path v ≤ early_count arcs given.early path = spent_end p lazy path v settled.0 in
        let above : early_count arcs given.early path ≤ computations arcs q path v = earned_end path v settled in
        omega arith
