-- Where the temporary of a placement is live, by the search.
use Rattle.std.proofs.Common.{◌≡◌, ℕ, ◌<◌, Bool, true, false, if◌then◌else◌, List, [], ◌∷◌, All, get_or, refl, sym, ap, ◌∙◌, subst, arith, ⊎_elim, Contains}
use Rattle.std.specs.Prelude.{◌↔◌, nat_eq, filter}
use Rattle.std.proofs.lemmas.List.Elements.{Contains-get_or}
use Rattle.std.proofs.lemmas.Bool.{eqb-true, or_cases, or_left, or_right, true≢false, false_from_ne_true, not-true, not_from_false}
use Rattle.ir_types.specs.declared.syntax.Function.{Function}
use Rattle.point_graph.specs.declared.graph.Points.{Points}
use Rattle.expressions.specs.declared.syntax.Event.{Event}
use Rattle.expressions.specs.declared.syntax.Event.TheVariants.{Occurs}
use Rattle.expressions.specs.Kept.{Kept}
use Rattle.expressions.specs.Tables.{IsTable, IsEventOf}
use Rattle.occurrences.specs.Listed.{ArePlacesOf}
use Rattle.flow_paths.specs.Paths.{Place, at_point, on_edge, IsPath, met}
use Rattle.live_search.specs.Leading.{Graph, IsAmong, LeadsTo}
use Rattle.placement.specs.declared.placements.Placement.{Placement}
use Rattle.placement.specs.Placements.{arcs_of, IsDeleted, IsLiveAt, Writes}
use Rattle.planning.specs.declared.marks.Marks.{Marks}
use Rattle.planning.specs.Marking.{has, is_missing, AreMarks, IsGraphOf}
use Rattle.planning.proofs.Occurring.{place_occurs, occurs_place}
use Rattle.planning.proofs.Sets.{has_contains, contains_has}

-- ---- members that pass a test

filter_has : (q : ℕ → Bool) (xs : List ℕ) (n : ℕ) → has (filter q xs) n ≡ true → (has xs n ≡ true) × (q n ≡ true)
filter_has q [] n e = absurd cc
filter_has q (x ∷ xs) n e = by (filter_has q xs n) (q x) refl e
  where
    by : (has (filter q xs) n ≡ true → (has xs n ≡ true) × (q n ≡ true)) → (b : Bool) → q x ≡ b → has (if b then x ∷ filter q xs else filter q xs) n ≡ true → (has (x ∷ xs) n ≡ true) × (q n ≡ true)
    by rest true here e = ⊎_elim
        (λ (l : nat_eq n x ≡ true). (or_left (nat_eq n x) (has xs n) l, ap q (eqb-true n x l) ∙ here))
        (λ (r : has (filter q xs) n ≡ true). let both = rest r in (or_right (nat_eq n x) (has xs n) both.0, both.1))
        (or_cases (nat_eq n x) (has (filter q xs) n) e)
    by rest false here e = let both = rest e in (or_right (nat_eq n x) (has xs n) both.0, both.1)

has_filter : (q : ℕ → Bool) (xs : List ℕ) (n : ℕ) → has xs n ≡ true → q n ≡ true → has (filter q xs) n ≡ true
has_filter q [] n e t = e
has_filter q (x ∷ xs) n e t = by (λ r. has_filter q xs n r t) (q x) refl
  where
    by : (has xs n ≡ true → has (filter q xs) n ≡ true) → (b : Bool) → q x ≡ b → has (if b then x ∷ filter q xs else filter q xs) n ≡ true
    by rest true here = ⊎_elim
        (λ (l : nat_eq n x ≡ true). or_left (nat_eq n x) (has (filter q xs) n) l)
        (λ (r : has xs n ≡ true). or_right (nat_eq n x) (has (filter q xs) n) (rest r))
        (or_cases (nat_eq n x) (has xs n) e)
    by rest false here = ⊎_elim
        (λ (l : nat_eq n x ≡ true). absurd (true≢false (sym t ∙ (ap q (eqb-true n x l) ∙ here))))
        (λ (r : has xs n ≡ true). rest r)
        (or_cases (nat_eq n x) (has xs n) e)

pub filter_within : (q : ℕ → Bool) (xs : List ℕ) (n : ℕ) → All (λ m. m < n) xs → All (λ m. m < n) (filter q xs)
filter_within q xs n all k d lt =
    let m = get_or (filter q xs) k d in
    let there = filter_has q xs m (contains_has (filter q xs) m (Contains-get_or (filter q xs) k d lt)) in
    let r = has_contains xs m there.0 in
    let inside : get_or xs r.0 m < n = all r.0 m r.1 in
    omega (arith, inside, r.2)

-- ---- live points

module _ (f : Function) (p : Points) (t : Kept) (table : IsTable f p t) (x : ℕ) (placement : Placement) (marks : Marks) (places : List ℕ) (g : Graph) (is_graph : IsGraphOf p g) (are : AreMarks g placement places marks) (occur : ArePlacesOf t.occurring x places) where
  abbrev Is : ℕ → Event → Type 0
  Is = IsEventOf f p t x

  written_is : (v : ℕ) → Contains are.written v ↔ (Is v Occurs × Contains placement.kept v)
  written_is v = (
    λ h. let both = filter_has (has marks.kept.keys) places v (contains_has (filter (has marks.kept.keys) places) v ((are.written_are.members v).0 (contains_has are.written v h))) in
        (place_occurs f p t table x places occur v (has_contains places v both.0), (are.kept_are.members v).0 both.1),
    λ h. has_contains are.written v ((are.written_are.members v).1 (has_contains (filter (has marks.kept.keys) places) v
        (has_filter (has marks.kept.keys) places v (contains_has places v (occurs_place f p t table x places occur v h.0)) ((are.kept_are.members v).1 h.1)))),
  )

  deleted_is : (v : ℕ) → Contains (filter (is_missing marks.kept.keys) places) v ↔ IsDeleted Is placement v
  deleted_is v = (
    λ h. let both = filter_has (is_missing marks.kept.keys) places v (contains_has (filter (is_missing marks.kept.keys) places) v h) in
        (place_occurs f p t table x places occur v (has_contains places v both.0), λ kept. true≢false (sym ((are.kept_are.members v).1 kept) ∙ not-true (has marks.kept.keys v) both.1)),
    λ h. has_contains (filter (is_missing marks.kept.keys) places) v
        (has_filter (is_missing marks.kept.keys) places v (contains_has places v (occurs_place f p t table x places occur v h.0)) (not_from_false (has marks.kept.keys v) (false_from_ne_true (has marks.kept.keys v) (λ e. h.1 ((are.kept_are.members v).0 e))))),
  )

  writes_is : (m : Place) → IsAmong are.written marks.inserted.keys m ↔ Writes Is placement m
  writes_is (at_point v) = written_is v
  writes_is (on_edge e) = (
    λ h. (are.inserted_are.members e).0 (contains_has marks.inserted.keys e h),
    λ h. has_contains marks.inserted.keys e ((are.inserted_are.members e).1 h),
  )

  leads_live : (v : ℕ) → LeadsTo g are.written marks.inserted.keys (filter (is_missing marks.kept.keys) places) v → IsLiveAt (arcs_of p.edges) Is placement v
  leads_live v to = record {
    path = to.path;
    occurrence = to.goal;
    leads = subst (λ arcs. IsPath arcs v to.path to.goal) is_graph.arcs to.leads;
    deleted = (deleted_is to.goal).0 to.is_goal;
    unwritten = subst (λ arcs. All (λ m. ¬ Writes Is placement m) (met arcs to.path)) is_graph.arcs (λ k d lt w. to.free k d lt ((writes_is (get_or (met g.arcs to.path) k d)).1 w));
  }

  live_leads : (v : ℕ) → IsLiveAt (arcs_of p.edges) Is placement v → LeadsTo g are.written marks.inserted.keys (filter (is_missing marks.kept.keys) places) v
  live_leads v live =
      let unwritten = subst (λ arcs. All (λ m. ¬ Writes Is placement m) (met arcs live.path)) (sym is_graph.arcs) live.unwritten in
      record {
        path = live.path;
        goal = live.occurrence;
        leads = subst (λ arcs. IsPath arcs v live.path live.occurrence) (sym is_graph.arcs) live.leads;
        is_goal = (deleted_is live.occurrence).1 live.deleted;
        free = λ k d lt among. unwritten k d lt ((writes_is (get_or (met g.arcs live.path) k d)).0 among);
      }

  pub live_at : (v : ℕ) → (has marks.live.keys v ≡ true) ↔ IsLiveAt (arcs_of p.edges) Is placement v
  live_at v = (
    λ h. leads_live v ((are.live_are v).0 (has_contains marks.live.keys v h)),
    λ l. contains_has marks.live.keys v ((are.live_are v).1 (live_leads v l)),
  )
