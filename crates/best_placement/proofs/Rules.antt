-- Correct placements and their live points, by what holds at each edge and each point.
use Rattle.std.proofs.Common.{◌≡◌, ℕ, suc, zero, ◌+◌, ◌≤◌, ◌<◌, ◌==◌, Bool, true, false, cond, not, ◌&&◌, ◌||◌, List, [], ◌∷◌, ◌++◌, length, refl, sym, ap, ◌∙◌, arith, ◌⊎◌, inl, inr, ⊎_elim, subst, All}
use Rattle.std.specs.List.{Contains}
use Rattle.std.proofs.lemmas.List.Elements.{All-nil, All-cons, All-head, All-tail, Contains-append_left, Contains-append_right, Contains-push, Contains-push_cases, Contains-append_cases, at_from_Contains}
use Rattle.std.proofs.lemmas.Bool.{cases_Bool, cases_lt, eqb-true, or_cases, or_left, or_right, and_parts, and_from, false_from_ne_true, not-true}
use Rattle.std.proofs.lemmas.Bool.Decides.{nat_tests}
use Rattle.expressions.specs.declared.syntax.Event.{Event}
use Rattle.expressions.specs.declared.syntax.Event.TheVariants.{Occurs, Kills as KillsIt, Bars, Passes}
use Rattle.flow_paths.specs.Paths.{source, target, IsPath, ArcsWithin, Place, at_point, on_edge, met, IsValid, Connects}
use Rattle.placement.specs.declared.placements.Placement.{Placement}
use Rattle.placement.specs.Placements.{Writes, Kills, IsDeleted, IsCorrect}
use Rattle.placement.specs.Placements.{IsLiveAt}
use Rattle.best_placement.specs.Blocks.{HasEvent}
use Rattle.best_placement.specs.Bits.{is_occurrence}
use Rattle.best_placement.specs.Laws.{has}
use Rattle.flow_paths.proofs.PathLemmas.{IsPath-append}

pub has-true : (xs : List ℕ) (v : ℕ) → has xs v ≡ true → Contains xs v
has-true [] v h = cc
has-true (x ∷ xs) v h = ⊎_elim
    (λ (e : (x == v) ≡ true). subst (λ y. Contains (x ∷ xs) y) (eqb-true x v e) (Contains-append_left (x ∷ []) xs x (Contains-push [] x)))
    (λ (e : has xs v ≡ true). Contains-append_right (x ∷ []) xs v (has-true xs v e))
    (or_cases (x == v) (has xs v) h)

none_in_nil : (v : ℕ) → Contains [] v → ⊥
none_in_nil v h = let k = at_from_Contains [] v h in let l : k.0 < 0 = k.1 in omega arith

pub has-contained : (xs : List ℕ) (v : ℕ) → Contains xs v → has xs v ≡ true
has-contained [] v h = absurd (none_in_nil v h)
has-contained (x ∷ xs) v h = ⊎_elim
    (λ (e : Contains (x ∷ []) v). ⊎_elim (λ (n : Contains [] v). absurd (none_in_nil v n)) (λ (s : x ≡ v). or_left (x == v) (has xs v) (let t = s in grind (arith, nat_tests))) (Contains-push_cases [] x v e))
    (λ (e : Contains xs v). or_right (x == v) (has xs v) (has-contained xs v e))
    (Contains-append_cases (x ∷ []) xs v h)

pub occurrence_is : (k : Event) → is_occurrence k ≡ true → k ≡ Occurs
occurrence_is Occurs h = refl
occurrence_is KillsIt h = cc
occurrence_is Bars h = cc
occurrence_is Passes h = cc

abbrev pub inserts : Placement → ℕ → Bool
inserts p e = has p.inserted e

-- a kept occurrence
abbrev pub keeps : (ℕ → Event) → Placement → ℕ → Bool
keeps event p v = is_occurrence (event v) && has p.kept v

-- what a set of points with all live ones tells, edge by edge and point by point
pub record Rules (arcs : List (ℕ × ℕ)) (n : ℕ) (event : ℕ → Event) (inserted kept live : ℕ → Bool) : Type 0 where
  pub moves : (e : ℕ) → e < length arcs → live (target arcs e) ≡ true → inserted e ≡ false → kept (source arcs e) ≡ false → live (source arcs e) ≡ true
  pub deleted : (v : ℕ) → v < n → event v ≡ Occurs → kept v ≡ false → live v ≡ true
  pub kills : (v : ℕ) → v < n → event v ≡ KillsIt → live v ≡ true → ⊥
  pub start : live 0 ≡ false

module _ (event : ℕ → Event) (p : Placement) where
  pub keeps_occurrence : (v : ℕ) → keeps event p v ≡ true → event v ≡ Occurs
  keeps_occurrence v h = occurrence_is (event v) (and_parts (is_occurrence (event v)) (has p.kept v) h).0

  pub kept_writes : (v : ℕ) → keeps event p v ≡ true → Writes (HasEvent event) p (at_point v)
  kept_writes v h = let parts = and_parts (is_occurrence (event v)) (has p.kept v) h in (keeps_occurrence v h, has-true p.kept v parts.1)

  pub writes_kept : (v : ℕ) → Writes (HasEvent event) p (at_point v) → keeps event p v ≡ true
  writes_kept v w = and_from (is_occurrence (event v)) (has p.kept v) (ap is_occurrence w.0) (has-contained p.kept v w.1)

  pub deleted_unkept : (v : ℕ) → IsDeleted (HasEvent event) p v → keeps event p v ≡ false
  deleted_unkept v d = false_from_ne_true (keeps event p v) (λ h. d.1 (kept_writes v h).1)

  pub unkept_deleted : (v : ℕ) → event v ≡ Occurs → keeps event p v ≡ false → IsDeleted (HasEvent event) p v
  unkept_deleted v o k = (o, λ c. let t : keeps event p v ≡ true = writes_kept v (o, c) in cc)

module _ (arcs : List (ℕ × ℕ)) (n : ℕ) (within : ArcsWithin arcs n) where
  pub ends_inside : (u : ℕ) (path : List ℕ) (v : ℕ) → u < n → IsPath arcs u path v → v < n
  ends_inside u [] v i h = subst (λ x. x < n) h i
  ends_inside u (e ∷ path) v i h = ends_inside (target arcs e) path v (within e h.0).1 h.2

module _ (arcs : List (ℕ × ℕ)) (n : ℕ) (within : ArcsWithin arcs n) (event : ℕ → Event) (p : Placement) (live : ℕ → Bool) (rules : Rules arcs n event (inserts p) (keeps event p) live) where
  Valid-more : (m : Place) (places : List Place) → IsValid (Writes (HasEvent event) p) (Kills (HasEvent event)) places → IsValid (Writes (HasEvent event) p) (Kills (HasEvent event)) (m ∷ places)
  Valid-more m places v = record { before = m ∷ v.before; write = v.write; after = v.after; split = ap (λ x. m ∷ x) v.split; writes = v.writes; unkilled = v.unkilled }

  -- a path to a point of the set is valid, or all on it are in the set
  valid_or_live : (u : ℕ) (path : List ℕ) (v : ℕ) → IsPath arcs u path v → live v ≡ true → ((live u ≡ true) × All (λ m. ¬ Kills (HasEvent event) m) (met arcs path)) ⊎ IsValid (Writes (HasEvent event) p) (Kills (HasEvent event)) (met arcs path)
  valid_or_live u [] v h l = inl (subst (λ x. live x ≡ true) (sym h) l, All-nil (λ m. ¬ Kills (HasEvent event) m))
  valid_or_live u (e ∷ path) v h l = ⊎_elim
      (λ (r : (live (target arcs e) ≡ true) × All (λ m. ¬ Kills (HasEvent event) m) (met arcs path)).
      elim (cases_Bool (inserts p e)) [
        | inl i ↦ inr (record { before = at_point (source arcs e) ∷ []; write = on_edge e; after = met arcs path; split = refl; writes = has-true p.inserted e i; unkilled = r.1 })
        | inr i ↦ (let on : All (λ m. ¬ Kills (HasEvent event) m) (on_edge e ∷ met arcs path) = All-cons (λ m. ¬ Kills (HasEvent event) m) (on_edge e) (met arcs path) (λ k. k) r.1 in
            elim (cases_Bool (keeps event p (source arcs e))) [
              | inl k ↦ inr (record { before = []; write = at_point (source arcs e); after = on_edge e ∷ met arcs path; split = refl; writes = kept_writes event p (source arcs e) k; unkilled = on })
              | inr k ↦ (let there : live (source arcs e) ≡ true = rules.moves e h.0 r.0 i k in
                  inl (subst (λ x. live x ≡ true) h.1 there, All-cons (λ m. ¬ Kills (HasEvent event) m) (at_point (source arcs e)) (on_edge e ∷ met arcs path) (λ k. rules.kills (source arcs e) (within e h.0).0 k there) on))
            ])
      ])
      (λ (r : IsValid (Writes (HasEvent event) p) (Kills (HasEvent event)) (met arcs path)). inr (Valid-more (at_point (source arcs e)) (on_edge e ∷ met arcs path) (Valid-more (on_edge e) (met arcs path) r)))
      (valid_or_live (target arcs e) path v h.2 l)

  -- a placement with such a set is correct
  pub correct_from_rules : 0 < n → IsCorrect arcs (HasEvent event) p
  correct_from_rules some v path deleted leads = let inside : v < n = ends_inside arcs n within 0 path v some leads in ⊎_elim
      (λ (r : (live 0 ≡ true) × All (λ m. ¬ Kills (HasEvent event) m) (met arcs path)). let a : live 0 ≡ true = r.0 in let b : live 0 ≡ false = rules.start in cc)
      (λ (r : IsValid (Writes (HasEvent event) p) (Kills (HasEvent event)) (met arcs path)). r)
      (valid_or_live 0 path v leads (rules.deleted v inside deleted.0 (deleted_unkept event p v deleted)))

  live_along : (u : ℕ) (path : List ℕ) (v : ℕ) → IsPath arcs u path v → live v ≡ true → All (λ m. ¬ Writes (HasEvent event) p m) (met arcs path) → live u ≡ true
  live_along u [] v h l a = subst (λ x. live x ≡ true) (sym h) l
  live_along u (e ∷ path) v h l a =
      let W : Place → Type 0 = λ m. ¬ Writes (HasEvent event) p m in
      let rest = All-tail W (at_point (source arcs e)) (on_edge e ∷ met arcs path) a in
      let there = live_along (target arcs e) path v h.2 l (All-tail W (on_edge e) (met arcs path) rest) in
      subst (λ x. live x ≡ true) h.1 (rules.moves e h.0 there
      (false_from_ne_true (inserts p e) (λ i. All-head W (on_edge e) (met arcs path) rest (has-true p.inserted e i)))
      (false_from_ne_true (keeps event p (source arcs e)) (λ k. All-head W (at_point (source arcs e)) (on_edge e ∷ met arcs path) a (kept_writes event p (source arcs e) k))))

  -- such a set has all live points
  pub live_in_rules : (v : ℕ) → v < n → IsLiveAt arcs (HasEvent event) p v → live v ≡ true
  live_in_rules v inside l = live_along v l.path l.occurrence l.leads (rules.deleted l.occurrence (ends_inside arcs n within v l.path l.occurrence inside l.leads) l.deleted.0 (deleted_unkept event p l.occurrence l.deleted)) l.unwritten

-- the live points of a correct placement

Valid-tail : (W K : Place → Type 0) (m : Place) (places before : List Place) (write : Place) (after : List Place) → m ∷ places ≡ before ++ write ∷ after → W write → All (λ x. ¬ K x) after →
    IsValid W K places ⊎ (W m × All (λ x. ¬ K x) places)
Valid-tail W K m places [] write after split w u = inr (let e : m ≡ write = cc in subst W (sym e) w, let e : places ≡ after = cc in subst (λ x. All (λ y. ¬ K y) x) (sym e) u)
Valid-tail W K m places (b ∷ before) write after split w u = inl (record { before = before; write = write; after = after; split = cc; writes = w; unkilled = u })

All-later : (P : Place → Type 0) (first second : List Place) → All P (first ++ second) → All P second
All-later P [] second h = h
All-later P (m ∷ first) second h = All-later P first second (All-tail P m (first ++ second) h)

-- a write before places that do not write has no kill among them
unkilled_later : (W K : Place → Type 0) (first second : List Place) → IsValid W K (first ++ second) → All (λ x. ¬ W x) second → All (λ x. ¬ K x) second
unkilled_later W K [] second v a =
    let rest : All (λ x. ¬ W x) (v.write ∷ v.after) = All-later (λ x. ¬ W x) v.before (v.write ∷ v.after) (subst (λ x. All (λ y. ¬ W y) x) v.split a) in
    absurd (All-head (λ x. ¬ W x) v.write v.after rest v.writes)
unkilled_later W K (m ∷ first) second v a = ⊎_elim
    (λ (r : IsValid W K (first ++ second)). unkilled_later W K first second r a)
    (λ (r : W m × All (λ x. ¬ K x) (first ++ second)). All-later (λ x. ¬ K x) first second r.1)
    (Valid-tail W K m (first ++ second) v.before v.write v.after v.split v.writes v.unkilled)

met-append : (arcs : List (ℕ × ℕ)) (path rest : List ℕ) → met arcs (path ++ rest) ≡ met arcs path ++ met arcs rest
met-append arcs [] rest = refl
met-append arcs (e ∷ path) rest = ap (λ x. at_point (source arcs e) ∷ on_edge e ∷ x) (met-append arcs path rest)

module _ (arcs : List (ℕ × ℕ)) (n : ℕ) (within : ArcsWithin arcs n) (event : ℕ → Event) (p : Placement) where
  pub live_step : (e : ℕ) → e < length arcs → inserts p e ≡ false → keeps event p (source arcs e) ≡ false → IsLiveAt arcs (HasEvent event) p (target arcs e) → IsLiveAt arcs (HasEvent event) p (source arcs e)
  live_step e inside i k l = record {
    path = e ∷ l.path;
    occurrence = l.occurrence;
    leads = (inside, refl, l.leads);
    deleted = l.deleted;
    unwritten = All-cons (λ m. ¬ Writes (HasEvent event) p m) (at_point (source arcs e)) (on_edge e ∷ met arcs l.path) (λ w. let t : keeps event p (source arcs e) ≡ true = writes_kept event p (source arcs e) w in cc)
        (All-cons (λ m. ¬ Writes (HasEvent event) p m) (on_edge e) (met arcs l.path) (λ w. let t : inserts p e ≡ true = has-contained p.inserted e w in cc) l.unwritten);
  }

  pub live_deleted : (v : ℕ) → event v ≡ Occurs → keeps event p v ≡ false → IsLiveAt arcs (HasEvent event) p v
  live_deleted v o k = record { path = []; occurrence = v; leads = refl; deleted = unkept_deleted event p v o k; unwritten = All-nil (λ m. ¬ Writes (HasEvent event) p m) }

  not_kept_by : (v : ℕ) (path : List ℕ) (d : ℕ) → IsPath arcs v path d → IsDeleted (HasEvent event) p d → All (λ m. ¬ Writes (HasEvent event) p m) (met arcs path) → keeps event p v ≡ true → ⊥
  not_kept_by v [] d h x a k = x.1 (kept_writes event p d (subst (λ y. keeps event p y ≡ true) h k)).1
  not_kept_by v (e ∷ path) d h x a k = All-head (λ m. ¬ Writes (HasEvent event) p m) (at_point (source arcs e)) (on_edge e ∷ met arcs path) a (kept_writes event p (source arcs e) (subst (λ y. keeps event p y ≡ true) (sym h.1) k))

  pub live_not_kept : (v : ℕ) → IsLiveAt arcs (HasEvent event) p v → keeps event p v ≡ true → ⊥
  live_not_kept v l k = not_kept_by v l.path l.occurrence l.leads l.deleted l.unwritten k

  no_kill_first : (v : ℕ) (path : List ℕ) (d : ℕ) → IsPath arcs v path d → IsDeleted (HasEvent event) p d → All (λ m. ¬ Kills (HasEvent event) m) (met arcs path) → event v ≡ KillsIt → ⊥
  no_kill_first v [] d h x a k = let e : event v ≡ event d = ap event h in let o : event d ≡ Occurs = x.0 in cc
  no_kill_first v (e ∷ path) d h x a k = All-head (λ m. ¬ Kills (HasEvent event) m) (at_point (source arcs e)) (on_edge e ∷ met arcs path) a (ap event h.1 ∙ k)

  module _ (correct : IsCorrect arcs (HasEvent event) p) where
    pub live_no_kill : (v : ℕ) → v < n → Connects arcs 0 v → event v ≡ KillsIt → IsLiveAt arcs (HasEvent event) p v → ⊥
    live_no_kill v inside r k l =
        let all : IsValid (Writes (HasEvent event) p) (Kills (HasEvent event)) (met arcs (r.path ++ l.path)) =
        correct l.occurrence (r.path ++ l.path) l.deleted (IsPath-append arcs 0 r.path v l.path l.occurrence r.leads l.leads) in
        no_kill_first v l.path l.occurrence l.leads l.deleted
        (unkilled_later (Writes (HasEvent event) p) (Kills (HasEvent event)) (met arcs r.path) (met arcs l.path) (subst (λ x. IsValid (Writes (HasEvent event) p) (Kills (HasEvent event)) x) (met-append arcs r.path l.path) all) l.unwritten) k

    pub start_not_live : 0 < n → IsLiveAt arcs (HasEvent event) p 0 → ⊥
    start_not_live some l =
        let v : IsValid (Writes (HasEvent event) p) (Kills (HasEvent event)) (met arcs l.path) = correct l.occurrence l.path l.deleted l.leads in
        let rest = All-later (λ x. ¬ Writes (HasEvent event) p x) v.before (v.write ∷ v.after) (subst (λ x. All (λ y. ¬ Writes (HasEvent event) p y) x) v.split l.unwritten) in
        All-head (λ x. ¬ Writes (HasEvent event) p x) v.write v.after rest v.writes

-- whether a point is live can be told

-- how many of the first n are not in the set
abbrev pub missing : (ℕ → Bool) → ℕ → ℕ
missing f zero = 0
missing f (suc n) = cond (f n) 0 1 + missing f n

abbrev pub with_point : (ℕ → Bool) → ℕ → ℕ → Bool
with_point f v = λ x. (v == x) || f x

with_point_other : (f : ℕ → Bool) (v x : ℕ) → (v ≡ x → ⊥) → with_point f v x ≡ f x
with_point_other f v x h = grind (arith, nat_tests)

with_point_here : (f : ℕ → Bool) (v : ℕ) → with_point f v v ≡ true
with_point_here f v = grind (arith, nat_tests)

missing_same : (f : ℕ → Bool) (v n : ℕ) → n ≤ v → missing (with_point f v) n ≡ missing f n
missing_same f v zero h = refl
missing_same f v (suc n) h = let r = missing_same f v n (omega arith) in let s = with_point_other f v n (λ e. omega arith) in rw (s, r) refl

missing_less : (f : ℕ → Bool) (v n : ℕ) → v < n → f v ≡ false → missing (with_point f v) n + 1 ≡ missing f n
missing_less f v zero h e = absurd (omega arith)
missing_less f v (suc n) h e = ⊎_elim
    (λ (s : v ≡ n). let r : missing (with_point f v) n ≡ missing f n = missing_same f v n (omega arith) in
    let a : with_point f v n ≡ true = subst (λ x. with_point f v x ≡ true) s (with_point_here f v) in let b : f n ≡ false = subst (λ x. f x ≡ false) s e in
    rw (a, b) (omega arith))
    (λ (l : v < n). let r = missing_less f v n l e in let a : with_point f v n ≡ f n = with_point_other f v n (λ s. omega arith) in rw a (omega arith))
    (let c : (v ≡ n) ⊎ (v < n) = elim (cases_lt v n) [ inl l ↦ inr l | inr g ↦ inl (omega arith) ] in c)

missing_one : (f : ℕ → Bool) (v n : ℕ) → v < n → f v ≡ false → 0 < missing f n
missing_one f v n h e = let r = missing_less f v n h e in omega arith

module _ (arcs : List (ℕ × ℕ)) (n : ℕ) (within : ArcsWithin arcs n) (event : ℕ → Event) (p : Placement) where
  pub record LiveSet (f : ℕ → Bool) : Type 0 where
    pub sound : (v : ℕ) → f v ≡ true → IsLiveAt arcs (HasEvent event) p v
    pub deleted : (v : ℕ) → event v ≡ Occurs → keeps event p v ≡ false → f v ≡ true

  -- an edge over which the set grows
  pub record Grows (f : ℕ → Bool) : Type 0 where
    pub edge : ℕ
    pub is_edge : edge < length arcs
    pub free : inserts p edge ≡ false
    pub unkept : keeps event p (source arcs edge) ≡ false
    pub to : f (target arcs edge) ≡ true
    pub from : f (source arcs edge) ≡ false

  abbrev pub ClosedAt : (ℕ → Bool) → ℕ → Type 0
  ClosedAt f e = f (target arcs e) ≡ true → inserts p e ≡ false → keeps event p (source arcs e) ≡ false → f (source arcs e) ≡ true

  at_edge : (f : ℕ → Bool) (e : ℕ) → e < length arcs → ClosedAt f e ⊎ Grows f
  at_edge f e h = elim (cases_Bool (f (target arcs e))) [
    | inr away ↦ inl (λ t i k. cc)
    | inl t ↦ elim (cases_Bool (inserts p e)) [
      | inl i ↦ inl (λ t j k. cc)
      | inr i ↦ elim (cases_Bool (keeps event p (source arcs e))) [
        | inl k ↦ inl (λ t i l. cc)
        | inr k ↦ elim (cases_Bool (f (source arcs e))) [
          | inl s ↦ inl (λ t i k. s)
          | inr s ↦ inr (record { edge = e; is_edge = h; free = i; unkept = k; to = t; from = s })
        ]
      ]
    ]
  ]

  scan : (f : ℕ → Bool) (k : ℕ) → k ≤ length arcs → ((e : ℕ) → e < k → ClosedAt f e) ⊎ Grows f
  scan f zero h = inl (λ e l. absurd (omega arith))
  scan f (suc k) h = ⊎_elim
      (λ (all : (e : ℕ) → e < k → ClosedAt f e). ⊎_elim
      (λ (here : ClosedAt f k). inl (λ e l. elim (cases_lt e k) [ inl less ↦ all e less | inr same ↦ subst (λ x. ClosedAt f x) (let s : k ≡ e = omega arith in s) here ]))
      (λ (g : Grows f). inr g)
      (at_edge f k (omega arith)))
      (λ (g : Grows f). inr g)
      (scan f k (omega arith))

  pub record LiveTest : Type 0 where
    pub test : ℕ → Bool
    pub set : LiveSet test
    pub closed : (e : ℕ) → e < length arcs → ClosedAt test e

  grown : (f : ℕ → Bool) → LiveSet f → (g : Grows f) → LiveSet (with_point f (source arcs g.edge))
  grown f s g = record {
    sound = λ v h. ⊎_elim
        (λ (e : (source arcs g.edge == v) ≡ true). subst (λ x. IsLiveAt arcs (HasEvent event) p x) (eqb-true (source arcs g.edge) v e) (live_step arcs n within event p g.edge g.is_edge g.free g.unkept (s.sound (target arcs g.edge) g.to)))
        (λ (e : f v ≡ true). s.sound v e)
        (or_cases (source arcs g.edge == v) (f v) h);
    deleted = λ v o k. or_right (source arcs g.edge == v) (f v) (s.deleted v o k);
  }

  grow : (fuel : ℕ) (f : ℕ → Bool) → missing f n ≤ fuel → LiveSet f → LiveTest
  grow zero f h s = ⊎_elim
      (λ (c : (e : ℕ) → e < length arcs → ClosedAt f e). record { test = f; set = s; closed = c })
      (λ (g : Grows f). absurd (let m = missing_one f (source arcs g.edge) n (within g.edge g.is_edge).0 g.from in omega arith))
      (scan f (length arcs) (omega arith))
  grow (suc fuel) f h s = ⊎_elim
      (λ (c : (e : ℕ) → e < length arcs → ClosedAt f e). record { test = f; set = s; closed = c })
      (λ (g : Grows f). grow fuel (with_point f (source arcs g.edge)) (let m = missing_less f (source arcs g.edge) n (within g.edge g.is_edge).0 g.from in omega arith) (grown f s g))
      (scan f (length arcs) (omega arith))

  pub live_test : LiveTest
  live_test = grow (missing (λ v. is_occurrence (event v) && not (keeps event p v)) n) (λ v. is_occurrence (event v) && not (keeps event p v)) (omega arith) (record {
    sound = λ v h. let parts = and_parts (is_occurrence (event v)) (not (keeps event p v)) h in live_deleted arcs n within event p v (occurrence_is (event v) parts.0) (not-true (keeps event p v) parts.1);
    deleted = λ v o k. and_from (is_occurrence (event v)) (not (keeps event p v)) (ap is_occurrence o) (ap not k);
  })

  -- a correct placement's live points follow the rules
  pub correct_rules : 0 < n → ((v : ℕ) → v < n → Connects arcs 0 v) → IsCorrect arcs (HasEvent event) p → Rules arcs n event (inserts p) (keeps event p) live_test.test
  correct_rules some reached correct = record {
    moves = λ e h. live_test.closed e h;
    deleted = λ v inside. live_test.set.deleted v;
    kills = λ v inside k l. live_no_kill arcs n within event p correct v inside (reached v inside) k (live_test.set.sound v l);
    start = false_from_ne_true (live_test.test 0) (λ l. start_not_live arcs n within event p correct some (live_test.set.sound 0 l));
  }

  pub live_not_kept_by : (v : ℕ) → live_test.test v ≡ true → keeps event p v ≡ false
  live_not_kept_by v l = false_from_ne_true (keeps event p v) (live_not_kept arcs n within event p v (live_test.set.sound v l))
