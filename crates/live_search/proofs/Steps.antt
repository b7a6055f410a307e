-- How the search goes on.
use Rattle.std.proofs.Common.{◌≡◌, ◌<◌, ◌≤◌, ◌+◌, ◌⊎◌, inl, inr, ⊎_elim, ℕ, Option, List, [], ◌∷◌, ◌++◌, All, length, get_or, refl, sym, ap, ◌∙◌, subst, arith}
use Rattle.std.specs.Prelude.{◌↔◌, Contains, Some}
use Rattle.std.proofs.lemmas.Bool.{cases_eq, cases_lt}
use Rattle.std.proofs.lemmas.List.{append-nil, append_assoc, length-append, get_or_append_left}
use Rattle.std.proofs.lemmas.List.Elements.{All-nil, All-cons, All-head, All-tail, Contains-append_left, Contains-append_cases}
use Rattle.std.proofs.lemmas.Option.{slice_get-get_or, get_or_from_slice_get}
use Rattle.flow_paths.specs.Paths.{source, target, at_point, on_edge, ArcsWithin, IsPath, met}
use Rattle.live_search.specs.Leading.{Graph, IsAmong, LeadsTo}
use Rattle.live_search.specs.Searching.{past, IsLast, IsArc, IsOpen, AddsOpen, IsSearch}
use Rattle.live_search.proofs.Keys.{Inserted, insert_keeps}

none : {X : Type 0} (x : X) → ¬ Contains [] x
none x h = let lt = h.1 in absurd (omega (arith, lt))

-- ---- the arcs to one point

module _ (all : List (ℕ × ℕ)) (v : ℕ) (points arcs : List ℕ) where
  -- no arc is left behind the last
  pub nothing_added : (last : Option ℕ) (old : List ℕ) → IsLast all (length all) v last → AddsOpen all (past last) v points arcs old old
  nothing_added last old is = record {
    more = [];
    behind = sym (append-nil old);
    only = λ u h. absurd (none u h);
    all_added = λ u way. absurd (is.behind way.arc way.late way.is.inside way.is.ends);
  }

  module _ (a : ℕ) (before : Option ℕ) (last : IsLast all a v before) where
    still_open : (u : ℕ) → IsOpen all (a + 1) v points arcs u → IsOpen all (past before) v points arcs u
    still_open u way = record {
      arc = way.arc;
      late = let inside = last.inside in let late = way.late in omega (arith, inside, late);
      is = way.is;
      arc_free = way.arc_free;
      point_free = way.point_free;
    }

    -- an open arc lies behind the arc a, or it is a
    which_open : (u : ℕ) → IsOpen all (past before) v points arcs u → IsOpen all (a + 1) v points arcs u ⊎ ((source all a ≡ u) × (¬ Contains arcs a) × ¬ Contains points u)
    which_open u way = ⊎_elim
        (λ (lt : way.arc < a). absurd (last.behind way.arc way.late lt way.is.ends))
        (λ (le : a ≤ way.arc). ⊎_elim
        (λ (same : way.arc ≡ a). inr (subst (λ e. source all e ≡ u) same way.is.leaves, subst (λ e. ¬ Contains arcs e) same way.arc_free, way.point_free))
        (λ (ne : way.arc ≡ a → ⊥). inl (record { arc = way.arc; late = omega (arith, le, ne); is = way.is; arc_free = way.arc_free; point_free = way.point_free }))
        (cases_eq way.arc a))
        (cases_lt way.arc a)

    pub arc_passed : (old new : List ℕ) → Contains arcs a ⊎ Contains points (source all a) → AddsOpen all (a + 1) v points arcs old new → AddsOpen all (past before) v points arcs old new
    arc_passed old new barred adds = record {
      more = adds.more;
      behind = adds.behind;
      only = λ u h. still_open u (adds.only u h);
      all_added = λ u way. ⊎_elim
          (λ (was : IsOpen all (a + 1) v points arcs u). adds.all_added u was)
          (λ (here : (source all a ≡ u) × (¬ Contains arcs a) × ¬ Contains points u). absurd (⊎_elim here.1 (λ (h : Contains points (source all a)). here.2 (subst (Contains points) here.0 h)) barred))
          (which_open u way);
    }

    pub arc_followed : (w : ℕ) (old between new : List ℕ) → w ≡ source all a → a < length all → target all a ≡ v → (¬ Contains arcs a) → (¬ Contains points w) → Inserted between w new
        → AddsOpen all (a + 1) v points arcs old between → AddsOpen all (past before) v points arcs old new
    arc_followed w old between new leaves inside ends arc_free point_free added adds = record {
      more = adds.more ++ added.more;
      behind = added.behind ∙ ap (λ l. l ++ added.more) adds.behind ∙ append_assoc old adds.more added.more;
      only = λ u h. ⊎_elim
          (λ (was : Contains adds.more u). still_open u (adds.only u was))
          (λ (now : Contains added.more u). subst (IsOpen all (past before) v points arcs) (sym (added.only u now)) (record {
            arc = a;
            late = last.inside;
            is = record { inside = inside; leaves = sym leaves; ends = ends };
            arc_free = arc_free;
            point_free = point_free;
          }))
          (Contains-append_cases adds.more added.more u h);
      all_added = λ u way. ⊎_elim
          (λ (was : IsOpen all (a + 1) v points arcs u). insert_keeps between w new added u (adds.all_added u was))
          (λ (here : (source all a ≡ u) × (¬ Contains arcs a) × ¬ Contains points u). subst (Contains new) (leaves ∙ here.0) added.there)
          (which_open u way);
    }

-- ---- the whole search

module _ (g : Graph) (points arcs goals : List ℕ) where
  pub search_begins : (found : List ℕ) → ((v : ℕ) → Contains found v ↔ Contains goals v) → All (λ v. v < g.points) goals → IsSearch g points arcs goals found 0
  search_begins found same below = record {
    within = omega arith;
    goals_found = λ v h. (same v).1 h;
    sound = λ v h. record { path = []; goal = v; leads = refl; is_goal = (same v).0 h; free = All-nil (λ m. ¬ IsAmong points arcs m) };
    below = λ v h. let in_goals = (same v).0 h in subst (λ x. x < g.points) in_goals.2 (below in_goals.0 v in_goals.1);
    followed = λ k e u lt. absurd (omega (arith, lt));
  }

  -- a path grows by an arc in front
  longer : (e u v : ℕ) → IsArc g.arcs (length g.arcs) e u v → (¬ Contains arcs e) → (¬ Contains points u) → LeadsTo g points arcs goals v → LeadsTo g points arcs goals u
  longer e u v is arc_free point_free rest = record {
    path = e ∷ rest.path;
    goal = rest.goal;
    leads = (is.inside, is.leaves, subst (λ w. IsPath g.arcs w rest.path rest.goal) (sym is.ends) rest.leads);
    is_goal = rest.is_goal;
    free = All-cons (λ m. ¬ IsAmong points arcs m) (at_point (source g.arcs e)) (on_edge e ∷ met g.arcs rest.path) (subst (λ w. ¬ Contains points w) (sym is.leaves) point_free)
        (All-cons (λ m. ¬ IsAmong points arcs m) (on_edge e) (met g.arcs rest.path) arc_free rest.free);
  }

  pub search_follows : (n v : ℕ) (found new : List ℕ) → ArcsWithin g.arcs g.points → n < length found → v ≡ get_or found n v → AddsOpen g.arcs 0 v points arcs found new → IsSearch g points arcs goals found n
      → IsSearch g points arcs goals new (n + 1)
  search_follows n v found new within lt at adds search =
      let stays : (u : ℕ) → Contains found u → Contains new u = λ u h. subst (λ l. Contains l u) (sym adds.behind) (Contains-append_left found adds.more u h) in
      let here : Contains found v = (n, lt, sym at) in
      let split : (u : ℕ) → Contains new u → Contains found u ⊎ Contains adds.more u = λ u h. Contains-append_cases found adds.more u (subst (λ l. Contains l u) adds.behind h) in
      let count : length new ≡ length found + length adds.more = ap length adds.behind ∙ length-append found adds.more in
      let zeroth : get_or found n 0 ≡ v = get_or_from_slice_get found n v 0 (slice_get-get_or found n v lt ∙ ap Some (sym at)) in
      let first : (k : ℕ) → k < length found → get_or new k 0 ≡ get_or found k 0 = λ k inside. ap (λ l. get_or l k 0) adds.behind ∙ get_or_append_left found adds.more 0 k inside in
      record {
        within = omega (arith, lt, count);
        goals_found = λ u h. stays u (search.goals_found u h);
        sound = λ u h. ⊎_elim
            (λ (old : Contains found u). search.sound u old)
            (λ (fresh : Contains adds.more u). let way = adds.only u fresh in longer way.arc u v way.is way.arc_free way.point_free (search.sound v here))
            (split u h);
        below = λ u h. ⊎_elim
            (λ (old : Contains found u). search.below u old)
            (λ (fresh : Contains adds.more u). let way = adds.only u fresh in subst (λ w. w < g.points) way.is.leaves (within way.arc way.is.inside).0)
            (split u h);
        followed = λ k e u before is arc_free point_free. ⊎_elim
            (λ (earlier : k < n).
            let inside : k < length found = omega (arith, earlier, lt) in
            stays u (search.followed k e u earlier (subst (IsArc g.arcs (length g.arcs) e u) (first k inside) is) arc_free point_free))
            (λ (last : n ≤ k).
            let same : k ≡ n = omega (arith, before, last) in
            let is_v : get_or new k 0 ≡ v = ap (λ i. get_or new i 0) same ∙ first n lt ∙ zeroth in
            adds.all_added u (record { arc = e; late = omega arith; is = subst (IsArc g.arcs (length g.arcs) e u) is_v is; arc_free = arc_free; point_free = point_free }))
            (cases_lt k n);
      }

  reached : (found : List ℕ) → IsSearch g points arcs goals found (length found) → (v : ℕ) (path : List ℕ) (goal : ℕ) → IsPath g.arcs v path goal → Contains goals goal → All (λ m. ¬ IsAmong points arcs m) (met g.arcs path) → Contains found v
  reached found search v [] goal leads is_goal free = search.goals_found v (subst (Contains goals) (sym leads) is_goal)
  reached found search v (e ∷ path) goal leads is_goal free =
      let rest = All-tail (λ m. ¬ IsAmong points arcs m) (at_point (source g.arcs e)) (on_edge e ∷ met g.arcs path) free in
      let point_free = All-head (λ m. ¬ IsAmong points arcs m) (at_point (source g.arcs e)) (on_edge e ∷ met g.arcs path) free in
      let arc_free = All-head (λ m. ¬ IsAmong points arcs m) (on_edge e) (met g.arcs path) rest in
      let behind = All-tail (λ m. ¬ IsAmong points arcs m) (on_edge e) (met g.arcs path) rest in
      let there = reached found search (target g.arcs e) path goal leads.2 is_goal behind in
      let at : get_or found there.0 0 ≡ target g.arcs e = get_or_from_slice_get found there.0 (target g.arcs e) 0 (slice_get-get_or found there.0 (target g.arcs e) there.1 ∙ ap Some there.2) in
      search.followed there.0 e v there.1 (record { inside = leads.0; leaves = leads.1; ends = sym at }) arc_free (subst (λ w. ¬ Contains points w) leads.1 point_free)

  pub search_ends : (found : List ℕ) → IsSearch g points arcs goals found (length found) → (v : ℕ) → Contains found v ↔ LeadsTo g points arcs goals v
  search_ends found search v = (search.sound v, λ to. reached found search v to.path to.goal to.leads to.is_goal to.free)
