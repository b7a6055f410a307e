-- What placements make of edges and points, with one expression more.
use Rattle.std.proofs.Common.{◌≡◌, ℕ, suc, ◌+◌, ◌<◌, ◌≤◌, ◌&&◌, ◌||◌, ◌==◌, not, Bool, true, false, if◌then◌else◌, List, [], ◌∷◌, ◌++◌, length, map, get_or, replicate, Some, refl, sym, ap, ◌∙◌, subst, arith, inl, inr, ⊎_elim, Contains}
use Rattle.std.specs.Prelude.{slice_get, All}
use Rattle.std.specs.List.{AllZip, list_any}
use Rattle.std.specs.Option.{option_map_or}
use Rattle.std.proofs.lemmas.Bool.{cases_lt, true≢false, false_from_ne_true, and_from, and_parts, or_cases, or_left, or_right, not-true, not_from_false, eqb-false, ne_eqb}
use Rattle.std.proofs.lemmas.List.{append-nil, length_push, get_or-replicate, get_or_past, length-replicate}
use Rattle.std.proofs.lemmas.List.Elements.{Contains-append_left, Contains-append_right, Contains-push, Contains-push_cases, Contains-get_or}
use Rattle.std.proofs.lemmas.List.Quantifiers.{all_pairs_push}
use Rattle.std.proofs.lemmas.Option.{slice_get_within, slice_get_read, same_Some}
use Rattle.ir_types.specs.declared.syntax.Function.{Function}
use Rattle.point_graph.specs.Graph.{Place, Inside}
use Rattle.point_graph.specs.Numbers.{KeepsRules, ArePoints, all_edges, point_of}
use Rattle.point_graph.specs.declared.graph.Point.TheVariants.{Instr}
use Rattle.point_graph.specs.declared.graph.Points.{Points}
use Rattle.point_numbers.specs.Told.{AreTold}
use Rattle.point_numbers.proofs.Told.{are_told}
use Rattle.expressions.specs.declared.syntax.Expr.{Expr}
use Rattle.expressions.specs.declared.syntax.Event.TheVariants.{Occurs}
use Rattle.expressions.specs.Expressions.{content, content_expr}
use Rattle.expressions.specs.Kept.{Kept}
use Rattle.expressions.specs.Tables.{IsTable, IsEventOf}
use Rattle.placement.specs.declared.placements.Placement.{Placement}
use Rattle.placement.specs.Placements.{IsDeleted}
use Rattle.placement.proofs.EventLemmas.{event_inside}
use Rattle.occurrences.specs.Listed.{ArePlacesOf}
use Rattle.placed_moves.specs.Placed.{IsPoint, IsEdge, IsPlaced}
use Rattle.applied.specs.Motion.{Move}
use Rattle.applied.specs.Applied.{is_stored}
use Rattle.changes.specs.Changed.{inserting, IsAction, IsTemp}
use Rattle.changes.specs.declared.lists.Action.{Action}
use Rattle.changes.specs.declared.lists.Action.TheVariants.{Stays}
use Rattle.planning.specs.PlanOf.{ArePlacementsOf, IsMoveOf, IsNeeded}
use Rattle.live_search.specs.Leading.{Graph}
use Rattle.planning.specs.Marking.{has, is_missing, AreMarks, IsGraphOf, IsSetOf}
use Rattle.planning.specs.Moving.{IsMoved, AddsMove, acted_by, acting, edge_behind, stored_behind, stored_at}
use Rattle.planning.specs.declared.marks.Marks.{Marks}
use Rattle.planning.specs.declared.moves.Moved.{Moved}
use Rattle.planning.proofs.Geometry.{get_map, listed_instr, place_is, inside_is, contains_at, get_some}
use Rattle.planning.proofs.Lists.{differ_once}
use Rattle.planning.proofs.Occurring.{place_occurs, zip_length}
use Rattle.planning.proofs.Placing.{move_by, kept_bit, deleted_at, deleted_back, kept_is, deleted_is, live_is, inserted_is, is_placed}
use Rattle.planning.proofs.Sets.{any_has, has_any, has_contains}
use Rattle.planning.proofs.Acting.{AreQuiet, action_same, action_loads, action_stores, inserting_push}

-- ---- lists

zip_push : {A B : Type 0} (R : A → B → Type 0) (xs : List A) (ys : List B) (x : A) (y : B) → AllZip R xs ys → R x y → AllZip R (xs ++ x ∷ []) (ys ++ y ∷ [])
zip_push R [] [] x y h r = (r, tt)
zip_push R [] (b ∷ ys) x y h r = absurd h
zip_push R (a ∷ xs) [] x y h r = absurd h
zip_push R (a ∷ xs) (b ∷ ys) x y h r = (h.0, zip_push R xs ys x y h.1 r)

all_same : {X : Type 0} (n i : ℕ) (x : X) → get_or (replicate n x) i x ≡ x
all_same n i x = ⊎_elim
    (λ (lt : i < n). get_or-replicate n i x x lt)
    (λ (ge : n ≤ i). get_or_past (replicate n x) i x (omega (arith, ge, length-replicate n x)))
    (cases_lt i n)

pub there_at : {X : Type 0} (xs : List X) (i : ℕ) (x : X) → i < length xs → x ≡ get_or xs i x → slice_get xs i ≡ Some x
there_at xs i x lt read = slice_get_read xs (length xs) i x refl lt read

-- the numbers of a placement are those of edges and points
pub edges_within : (f : Function) (p : Points) (t : Kept) (placements : List Placement) (x : ℕ) (placement : Placement) → ArePlacementsOf f p t placements → slice_get placements x ≡ Some placement
    → All (λ n. n < length p.edges) placement.inserted
edges_within f p t placements x placement are there k d lt = (are.each x placement there).edges (get_or placement.inserted k d) (Contains-get_or placement.inserted k d lt)

pub points_within : (f : Function) (p : Points) (t : Kept) (placements : List Placement) (x : ℕ) (placement : Placement) → ArePlacementsOf f p t placements → slice_get placements x ≡ Some placement
    → All (λ n. n < length p.points) placement.kept
points_within f p t placements x placement are there k d lt = (are.each x placement there).occurrences (get_or placement.kept k d) (Contains-get_or placement.kept k d lt)

-- the points of an expression are numbers of points
pub places_within : (f : Function) (p : Points) (t : Kept) → IsTable f p t → (x : ℕ) (places : List ℕ) → ArePlacesOf t.occurring x places → (n : ℕ) → n ≡ length p.points → All (λ i. i < n) places
places_within f p t table x places occur n same k d lt =
    let i = get_or places k d in
    let occurs = place_occurs f p t table x places occur i (Contains-get_or places k d lt) in
    omega (arith, event_inside f p t x i Occurs occurs, same)

-- ---- one expression at a point

module _ (f : Function) (p : Points) (t : Kept) (table : IsTable f p t) (told : AreTold f (map (point_of f) p.points) (all_edges f p.blocks) p.edges) where
  -- at most one expression occurs at a point
  pub one_occurs : (x y i : ℕ) → IsEventOf f p t x i Occurs → IsEventOf f p t y i Occurs → x ≡ y
  one_occurs x y i a b =
      let points : a.at ≡ b.at = same_Some a.at b.at (sym a.point_there ∙ b.point_there) in
      let exprs : a.expr ≡ b.expr = same_Some a.expr b.expr (sym a.is_event ∙ ap (λ q. content_expr t.module_of (content f q)) points ∙ b.is_event) in
      differ_once t.exprs table.exprs.differ x y a.expr a.expr_there (b.expr_there ∙ ap Some (sym exprs))

  -- what another expression does where this one occurs
  pub other_quiet : (x i b k : ℕ) → slice_get p.points i ≡ Some (Instr b k) → IsEventOf f p t x i Occurs
      → (y : ℕ) (placement : Placement) (m : Move) → (y ≡ x → ⊥) → IsPlaced f p t y placement m → (m.deleted (Place b k) ≡ false) × (is_stored m b k ≡ false)
  other_quiet x i b k at occurs y placement m other placed =
      let here : IsPoint f p i (Place b k) = get_map (point_of f) p.points i (Instr b k) at in
      let none = λ (j : ℕ) (e : IsPoint f p j (Place b k)) (is : IsEventOf f p t y j Occurs).
      let same : j ≡ i = told.points_once j i (Place b k) e here in
      let no : ⊥ = other (one_occurs y x i (subst (λ n. IsEventOf f p t y n Occurs) same is) occurs) in no in
      let kept : m.kept (Place b k) ≡ false = false_from_ne_true (m.kept (Place b k)) (λ h. let r = (placed.kept_is (Place b k)).0 h in none r.0 r.1 r.2) in (
        false_from_ne_true (m.deleted (Place b k)) (λ h. let r = (placed.deleted_is (Place b k)).0 h in none r.0 r.1 r.2.0),
        ap (λ q. if q then (if m.inserted (Inside b (suc k)) then false else m.live (Place b (suc k))) else false) kept,
      )

pub quiet_all : (b k : ℕ) (moves : List Move) → ((m : Move) → Contains moves m → (m.deleted (Place b k) ≡ false) × (is_stored m b k ≡ false)) → AreQuiet b k moves
quiet_all b k [] each = tt
quiet_all b k (m ∷ moves) each =
    let first = each m (contains_at (m ∷ moves) 0 m refl) in
    (first.0, first.1, quiet_all b k moves (λ n h. each n (Contains-append_right (m ∷ []) moves n h)))

if_not : (x y : Bool) → (if x then false else y) ≡ (not x && y)
if_not true y = refl
if_not false y = refl

if_more : (bit : Bool) (list : List ℕ) (temp : ℕ) → (if bit then list ++ temp ∷ [] else list) ≡ (list ++ (if bit then temp ∷ [] else []))
if_more true list temp = refl
if_more false list temp = sym (append-nil list)

-- ---- the expressions so far

module _ (f : Function) (p : Points) (t : Kept) (placements : List Placement) where
  pub IsMoved-start : (moved : Moved) → moved.temps.items ≡ [] → moved.edges.items ≡ replicate (length p.edges) [] → moved.actions.items ≡ replicate (length p.points) Stays → IsMoved f p t placements 0 moved
  IsMoved-start moved temps edges actions = record {
    moves = [];
    temps = subst (λ l. AllZip (IsTemp t.exprs) l []) (sym temps) tt;
    ascending = λ i j d lt within. absurd (omega (arith, within));
    before = λ move h. let none : h.0 < 0 = h.1 in absurd (omega (arith, none));
    are_moves = λ move h. let none : h.0 < 0 = h.1 in absurd (omega (arith, none));
    every = λ y placement lt. absurd (omega (arith, lt));
    few = omega (arith, ap length temps);
    edge_count = ap length edges ∙ length-replicate (length p.edges) [];
    edges = λ n edge is. ap (λ l. get_or l n []) edges ∙ all_same (length p.edges) n [];
    action_count = ap length actions ∙ length-replicate (length p.points) Stays;
    actions = λ i b k at. subst (IsAction [] b k) (sym (ap (λ l. get_or l i Stays) actions ∙ all_same (length p.points) i Stays)) (record { copies = λ temp number instr. refl; adds = λ temp n. refl });
  }

  module _ (x : ℕ) (placement : Placement) (placement_there : slice_get placements x ≡ Some placement) where
    -- an expression that isn't needed
    pub IsMoved-skip : (moved : Moved) → IsMoved f p t placements x moved → (IsNeeded f p t x placement → ⊥) → IsMoved f p t placements (x + 1) moved
    IsMoved-skip moved is unneeded = record {
      moves = is.moves;
      temps = is.temps;
      ascending = is.ascending;
      before = λ move h. omega (arith, is.before move h);
      are_moves = is.are_moves;
      every = λ y other lt there needed. ⊎_elim
          (λ (l : y < x). is.every y other l there needed)
          (λ (g : x ≤ y).
          let same : y ≡ x = omega (arith, lt, g) in
          let one : other ≡ placement = same_Some other placement (sym there ∙ ap (slice_get placements) same ∙ placement_there) in
          absurd (unneeded (subst (λ z. IsNeeded f p t z placement) same (subst (λ (q : Placement). IsNeeded f p t y q) one needed))))
          (cases_lt y x);
      few = omega (arith, is.few);
      edge_count = is.edge_count;
      edges = is.edges;
      action_count = is.action_count;
      actions = is.actions;
    }

    module _ (table : IsTable f p t) (places : List ℕ) (occur : ArePlacesOf t.occurring x places) (set : List ℕ) (kept : IsSetOf placement.kept set) where
      abbrev any : Bool
      any = list_any (is_missing set) places

      abbrev some : Bool
      some = not (length placement.inserted == 0)

      pub needed_then : (some || any) ≡ true → IsNeeded f p t x placement
      needed_then e = ⊎_elim
          (λ (h : some ≡ true).
          let ne : length placement.inserted ≡ 0 → ⊥ = eqb-false (length placement.inserted) 0 (not-true (length placement.inserted == 0) h) in
          inl (get_or placement.inserted 0 0, Contains-get_or placement.inserted 0 0 (omega (arith, ne))))
          (λ (h : any ≡ true).
          let r = any_has (is_missing set) places h in
          inr (r.0, deleted_at f p t table x placement set places kept occur r.0 (and_from (has places r.0) (is_missing set r.0) r.1 r.2)))
          (or_cases some any e)

      pub needed_else : (some || any) ≡ false → IsNeeded f p t x placement → ⊥
      needed_else e needed = true≢false (sym (⊎_elim
          (λ (h : (n : ℕ) × Contains placement.inserted n).
          let inside : h.1.0 < length placement.inserted = h.1.1 in
          let ne : length placement.inserted ≡ 0 → ⊥ = λ z. omega (arith, inside, z) in
          or_left some any (not_from_false (length placement.inserted == 0) (ne_eqb (length placement.inserted) 0 ne)))
          (λ (h : (i : ℕ) × IsDeleted (IsEventOf f p t x) placement i).
          let both = and_parts (has places h.0) (is_missing set h.0) (deleted_back f p t table x placement set places kept occur h.0 h.1) in
          or_right some any (has_any (is_missing set) places h.0 both.0 both.1))
          needed) ∙ e)

    module _ (table : IsTable f p t) (points : ArePoints f p) (told : AreTold f (map (point_of f) p.points) (all_edges f p.blocks) p.edges) (expr : Expr) (expr_there : slice_get t.exprs x ≡ Some expr) (marks : Marks) (places : List ℕ) (g : Graph) (is_graph : IsGraphOf p g) (are : AreMarks g placement places marks) (occur : ArePlacesOf t.occurring x places) where
      abbrev m : Move
      m = move_by f p x expr marks places

      abbrev kept_here : ℕ → Bool
      kept_here i = kept_bit marks.kept.keys places i

      abbrev stored_here : ℕ → Bool
      stored_here i = stored_at p marks.inserted.keys marks.live.keys i

      -- the store behind a place is told by the bits
      stored_is : (i b k : ℕ) → slice_get p.points i ≡ Some (Instr b k) → is_stored m b k ≡ (if kept_here i then stored_here i else false)
      stored_is i b k at =
          let l = listed_instr f p points told i b k at in
          let here : IsPoint f p i (Place b k) = get_map (point_of f) p.points i (Instr b k) at in
          let next : i + 1 ≡ l.places.start.point + suc (suc k) = omega (arith, l.at) in
          let behind : IsPoint f p (i + 1) (Place b (suc k)) = subst (λ n. IsPoint f p n (Place b (suc k))) (sym next) (place_is f p points told b l.places (suc k) (omega (arith, l.within))) in
          let number : edge_behind p.starts b k ≡ l.places.start.edge + suc k =
          ap (λ o. option_map_or (λ s. s.edge) o 0 + k + 1) l.places.start_there ∙ (let z : l.places.start.edge + k + 1 ≡ l.places.start.edge + suc k = omega arith in z) in
          let edge : IsEdge f p (edge_behind p.starts b k) (Inside b (suc k)) = subst (λ n. IsEdge f p n (Inside b (suc k))) (sym number) (inside_is f p points told b l.places (suc k) (omega (arith, l.within))) in
          ap (λ q. if q then (if m.inserted (Inside b (suc k)) then false else m.live (Place b (suc k))) else false) (kept_is f p t table x expr expr_there placement marks places told g is_graph are occur i (Place b k) here)
          ∙ ap (λ q. if kept_here i then q else false)
          (ap (λ q. if q then false else m.live (Place b (suc k))) (inserted_is f p t table x expr expr_there placement marks places told g is_graph are occur (edge_behind p.starts b k) (Inside b (suc k)) edge)
          ∙ ap (λ q. if has marks.inserted.keys (edge_behind p.starts b k) then false else q) (live_is f p t table x expr expr_there placement marks places told g is_graph are occur (i + 1) (Place b (suc k)) behind)
          ∙ if_not (has marks.inserted.keys (edge_behind p.starts b k)) (has marks.live.keys (i + 1))
          ∙ sym (ap (stored_behind p.starts marks.inserted.keys marks.live.keys i) at))

      module _ (old new : Moved) (is : IsMoved f p t placements x old) (adds : AddsMove p marks places x old new) where
        same_count : length old.temps.items ≡ length is.moves
        same_count = zip_length (IsTemp t.exprs) old.temps.items is.moves is.temps

        quiet_before : (i b k : ℕ) → slice_get p.points i ≡ Some (Instr b k) → IsEventOf f p t x i Occurs → AreQuiet b k is.moves
        quiet_before i b k at occurs = quiet_all b k is.moves (λ n h.
            let move_of = is.are_moves n h in
            let before = is.before n h in
            other_quiet f p t table told x i b k at occurs n.number move_of.placement n (λ e. omega (arith, before, e)) move_of.placed)

        abbrev became : ℕ → Action → Action
        became i before = if has places i then acting p marks (length is.moves) i before else before

        action_of : (i b k : ℕ) → slice_get p.points i ≡ Some (Instr b k) → (before : Action) → IsAction is.moves b k before → IsAction (is.moves ++ m ∷ []) b k (became i before)
        action_of i b k at before acts = by (has places i) (has marks.kept.keys i) (stored_here i) refl refl refl
          where
            here : IsPoint f p i (Place b k)
            here = get_map (point_of f) p.points i (Instr b k) at

            deleted : (o q : Bool) → has places i ≡ o → has marks.kept.keys i ≡ q → m.deleted (Place b k) ≡ (o && not q)
            deleted o q eo eq = deleted_is f p t table x expr expr_there placement marks places told g is_graph are occur i (Place b k) here ∙ ap (λ c. c && is_missing marks.kept.keys i) eo ∙ ap (λ c. o && not c) eq

            stored : (o q s : Bool) → has places i ≡ o → has marks.kept.keys i ≡ q → stored_here i ≡ s → is_stored m b k ≡ (if o && q then s else false)
            stored o q s eo eq es =
                stored_is i b k at ∙ ap (λ c. if c && has marks.kept.keys i then stored_here i else false) eo ∙ ap (λ c. if o && c then stored_here i else false) eq ∙ ap (λ c. if o && q then c else false) es

            value : (o q s : Bool) → has places i ≡ o → has marks.kept.keys i ≡ q → stored_here i ≡ s → became i before ≡ (if o then acted_by q s (length is.moves) before else before)
            value o q s eo eq es =
                ap (λ c. if c then acted_by (has marks.kept.keys i) (stored_here i) (length is.moves) before else before) eo
                ∙ ap (λ c. if o then acted_by c (stored_here i) (length is.moves) before else before) eq
                ∙ ap (λ c. if o then acted_by q c (length is.moves) before else before) es

            quiet : has places i ≡ true → AreQuiet b k is.moves
            quiet eo = quiet_before i b k at (place_occurs f p t table x places occur i (has_contains places i eo))

            by : (o q s : Bool) → has places i ≡ o → has marks.kept.keys i ≡ q → stored_here i ≡ s → IsAction (is.moves ++ m ∷ []) b k (became i before)
            by false q s eo eq es = subst (IsAction (is.moves ++ m ∷ []) b k) (sym (value false q s eo eq es)) (action_same b k is.moves m before acts (deleted false q eo eq) (stored false q s eo eq es))
            by true true true eo eq es =
                subst (IsAction (is.moves ++ m ∷ []) b k) (sym (value true true true eo eq es)) (action_stores b k is.moves m (quiet eo) (deleted true true eo eq) (stored true true true eo eq es))
            by true true false eo eq es =
                subst (IsAction (is.moves ++ m ∷ []) b k) (sym (value true true false eo eq es)) (action_same b k is.moves m before acts (deleted true true eo eq) (stored true true false eo eq es))
            by true false s eo eq es =
                subst (IsAction (is.moves ++ m ∷ []) b k) (sym (value true false s eo eq es)) (action_loads b k is.moves m (quiet eo) (deleted true false eo eq) (stored true false s eo eq es))

        -- an expression that is needed
        pub IsMoved-more : IsNeeded f p t x placement → IsMoved f p t placements (x + 1) new
        IsMoved-more needed = record {
          moves = is.moves ++ m ∷ [];
          temps = subst (λ l. AllZip (IsTemp t.exprs) l (is.moves ++ m ∷ [])) (sym adds.temps)
              (zip_push (IsTemp t.exprs) old.temps.items is.moves x m is.temps (record { number = refl; expr = expr_there }));
          ascending = all_pairs_push (λ move next. move.number < next.number) is.moves m is.ascending (λ k d lt. is.before (get_or is.moves k d) (Contains-get_or is.moves k d lt));
          before = λ move h. ⊎_elim
              (λ (l : Contains is.moves move). omega (arith, is.before move l))
              (λ (same : m ≡ move). let number : x ≡ move.number = ap (λ z. z.number) same in omega (arith, number))
              (Contains-push_cases is.moves m move h);
          are_moves = λ move h. ⊎_elim
              (λ (l : Contains is.moves move). is.are_moves move l)
              (λ (same : m ≡ move). subst (IsMoveOf f p t placements) same (record {
                placement = placement;
                there = placement_there;
                placed = is_placed f p t table x expr expr_there placement marks places told g is_graph are occur;
                needed = needed;
              }))
              (Contains-push_cases is.moves m move h);
          every = λ y other lt there need. ⊎_elim
              (λ (l : y < x). let has = is.every y other l there need in record { move = has.move; among = Contains-append_left is.moves (m ∷ []) has.move has.among; number = has.number })
              (λ (g : x ≤ y). record { move = m; among = Contains-push is.moves m; number = omega (arith, lt, g) })
              (cases_lt y x);
          few = omega (arith, is.few, ap length adds.temps, length_push old.temps.items x);
          edge_count = adds.edges.len ∙ is.edge_count;
          edges = λ n edge e.
              let inside : n < length old.edges.items = omega (arith, slice_get_within (all_edges f p.blocks) n edge e, told.count, is.edge_count) in
              adds.edges.each n inside
              ∙ if_more (has marks.inserted.keys n) (get_or old.edges.items n []) (length old.temps.items)
              ∙ ap (λ l. l ++ (if has marks.inserted.keys n then length old.temps.items ∷ [] else [])) (is.edges n edge e)
              ∙ ap (λ j. inserting 0 edge is.moves ++ (if has marks.inserted.keys n then j ∷ [] else [])) same_count
              ∙ ap (λ q. inserting 0 edge is.moves ++ (if q then length is.moves ∷ [] else [])) (sym (inserted_is f p t table x expr expr_there placement marks places told g is_graph are occur n edge e))
              ∙ sym (inserting_push edge is.moves m);
          action_count = adds.actions.len ∙ is.action_count;
          actions = λ i b k at.
              let inside : i < length old.actions.items = omega (arith, slice_get_within p.points i (Instr b k) at, is.action_count) in
              let value = adds.actions.each i inside ∙ ap (λ j. if has places i then acting p marks j i (get_or old.actions.items i Stays) else get_or old.actions.items i Stays) same_count in
              subst (IsAction (is.moves ++ m ∷ []) b k) (sym value) (action_of i b k at (get_or old.actions.items i Stays) (is.actions i b k at));
        }

-- ---- the next expression, by what the code tests

module _ (f : Function) (p : Points) (t : Kept) (placements : List Placement) (defined : 0 < length f.blocks) (points : ArePoints f p) (table : IsTable f p t) (x : ℕ) (inside : x < length t.exprs) (placement : Placement) (there : slice_get placements x ≡ Some placement)
    (places : List ℕ) (occur : ArePlacesOf t.occurring x places) (set : List ℕ) (kept : IsSetOf placement.kept set) (old : Moved) (is : IsMoved f p t placements x old) (q : Bool) (tested : q ≡ (not (length placement.inserted == 0) || list_any (is_missing set) places)) where
  told : AreTold f (map (point_of f) p.points) (all_edges f p.blocks) p.edges
  told = let keeps : KeepsRules f = record { module_of = t.module_of; rules = table.rules } in are_told f p keeps defined points

  expr : (e : Expr) × (slice_get t.exprs x ≡ Some e)
  expr = get_some t.exprs x inside

  pub next_more : (g : Graph) → IsGraphOf p g → (marks : Marks) → AreMarks g placement places marks → (new : Moved) → q ≡ true → AddsMove p marks places x old new → IsMoved f p t placements (x + 1) new
  next_more g is_graph marks are new h adds =
      IsMoved-more f p t placements x placement there table points told expr.0 expr.1 marks places g is_graph are occur old new is adds
      (needed_then f p t placements x placement there table places occur set kept (sym tested ∙ h))

  pub next_skip : q ≡ false → IsMoved f p t placements (x + 1) old
  next_skip h =
      IsMoved-skip f p t placements x placement there old is
      (needed_else f p t placements x placement there table places occur set kept (sym tested ∙ h))
