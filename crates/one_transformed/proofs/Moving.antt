-- The plans of the same placements in a function say the same of its edges and its occurrences.
use Rattle.std.proofs.Common.{◌≡◌, ◌⊎◌, inl, inr, ⊎_elim, ℕ, zero, suc, ◌<◌, ◌≤◌, Bool, true, false, if◌then◌else◌, List, [], ◌∷◌, length, map, get_or, Some, refl, sym, ap, ◌∙◌, subst, arith}
use Rattle.std.specs.Prelude.{AllPairs, Contains, slice_get}
use Rattle.std.specs.List.{AllZip}
use Rattle.std.proofs.lemmas.Bool.{cases_lt}
use Rattle.std.proofs.lemmas.List.Elements.{Contains-append_right}
use Rattle.std.proofs.lemmas.Option.{slice_get_within, same_Some}
use Rattle.ir_types.specs.declared.syntax.Function.{Function}
use Rattle.point_graph.specs.Graph.{Point, Place, Edge, Inside, IsReached}
use Rattle.point_graph.specs.Numbers.{ArePoints, all_edges, point_of}
use Rattle.point_graph.specs.declared.graph.Points.{Points}
use Rattle.point_numbers.specs.Told.{AreTold}
use Rattle.expressions.specs.Kept.{Kept}
use Rattle.expressions.specs.Tables.{IsTable, IsEventOf}
use Rattle.placement.specs.declared.placements.Placement.{Placement}
use Rattle.placement.specs.Placements.{arcs_of, IsLiveAt}
use Rattle.placed_moves.specs.Placed.{IsPoint, IsEdge, IsPlaced, IsTold}
use Rattle.applied.specs.Motion.{OccursIn, Move}
use Rattle.applied.specs.Applied.{Plan, IsFreshPrefix, is_stored}
use Rattle.applied.proofs.Living.{reached_next}
use Rattle.planning.specs.PlanOf.{IsNeeded, HasMove}
use Rattle.transform.specs.declared.placed.Placed.{Placed}
use Rattle.transform.specs.Transformed.{IsPlanOfPlaced}
use Rattle.one_transformed.specs.Numberings.{AreSame}
use Rattle.one_transformed.proofs.Lists.{same_bool}
use Rattle.one_transformed.proofs.Numbering.{NumbersTold, turned}
use Rattle.one_transformed.proofs.Readings.{live_to}
use Rattle.one_transformed.proofs.Alike.{IsAlike, AreAlike}

-- what the laws of the crates below say of numbers and of moves
pub record PlacedLaws : Type 0 where
  pub numbered : NumbersTold
  pub told : (f : Function) (p : Points) (t : Kept) (x : ℕ) (placement : Placement) (move : Move) → 0 < length f.blocks → ArePoints f p → IsTable f p t → IsPlaced f p t x placement move → IsTold t.module_of f move

-- ---- two moves by one placement

module _ (f : Function) (p p' : Points) (t t' : Kept) (same : AreSame f p p' t t') (x : ℕ) (placement : Placement) (move other : Move) (is : IsPlaced f p t x placement move) (also : IsPlaced f p' t' x placement other) where
  pub point_there : (i : ℕ) (v : Point) → IsPoint f p i v → IsPoint f p' i v
  point_there i v at = subst (λ l. slice_get (map (point_of f) l) i ≡ Some v) same.points at

  pub edge_there : (n : ℕ) (edge : Edge) → IsEdge f p n edge → IsEdge f p' n edge
  edge_there n edge at = subst (λ l. slice_get (all_edges f l) n ≡ Some edge) same.blocks at

  inserted_to : (edge : Edge) → move.inserted edge ≡ true → other.inserted edge ≡ true
  inserted_to edge inserted =
      let n = (is.inserted_is edge).0 inserted in
      (also.inserted_is edge).1 (n.0, edge_there n.0 edge n.1, n.2)

  kept_to : (v : Point) → move.kept v ≡ true → other.kept v ≡ true
  kept_to v kept =
      let i = (is.kept_is v).0 kept in
      (also.kept_is v).1 (i.0, point_there i.0 v i.1, (same.events x i.0 _).0 i.2, i.3)

  deleted_to : (v : Point) → move.deleted v ≡ true → other.deleted v ≡ true
  deleted_to v deleted =
      let i = (is.deleted_is v).0 deleted in
      (also.deleted_is v).1 (i.0, point_there i.0 v i.1, ((same.events x i.0 _).0 i.2.0, i.2.1))

  live_there : (i : ℕ) (v : Point) → IsPoint f p i v → move.live v ≡ true → other.live v ≡ true
  live_there i v at live =
      let here = live_to (IsEventOf f p t x) (IsEventOf f p' t' x) (λ v event. (same.events x v event).0) (λ v event. (same.events x v event).1) (arcs_of p.edges) placement i ((is.live_is i v at).0 live) in
      (also.live_is i v (point_there i v at)).1 (subst (λ edges. IsLiveAt (arcs_of edges) (IsEventOf f p' t' x) placement i) same.edges here)

module _ (laws : PlacedLaws) (f : Function) (p p' : Points) (t t' : Kept) (same : AreSame f p p' t t') (x : ℕ) (placement : Placement) (move other : Move) (is : IsPlaced f p t x placement move) (also : IsPlaced f p' t' x placement other)
    (defined : 0 < length f.blocks) (are : ArePoints f p) (table : IsTable f p t) where
  abbrev back : AreSame f p' p t' t
  back = turned f p p' t t' same

  pub inserted_same : (edge : Edge) → move.inserted edge ≡ other.inserted edge
  inserted_same edge = same_bool (move.inserted edge) (other.inserted edge) (inserted_to f p p' t t' same x placement move other is also edge) (inserted_to f p' p t' t back x placement other move also is edge)

  kept_same : (v : Point) → move.kept v ≡ other.kept v
  kept_same v = same_bool (move.kept v) (other.kept v) (kept_to f p p' t t' same x placement move other is also v) (kept_to f p' p t' t back x placement other move also is v)

  pub deleted_same : (v : Point) → move.deleted v ≡ other.deleted v
  deleted_same v = same_bool (move.deleted v) (other.deleted v) (deleted_to f p p' t t' same x placement move other is also v) (deleted_to f p' p t' t back x placement other move also is v)

  numbers : AreTold f (map (point_of f) p.points) (all_edges f p.blocks) p.edges
  numbers = laws.numbered f p (record { module_of = t.module_of; rules = table.rules }) defined are

  live_same : (v : Point) → IsReached f v → move.live v ≡ other.live v
  live_same v reached =
      let i = numbers.points_there v reached in
      same_bool (move.live v) (other.live v) (live_there f p p' t t' same x placement move other is also i.0 v i.1)
      (live_there f p' p t' t back x placement other move also is i.0 v (point_there f p p' t t' same x placement move other is also i.0 v i.1))

  -- the point behind a kept occurrence is reached
  behind_kept : (b k : ℕ) → move.kept (Place b k) ≡ true → IsReached f (Place b (suc k))
  behind_kept b k kept =
      let here = (laws.told f p t x placement move defined are table is).kept_is (Place b k) kept in
      let occurs : OccursIn t.module_of f move.expr b k = here.1 in
      reached_next f (Inside b (suc k)) (Place b k) (Place b (suc k)) (record {
        block = occurs.block;
        block_there = occurs.block_there;
        within = omega (arith, slice_get_within occurs.block.instrs k occurs.instr occurs.here);
        begins = refl;
        ends = refl;
      }) here.0

  pub stored_same : (b k : ℕ) → is_stored move b k ≡ is_stored other b k
  stored_same b k = by (move.kept (Place b k)) refl
    where
      by : (q : Bool) → move.kept (Place b k) ≡ q → is_stored move b k ≡ is_stored other b k
      by true kept =
          let place = Place b k in
          let next = Place b (suc k) in
          let edge = Inside b (suc k) in
          ap (λ kept. if kept then (if move.inserted edge then false else move.live next) else false) (kept_same place)
          ∙ ap (λ q. if other.kept place then (if q then false else move.live next) else false) (inserted_same edge)
          ∙ ap (λ q. if other.kept place then (if other.inserted edge then false else q) else false) (live_same next (behind_kept b k kept))
      by false kept =
          let place = Place b k in
          let next = Place b (suc k) in
          let edge = Inside b (suc k) in
          ap (λ kept. if kept then (if move.inserted edge then false else move.live next) else false) kept
          ∙ ap (λ kept. if kept then (if other.inserted edge then false else other.live next) else false) (sym kept ∙ kept_same place)

-- ---- lists of moves that ascend

abbrev Ascend : List Move → Type 0
Ascend moves = AllPairs (λ move next. move.number < next.number) moves

rest_ascend : (move : Move) (moves : List Move) → Ascend (move ∷ moves) → Ascend moves
rest_ascend move moves up i j d lt within = up (suc i) (suc j) d (omega (arith, lt)) (omega (arith, within))

first_less : (move : Move) (moves : List Move) → Ascend (move ∷ moves) → (later : Move) → Contains moves later → move.number < later.number
first_less move moves up later among =
    let lt : move.number < (get_or moves among.0 later).number = up 0 (suc among.0) later (omega arith) (omega (arith, among.1)) in
    omega (arith, lt, ap (λ m. m.number) among.2)

first_or_later : (move : Move) (moves : List Move) (found : Move) → Contains (move ∷ moves) found → (move ≡ found) ⊎ Contains moves found
first_or_later move moves found (zero, within, is) = inl is
first_or_later move moves found (suc k, within, is) = inr (k, omega (arith, within), is)

first_least : (move : Move) (moves : List Move) → Ascend (move ∷ moves) → (n : ℕ) → HasMove (move ∷ moves) n → move.number ≤ n
first_least move moves up n has = ⊎_elim
    (λ (first : move ≡ has.move). omega (arith, ap (λ m. m.number) first, has.number))
    (λ (later : Contains moves has.move). omega (arith, first_less move moves up has.move later, has.number))
    (first_or_later move moves has.move has.among)

later_has : (move : Move) (moves : List Move) (n : ℕ) → HasMove (move ∷ moves) n → move.number < n → HasMove moves n
later_has move moves n has lt = ⊎_elim
    (λ (first : move ≡ has.move). absurd (omega (arith, ap (λ m. m.number) first, has.number, lt)))
    (λ (later : Contains moves has.move). record { move = has.move; among = later; number = has.number })
    (first_or_later move moves has.move has.among)

none_there : (n : ℕ) → HasMove [] n → ⊥
none_there n has = absurd (omega (arith, has.among.1))

first_there : (move : Move) (moves : List Move) → Contains (move ∷ moves) move
first_there move moves = (0, omega arith, refl)

later_there : (move : Move) (moves : List Move) (later : Move) → Contains moves later → Contains (move ∷ moves) later
later_there move moves later among = Contains-append_right (move ∷ []) moves later among

-- with the same numbers they can be gone along together
pub paired : (R : Move → Move → Type 0) (moves others : List Move) → Ascend moves → Ascend others
    → ((move : Move) → Contains moves move → HasMove others move.number) → ((other : Move) → Contains others other → HasMove moves other.number)
    → ((move other : Move) → Contains moves move → Contains others other → move.number ≡ other.number → R move other) → AllZip R moves others
paired R [] [] up up' to back alike = tt
paired R [] (other ∷ others) up up' to back alike = absurd (none_there other.number (back other (first_there other others)))
paired R (move ∷ moves) [] up up' to back alike = absurd (none_there move.number (to move (first_there move moves)))
paired R (move ∷ moves) (other ∷ others) up up' to back alike =
    let low : other.number ≤ move.number = first_least other others up' move.number (to move (first_there move moves)) in
    let low' : move.number ≤ other.number = first_least move moves up other.number (back other (first_there other others)) in
    let same : move.number ≡ other.number = omega (arith, low, low') in (
      alike move other (first_there move moves) (first_there other others) same,
      paired R moves others (rest_ascend move moves up) (rest_ascend other others up')
          (λ m among. later_has other others m.number (to m (later_there move moves m among)) (omega (arith, same, first_less move moves up m among)))
          (λ o among. later_has move moves o.number (back o (later_there other others o among)) (omega (arith, same, first_less other others up' o among)))
          (λ m o among among'. alike m o (later_there move moves m among) (later_there other others o among')),
    )

-- ---- prefixes

pub one_prefix : (f : Function) (i j : ℕ) → IsFreshPrefix f i → IsFreshPrefix f j → i ≡ j
one_prefix f i j is also = by (cases_lt i j) (cases_lt j i)
  where
    by : (i < j) ⊎ (j ≤ i) → (j < i) ⊎ (i ≤ j) → i ≡ j
    by (inl lt) other = absurd (also.least i lt is.unused)
    by (inr ge) (inl lt) = absurd (is.least j lt also.unused)
    by (inr ge) (inr ge') = omega (arith, ge, ge')

-- ---- the plans of a function

-- what is needed by one is needed by the other
needed_there : (f : Function) (p p' : Points) (t t' : Kept) (same : AreSame f p p' t t') (x : ℕ) (placement : Placement) → IsNeeded f p t x placement → IsNeeded f p' t' x placement
needed_there f p p' t t' same x placement (inl inserted) = inl inserted
needed_there f p p' t t' same x placement (inr deleted) = inr (deleted.0, ((same.events x deleted.0 _).0 deleted.1.0, deleted.1.1))

module _ (f : Function) (q q' : Placed) (same : AreSame f q.points q'.points q.table q'.table) (placements : q.placements ≡ q'.placements) (plan other : Plan) (plan_of : IsPlanOfPlaced plan f q) (other_of : IsPlanOfPlaced other f q') where
  partner : (move : Move) → Contains plan.moves move → HasMove other.moves move.number
  partner move among =
      let of = plan_of.moves move among in
      other_of.every move.number of.placement (subst (λ l. slice_get l move.number ≡ Some of.placement) placements of.there)
      (needed_there f q.points q'.points q.table q'.table same move.number of.placement of.needed)

module _ (laws : PlacedLaws) (f : Function) (q q' : Placed) (same : AreSame f q.points q'.points q.table q'.table) (placements : q.placements ≡ q'.placements) (plan other : Plan) (plan_of : IsPlanOfPlaced plan f q) (other_of : IsPlanOfPlaced other f q')
    (defined : 0 < length f.blocks) (are : ArePoints f q.points) (table : IsTable f q.points q.table) where
  alike_moves : (move next : Move) → Contains plan.moves move → Contains other.moves next → move.number ≡ next.number → IsAlike plan.naming other.naming move next
  alike_moves move next among among' number =
      let of = plan_of.moves move among in
      let of' = other_of.moves next among' in
      let there : slice_get q'.placements next.number ≡ Some of.placement = subst (λ x. slice_get q'.placements x ≡ Some of.placement) number (subst (λ l. slice_get l move.number ≡ Some of.placement) placements of.there) in
      let one : of'.placement ≡ of.placement = same_Some of'.placement of.placement (sym of'.there ∙ there) in
      let placed : IsPlaced f q'.points q'.table move.number of.placement next =
      subst (λ x. IsPlaced f q'.points q'.table x of.placement next) (sym number) (subst (λ placement. IsPlaced f q'.points q'.table next.number placement next) one of'.placed) in
      let expr_there : slice_get q'.table.exprs move.number ≡ Some move.expr = subst (λ l. slice_get l move.number ≡ Some move.expr) same.exprs of.placed.expr_there in
      record {
        prefix = one_prefix f plan.naming.prefix other.naming.prefix plan_of.prefix other_of.prefix;
        number = number;
        expr = same_Some move.expr next.expr (sym expr_there ∙ placed.expr_there);
        inserted = inserted_same laws f q.points q'.points q.table q'.table same move.number of.placement move next of.placed placed defined are table;
        edge_numbers = λ edge inserted.
            let n = (of.placed.inserted_is edge).0 inserted in
            plan_of.edge_numbers n.0 edge n.1 ∙ sym (other_of.edge_numbers n.0 edge (edge_there f q.points q'.points q.table q'.table same move.number of.placement move next of.placed placed n.0 edge n.1));
        deleted = deleted_same laws f q.points q'.points q.table q'.table same move.number of.placement move next of.placed placed defined are table;
        stored = stored_same laws f q.points q'.points q.table q'.table same move.number of.placement move next of.placed placed defined are table;
      }

  pub plans_of : AreAlike plan other
  plans_of =
      paired (IsAlike plan.naming other.naming) plan.moves other.moves plan_of.ascending other_of.ascending
      (partner f q q' same placements plan other plan_of other_of)
      (partner f q' q (turned f q.points q'.points q.table q'.table same) (sym placements) other plan other_of plan_of)
      alike_moves
