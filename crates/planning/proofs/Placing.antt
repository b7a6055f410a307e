-- The move of an expression by the marks of its placement.
use Rattle.std.proofs.Common.{◌≡◌, ℕ, zero, suc, ◌<◌, ◌&&◌, ◌||◌, Bool, true, false, List, [], ◌∷◌, length, map, Some, refl, sym, ap, ◌∙◌, subst, arith, ⊎_elim, Contains}
use Rattle.std.specs.Prelude.{slice_get, nat_eq}
use Rattle.std.proofs.lemmas.Bool.{eqb-true, eq-eqb, and_parts, and_from, or_cases, or_left, or_right, true≢false, false_from_ne_true, not-true, not_from_false}
use Rattle.std.proofs.lemmas.List.{length-map}
use Rattle.std.proofs.lemmas.Option.{slice_get_within, same_Some}
use Rattle.ir_types.specs.declared.syntax.Function.{Function}
use Rattle.point_graph.specs.Graph.{Point, Start, Head, Place, Edge, Entry, Inside, Slot}
use Rattle.point_graph.specs.Numbers.{point_of, all_edges}
use Rattle.point_graph.specs.declared.graph.Points.{Points}
use Rattle.point_numbers.specs.Told.{AreTold}
use Rattle.expressions.specs.declared.syntax.Expr.{Expr}
use Rattle.expressions.specs.declared.syntax.Event.TheVariants.{Occurs}
use Rattle.expressions.specs.Kept.{Kept}
use Rattle.expressions.specs.Tables.{IsTable, IsEventOf}
use Rattle.occurrences.specs.Listed.{ArePlacesOf}
use Rattle.placement.specs.declared.placements.Placement.{Placement}
use Rattle.placement.specs.Placements.{IsDeleted}
use Rattle.placed_moves.specs.Placed.{IsPoint, IsEdge, IsPlaced}
use Rattle.applied.specs.Motion.{Move}
use Rattle.planning.specs.declared.marks.Marks.{Marks}
use Rattle.live_search.specs.Leading.{Graph}
use Rattle.planning.specs.Marking.{has, is_missing, AreMarks, IsGraphOf, IsSetOf}
use Rattle.planning.proofs.Living.{live_at}
use Rattle.planning.proofs.Occurring.{some_event, place_occurs, occurs_place}
use Rattle.planning.proofs.Sets.{has_contains, contains_has}

-- ---- tests of points and edges

abbrev same_point : Point → Point → Bool
same_point Start Start = true
same_point (Head b) (Head c) = nat_eq b c
same_point (Place b k) (Place c j) = nat_eq b c && nat_eq k j
same_point _ _ = false

same_point-true : (u v : Point) → same_point u v ≡ true → u ≡ v
same_point-true Start Start e = refl
same_point-true Start (Head c) e = absurd cc
same_point-true Start (Place c j) e = absurd cc
same_point-true (Head b) Start e = absurd cc
same_point-true (Head b) (Head c) e = ap Head (eqb-true b c e)
same_point-true (Head b) (Place c j) e = absurd cc
same_point-true (Place b k) Start e = absurd cc
same_point-true (Place b k) (Head c) e = absurd cc
same_point-true (Place b k) (Place c j) e = let both = and_parts (nat_eq b c) (nat_eq k j) e in ap (λ x. Place x k) (eqb-true b c both.0) ∙ ap (Place c) (eqb-true k j both.1)

same_point-refl : (v : Point) → same_point v v ≡ true
same_point-refl Start = refl
same_point-refl (Head b) = eq-eqb b b refl
same_point-refl (Place b k) = and_from (nat_eq b b) (nat_eq k k) (eq-eqb b b refl) (eq-eqb k k refl)

abbrev same_edge : Edge → Edge → Bool
same_edge Entry Entry = true
same_edge (Inside b k) (Inside c j) = nat_eq b c && nat_eq k j
same_edge (Slot b k) (Slot c j) = nat_eq b c && nat_eq k j
same_edge _ _ = false

same_edge-true : (u v : Edge) → same_edge u v ≡ true → u ≡ v
same_edge-true Entry Entry e = refl
same_edge-true Entry (Inside c j) e = absurd cc
same_edge-true Entry (Slot c j) e = absurd cc
same_edge-true (Inside b k) Entry e = absurd cc
same_edge-true (Inside b k) (Inside c j) e = let both = and_parts (nat_eq b c) (nat_eq k j) e in ap (λ x. Inside x k) (eqb-true b c both.0) ∙ ap (Inside c) (eqb-true k j both.1)
same_edge-true (Inside b k) (Slot c j) e = absurd cc
same_edge-true (Slot b k) Entry e = absurd cc
same_edge-true (Slot b k) (Inside c j) e = absurd cc
same_edge-true (Slot b k) (Slot c j) e = let both = and_parts (nat_eq b c) (nat_eq k j) e in ap (λ x. Slot x k) (eqb-true b c both.0) ∙ ap (Slot c) (eqb-true k j both.1)

same_edge-refl : (v : Edge) → same_edge v v ≡ true
same_edge-refl Entry = refl
same_edge-refl (Inside b k) = and_from (nat_eq b b) (nat_eq k k) (eq-eqb b b refl) (eq-eqb k k refl)
same_edge-refl (Slot b k) = and_from (nat_eq b b) (nat_eq k k) (eq-eqb b b refl) (eq-eqb k k refl)

-- whether v stands in the list at a place with the bit
abbrev marked : {X : Type 0} → (X → X → Bool) → List X → (ℕ → Bool) → X → Bool
marked same [] bit v = false
marked same (u ∷ us) bit v = (bit 0 && same u v) || marked same us (λ i. bit (suc i)) v

module _ {X : Type 0} (same : X → X → Bool) (is_same : (u v : X) → same u v ≡ true → u ≡ v) (is_refl : (v : X) → same v v ≡ true) where
  marked_from : (us : List X) (bit : ℕ → Bool) (v : X) → marked same us bit v ≡ true → (i : ℕ) × (slice_get us i ≡ Some v) × (bit i ≡ true)
  marked_from [] bit v e = absurd cc
  marked_from (u ∷ us) bit v e = ⊎_elim
      (λ (l : (bit 0 && same u v) ≡ true). let both = and_parts (bit 0) (same u v) l in (0, ap Some (is_same u v both.1), both.0))
      (λ (m : marked same us (λ i. bit (suc i)) v ≡ true). let r = marked_from us (λ i. bit (suc i)) v m in (suc r.0, r.1, r.2))
      (or_cases (bit 0 && same u v) (marked same us (λ i. bit (suc i)) v) e)

  marked_to : (us : List X) (bit : ℕ → Bool) (v : X) (i : ℕ) → slice_get us i ≡ Some v → bit i ≡ true → marked same us bit v ≡ true
  marked_to [] bit v i e b = absurd cc
  marked_to (u ∷ us) bit v zero e b =
      or_left (bit 0 && same u v) (marked same us (λ i. bit (suc i)) v) (and_from (bit 0) (same u v) b (subst (λ w. same w v ≡ true) (sym (same_Some u v e)) (is_refl v)))
  marked_to (u ∷ us) bit v (suc i) e b = or_right (bit 0 && same u v) (marked same us (λ i. bit (suc i)) v) (marked_to us (λ i. bit (suc i)) v i e b)

  -- where v stands but once
  marked_at : (us : List X) (bit : ℕ → Bool) (v : X) (i : ℕ) → ((j : ℕ) → slice_get us j ≡ Some v → i ≡ j) → slice_get us i ≡ Some v → marked same us bit v ≡ bit i
  marked_at us bit v i once e = by (bit i) refl
    where
      by : (b : Bool) → bit i ≡ b → marked same us bit v ≡ b
      by true is = marked_to us bit v i e is
      by false is = false_from_ne_true (marked same us bit v) (λ h. let r = marked_from us bit v h in true≢false (sym r.2 ∙ ap bit (sym (once r.0 r.1)) ∙ is))

-- ---- moves

-- the tests of the move by the numbers of edges and points
abbrev edge_bit : Marks → ℕ → Bool
edge_bit marks n = has marks.inserted.keys n

abbrev pub kept_bit : List ℕ → List ℕ → ℕ → Bool
kept_bit set places i = has places i && has set i

abbrev pub deleted_bit : List ℕ → List ℕ → ℕ → Bool
deleted_bit set places i = has places i && is_missing set i

abbrev live_bit : Marks → ℕ → Bool
live_bit marks i = has marks.live.keys i

abbrev pub move_by : Function → Points → ℕ → Expr → Marks → List ℕ → Move
move_by f p x expr marks places = record {
  number = x;
  expr = expr;
  inserted = marked same_edge (all_edges f p.blocks) (edge_bit marks);
  kept = marked same_point (map (point_of f) p.points) (kept_bit marks.kept.keys places);
  deleted = marked same_point (map (point_of f) p.points) (deleted_bit marks.kept.keys places);
  live = marked same_point (map (point_of f) p.points) (live_bit marks);
}

module _ (f : Function) (p : Points) (t : Kept) (table : IsTable f p t) (x : ℕ) (placement : Placement) (set places : List ℕ) (are : IsSetOf placement.kept set) (occur : ArePlacesOf t.occurring x places) where
  at_place : (i : ℕ) → has places i ≡ true → IsEventOf f p t x i Occurs
  at_place i h = place_occurs f p t table x places occur i (has_contains places i h)

  place_at : (i : ℕ) → IsEventOf f p t x i Occurs → has places i ≡ true
  place_at i occurs = contains_has places i (occurs_place f p t table x places occur i occurs)

  pub kept_at : (i : ℕ) → kept_bit set places i ≡ true → IsEventOf f p t x i Occurs × Contains placement.kept i
  kept_at i e = let both = and_parts (has places i) (has set i) e in (at_place i both.0, (are.members i).0 both.1)

  pub deleted_at : (i : ℕ) → deleted_bit set places i ≡ true → IsDeleted (IsEventOf f p t x) placement i
  deleted_at i e =
      let both = and_parts (has places i) (is_missing set i) e in
      (at_place i both.0, λ h. true≢false (sym ((are.members i).1 h) ∙ not-true (has set i) both.1))

  kept_back : (i : ℕ) → IsEventOf f p t x i Occurs → Contains placement.kept i → kept_bit set places i ≡ true
  kept_back i occurs kept = and_from (has places i) (has set i) (place_at i occurs) ((are.members i).1 kept)

  pub deleted_back : (i : ℕ) → IsDeleted (IsEventOf f p t x) placement i → deleted_bit set places i ≡ true
  deleted_back i deleted =
      and_from (has places i) (is_missing set i) (place_at i deleted.0) (not_from_false (has set i) (false_from_ne_true (has set i) (λ h. deleted.1 ((are.members i).0 h))))

module _ (f : Function) (p : Points) (t : Kept) (table : IsTable f p t) (x : ℕ) (expr : Expr) (there : slice_get t.exprs x ≡ Some expr) (placement : Placement) (marks : Marks) (places : List ℕ) (told : AreTold f (map (point_of f) p.points) (all_edges f p.blocks) p.edges) (g : Graph) (is_graph : IsGraphOf p g) (are : AreMarks g placement places marks) (occur : ArePlacesOf t.occurring x places) where
  abbrev move : Move
  move = move_by f p x expr marks places

  abbrev points : List Point
  points = map (point_of f) p.points

  abbrev edges : List Edge
  edges = all_edges f p.blocks

  point_inside : (i : ℕ) (v : Point) → IsPoint f p i v → i < length p.points
  point_inside i v e = omega (arith, slice_get_within points i v e, length-map p.points (point_of f))

  -- the tests at a point and at an edge with a number
  pub kept_is : (i : ℕ) (v : Point) → IsPoint f p i v → move.kept v ≡ kept_bit marks.kept.keys places i
  kept_is i v e = marked_at same_point same_point-true same_point-refl points (kept_bit marks.kept.keys places) v i (λ j e'. told.points_once i j v e e') e

  pub deleted_is : (i : ℕ) (v : Point) → IsPoint f p i v → move.deleted v ≡ deleted_bit marks.kept.keys places i
  deleted_is i v e = marked_at same_point same_point-true same_point-refl points (deleted_bit marks.kept.keys places) v i (λ j e'. told.points_once i j v e e') e

  pub live_is : (i : ℕ) (v : Point) → IsPoint f p i v → move.live v ≡ live_bit marks i
  live_is i v e = marked_at same_point same_point-true same_point-refl points (live_bit marks) v i (λ j e'. told.points_once i j v e e') e

  pub inserted_is : (n : ℕ) (edge : Edge) → IsEdge f p n edge → move.inserted edge ≡ edge_bit marks n
  inserted_is n edge e = marked_at same_edge same_edge-true same_edge-refl edges (edge_bit marks) edge n (λ j e'. told.edges_once n j edge e e') e

  pub is_placed : IsPlaced f p t x placement (move_by f p x expr marks places)
  is_placed = record {
    expr_there = there;
    events_told = λ i lt. some_event f p t table x i (slice_get_within t.exprs x expr there) lt;
    inserted_is = λ edge. (
      λ h. let r = marked_from same_edge same_edge-true same_edge-refl edges (edge_bit marks) edge h in (r.0, r.1, (are.inserted_are.members r.0).0 r.2),
      λ r. marked_to same_edge same_edge-true same_edge-refl edges (edge_bit marks) edge r.0 r.1 ((are.inserted_are.members r.0).1 r.2),
    );
    kept_is = λ v. (
      λ h. let r = marked_from same_point same_point-true same_point-refl points (kept_bit marks.kept.keys places) v h in let k = kept_at f p t table x placement marks.kept.keys places are.kept_are occur r.0 r.2 in (r.0, r.1, k.0, k.1),
      λ r. marked_to same_point same_point-true same_point-refl points (kept_bit marks.kept.keys places) v r.0 r.1 (kept_back f p t table x placement marks.kept.keys places are.kept_are occur r.0 r.2 r.3),
    );
    deleted_is = λ v. (
      λ h. let r = marked_from same_point same_point-true same_point-refl points (deleted_bit marks.kept.keys places) v h in (r.0, r.1, deleted_at f p t table x placement marks.kept.keys places are.kept_are occur r.0 r.2),
      λ r. marked_to same_point same_point-true same_point-refl points (deleted_bit marks.kept.keys places) v r.0 r.1 (deleted_back f p t table x placement marks.kept.keys places are.kept_are occur r.0 r.2),
    );
    live_is = λ i v e. (
      λ h. (live_at f p t table x placement marks places g is_graph are occur i).0 (sym (live_is i v e) ∙ h),
      λ l. live_is i v e ∙ (live_at f p t table x placement marks places g is_graph are occur i).1 l,
    );
  }
