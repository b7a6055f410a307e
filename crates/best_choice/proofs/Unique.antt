-- An expression has one best placement.
use Rattle.std.proofs.Common.{◌≡◌, ◌<◌, ◌≤◌, ◌+◌, ◌*◌, ◌==◌, ℕ, zero, suc, Bool, true, false, not, List, [], ◌∷◌, All, Contains, length, sum_by, slice_get, cond, refl, sym, ap₂, subst, ⊎_elim, arith}
use Rattle.std.specs.Option.{option_map_or}
use Rattle.std.proofs.lemmas.List.Elements.{All-contains, All-head, All-nil, All-filter}
use Rattle.std.proofs.lemmas.Bool.{eqb-false}
use Rattle.std.proofs.lemmas.List.Kept.{IsStrictlyIncreasing-filter}
use Rattle.point_graph.specs.declared.graph.Point.{Point}
use Rattle.point_graph.specs.declared.graph.Edge.{Edge}
use Rattle.expressions.specs.Tables.{IsEventOf}
use Rattle.expressions.specs.declared.syntax.Event.{Event}
use Rattle.expressions.specs.declared.syntax.Event.TheVariants.{Occurs}
use Rattle.flow_paths.specs.Paths.{source, target, ArcsWithin, IsPath, at_point, on_edge, met}
use Rattle.placement.specs.declared.placements.Placement.{Placement}
use Rattle.placement.specs.Placements.{Writes, IsDeleted, IsLiveAt, arcs_of}
use Rattle.placement.specs.declared.costs.TheConstants.{BASE}
use Rattle.placement.specs.Costs.{weight_of, edge_count, point_count}
use Rattle.placement.proofs.GraphLemmas.{arcs_length, arcs_within}
use Rattle.best_choice.specs.Best.{IsPlacementOn, LivesWithin, IsBestOn, weighed, OneBest, OneBestIn}
use Rattle.best_choice.proofs.Ascending.{member_cases, without, sum_without, ascending_same}
use Rattle.best_choice.proofs.Written.{without_edge, correct_without}

module _ (arcs : List (ℕ × ℕ)) (n : ℕ) (Is : ℕ → Event → Type 0) where
  -- a kept occurrence isn't live
  kept_dead : (p : Placement) (v : ℕ) → Is v Occurs → Contains p.kept v → IsLiveAt arcs Is p v → ⊥
  kept_dead p v is c live = by live.path live.leads live.unwritten
    where
      by : (path : List ℕ) → IsPath arcs v path live.occurrence → All (λ m. ¬ Writes Is p m) (met arcs path) → ⊥
      by [] leads unwritten = live.deleted.1 (subst (λ x. Contains p.kept x) leads c)
      by (a ∷ path) leads unwritten =
          All-head (λ m. ¬ Writes Is p m) (at_point (source arcs a)) (on_edge a ∷ met arcs path) unwritten
          (subst (λ x. Is x Occurs × Contains p.kept x) (sym leads.1) (is, c))

  deleted_live : (p : Placement) (v : ℕ) → IsDeleted Is p v → IsLiveAt arcs Is p v
  deleted_live p v d = record { path = []; occurrence = v; leads = refl; deleted = d; unwritten = All-nil (λ m. ¬ Writes Is p m) }

  -- what one keeps the other keeps, where it is live within the first
  kept_too : (p q : Placement) → IsPlacementOn arcs n Is p → LivesWithin arcs n Is q p → (v : ℕ) → Contains p.kept v → Contains q.kept v
  kept_too p q h within v c =
      let is : Is v Occurs = All-contains (λ x. Is x Occurs) p.kept v h.occurrences c in
      ⊎_elim
      (λ (there : Contains q.kept v). there)
      (λ (absent : Contains q.kept v → ⊥). absurd (kept_dead p v is c (within.0 v (All-contains (λ x. x < n) p.kept v h.points c) (deleted_live q v (is, absent)))))
      (member_cases q.kept v)

  module _ (edge_weight point_weight : ℕ → ℕ) (arcs_in : ArcsWithin arcs n) (weighs : (e : ℕ) → e < length arcs → 0 < edge_weight e) where
    placement_without : (p : Placement) (e : ℕ) → IsPlacementOn arcs n Is p → IsPlacementOn arcs n Is (without_edge e p)
    placement_without p e h = record {
      inserted_order = IsStrictlyIncreasing-filter (λ x. not (x == e)) p.inserted h.inserted_order;
      edges = All-filter (λ x. not (x == e)) (λ x. x < length arcs) p.inserted h.edges;
      kept_order = h.kept_order;
      points = h.points;
      occurrences = h.occurrences;
    }

    -- a cheapest placement is live behind each edge that it inserts at
    needed : (p : Placement) (e : ℕ) → IsBestOn arcs n Is edge_weight point_weight p → Contains p.inserted e → (IsLiveAt arcs Is p (target arcs e) → ⊥) → ⊥
    needed p e best c dead =
        let cheaper : weighed edge_weight point_weight p ≤ weighed edge_weight point_weight (without_edge e p) =
        best.cheapest (without_edge e p) (placement_without p e best.placement) (correct_without arcs Is p e best.placement.occurrences dead best.correct) in
        let falls : sum_by edge_weight (without e p.inserted) + edge_weight e ≤ sum_by edge_weight p.inserted = sum_without edge_weight e p.inserted c in
        let some : 0 < edge_weight e = weighs e (All-contains (λ x. x < length arcs) p.inserted e best.placement.edges c) in
        omega arith

    -- what one inserts the other inserts
    inserted_too : (p q : Placement) → IsBestOn arcs n Is edge_weight point_weight p → LivesWithin arcs n Is p q → LivesWithin arcs n Is q p → (e : ℕ) → Contains p.inserted e → Contains q.inserted e
    inserted_too p q best pq qp e c =
        let is_edge : e < length arcs = All-contains (λ x. x < length arcs) p.inserted e best.placement.edges c in
        ⊎_elim
        (λ (there : Contains q.inserted e). there)
        (λ (absent : Contains q.inserted e → ⊥). absurd (needed p e best c
        (λ live. (qp.1 e is_edge (absent, pq.0 (target arcs e) (arcs_in e is_edge).1 live)).0 c)))
        (member_cases q.inserted e)

    pub same_best : (p q : Placement) → IsBestOn arcs n Is edge_weight point_weight p → IsBestOn arcs n Is edge_weight point_weight q → p ≡ q
    same_best p q a b =
        let below : weighed edge_weight point_weight p ≤ weighed edge_weight point_weight q = a.cheapest q b.placement b.correct in
        let above : weighed edge_weight point_weight q ≤ weighed edge_weight point_weight p = b.cheapest p a.placement a.correct in
        let pq : LivesWithin arcs n Is p q = a.lives_least q b.placement b.correct (omega arith) in
        let qp : LivesWithin arcs n Is q p = b.lives_least p a.placement a.correct (omega arith) in
        let inserted : p.inserted ≡ q.inserted = ascending_same p.inserted q.inserted a.placement.inserted_order b.placement.inserted_order (inserted_too p q a pq qp) (inserted_too q p b qp pq) in
        let kept : p.kept ≡ q.kept = ascending_same p.kept q.kept a.placement.kept_order b.placement.kept_order (kept_too p q a.placement qp) (kept_too q p b.placement pq) in
        ap₂ (λ xs ys. record { inserted = xs; kept = ys }) inserted kept

pub one_best : OneBest
one_best arcs n event = same_best arcs n (λ v k. event v ≡ k)

-- ---- by the counts of a function

weight_above : (count : ℕ) → 0 < weight_of count
weight_above count = by (count == 0) refl
  where
    by : (b : Bool) → (count == 0) ≡ b → 0 < cond b 1 (count * BASE)
    by true s = omega arith
    by false s = let other = eqb-false count 0 s in omega arith

option_above : {X : Type 0} (weight : X → ℕ) → ((x : X) → 0 < weight x) → (xs : List X) (k : ℕ) → k < length xs → 0 < option_map_or weight (slice_get xs k) 0
option_above weight above [] k h = absurd (omega arith)
option_above weight above (x ∷ xs) zero h = above x
option_above weight above (x ∷ xs) (suc k) h = option_above weight above xs k (omega arith)

pub one_best_in : OneBestIn
one_best_in f points t e counts are p q a b =
    let reached : ℕ → Bool = are.blocks.test in
    let weight = λ (x : Edge). weight_of (edge_count f counts reached x.kind) in
    let edges : length (arcs_of points.edges) ≡ length points.edges = arcs_length points.edges in
    same_best (arcs_of points.edges) (length points.points) (IsEventOf f points t e)
    (λ k. option_map_or weight (slice_get points.edges k) 0) (λ v. option_map_or (λ (x : Point). weight_of (point_count f counts reached x)) (slice_get points.points v) 0)
    (arcs_within f points are)
    (λ k h. option_above weight (λ x. weight_above (edge_count f counts reached x.kind)) points.edges k (omega arith))
    p q (a reached are.blocks.told) (b reached are.blocks.told)
