-- The plan of placements is one of the function, and it is small.
use Rattle.std.proofs.Common.{◌≡◌, ℕ, ◌+◌, ◌<◌, ◌≤◌, ◌^◌, List, [], ◌∷◌, length, map, get_or, Some, refl, sym, ap, ◌∙◌, subst, arith, inl, inr, ⊎_elim, Contains}
use Rattle.std.specs.Prelude.{slice_get, sum_by}
use Rattle.std.specs.List.{AllZip}
use Rattle.std.specs.Option.{option_map_or}
use Rattle.std.proofs.lemmas.List.{length-map}
use Rattle.std.proofs.lemmas.List.Elements.{Contains-get_or, Contains-append_right}
use Rattle.std.proofs.lemmas.List.Sums.{sum_by-cons}
use Rattle.std.proofs.lemmas.Option.{slice_get_within, get_or_from_slice_get, same_Some}
use Rattle.ir_types.specs.Limits.{IsWithinLimits}
use Rattle.ir_types.specs.declared.syntax.Function.{Function}
use Rattle.point_graph.specs.Graph.{Edge, Entry}
use Rattle.point_graph.specs.Numbers.{KeepsRules, ArePoints, all_edges, point_of}
use Rattle.point_graph.specs.declared.graph.Points.{Points}
use Rattle.point_numbers.specs.Told.{AreTold}
use Rattle.point_numbers.proofs.Told.{are_told}
use Rattle.expressions.specs.declared.syntax.Event.TheVariants.{Occurs}
use Rattle.expressions.specs.Kept.{Kept}
use Rattle.expressions.specs.Tables.{IsTable, IsEventOf}
use Rattle.placement.specs.declared.placements.Placement.{Placement}
use Rattle.placement.specs.Placements.{IsDeleted}
use Rattle.placement.proofs.EventLemmas.{event_inside}
use Rattle.applied.specs.Motion.{Move}
use Rattle.applied.specs.Applied.{Plan, IsPlan, IsInserted, Moves}
use Rattle.applied_rules.specs.Plans.{IsListed, IsSmallPlan}
use Rattle.placed_moves.specs.Placed.{IsEdge}
use Rattle.planning.specs.PlanOf.{ArePlacementsOf, IsPlanOf}
use Rattle.planning.proofs.Geometry.{get_some, get_map, contains_at, at_contains}
use Rattle.planning.proofs.Lists.{differ_once}
use Rattle.planning.proofs.Counting.{few_exprs, Up, up_of, few_moves, sum_of, sum_moves}

zip_map : {A B : Type 0} (R : A → B → Type 0) (g : A → B) (xs : List A) → ((x : A) → Contains xs x → R x (g x)) → AllZip R xs (map g xs)
zip_map R g [] each = tt
zip_map R g (x ∷ xs) each = (each x (contains_at (x ∷ xs) 0 x refl), zip_map R g xs (λ y h. each y (Contains-append_right (x ∷ []) xs y h)))

sum_map : (g : Move → List Edge) (moves : List Move) → sum_by length (map g moves) ≡ sum_of (λ m. length (g m)) moves
sum_map g [] = refl
sum_map g (m ∷ moves) = sum_by-cons length (g m) (map g moves) ∙ ap (λ n. length (g m) + n) (sum_map g moves)

module _ (f : Function) (p : Points) (t : Kept) (placements : List Placement) (plan : Plan) (defined : 0 < length f.blocks) (are : ArePoints f p) (table : IsTable f p t) (limits : IsWithinLimits f) (given : ArePlacementsOf f p t placements) (is : IsPlanOf f p t placements plan) where
  told : AreTold f (map (point_of f) p.points) (all_edges f p.blocks) p.edges
  told = let keeps : KeepsRules f = record { module_of = t.module_of; rules = table.rules } in are_told f p keeps defined are

  number_inside : (m : Move) → Contains plan.moves m → m.number < length t.exprs
  number_inside m h = let r = is.moves m h in omega (arith, slice_get_within placements m.number r.placement r.there, given.count)

  edge_inside : (n : ℕ) (edge : Edge) → IsEdge f p n edge → n < 2 ^ 32
  edge_inside n edge e = omega (arith, slice_get_within (all_edges f p.blocks) n edge e, told.count, are.few)

  needed : (m : Move) → Contains plan.moves m → Moves m
  needed m h =
      let r = is.moves m h in
      ⊎_elim
      (λ (i : (n : ℕ) × Contains r.placement.inserted n).
      let inside : i.0 < length p.edges = (given.each m.number r.placement r.there).edges i.0 i.1 in
      let edge = get_some (all_edges f p.blocks) i.0 (omega (arith, inside, told.count)) in
      inl (edge.0, (r.placed.inserted_is edge.0).1 (i.0, edge.1, i.1)))
      (λ (d : (i : ℕ) × IsDeleted (IsEventOf f p t m.number) r.placement i).
      let point = get_some p.points d.0 (event_inside f p t m.number d.0 Occurs d.1.0) in
      let v = point_of f point.0 in
      inr (v, (r.placed.deleted_is v).1 (d.0, get_map (point_of f) p.points d.0 point.0 point.1, d.1)))
      r.needed

  edge_number : (edge : Edge) → IsInserted plan.moves edge → (n : ℕ) × IsEdge f p n edge × (plan.naming.edge_number edge ≡ n)
  edge_number edge i =
      let r = ((is.moves i.move i.among).placed.inserted_is edge).0 i.inserted in
      (r.0, r.1, is.edge_numbers r.0 edge r.1)

  pub is_plan : IsPlan f plan
  is_plan = record {
    prefix = is.prefix;
    ascending = is.ascending;
    needed = λ k d lt. needed (get_or plan.moves k d) (Contains-get_or plan.moves k d lt);
    numbers = λ k d lt. let inside = number_inside (get_or plan.moves k d) (Contains-get_or plan.moves k d lt) in omega (arith, inside, few_exprs f p t are table limits);
    edge_numbers = λ edge i. let r = edge_number edge i in omega (arith, edge_inside r.0 edge r.1, r.2);
    edges_differ = λ edge other i j same.
        let r = edge_number edge i in
        let s = edge_number other j in
        let one : r.0 ≡ s.0 = sym r.2 ∙ same ∙ s.2 in
        same_Some edge other (sym r.1 ∙ ap (slice_get (all_edges f p.blocks)) one ∙ s.1);
  }

  -- ---- how much

  abbrev edge_at : ℕ → Edge
  edge_at n = get_or (all_edges f p.blocks) n Entry

  abbrev edges_at : Move → List Edge
  edges_at m = option_map_or (λ placement. map edge_at placement.inserted) (slice_get placements m.number) []

  edges_are : (m : Move) (h : Contains plan.moves m) → edges_at m ≡ map edge_at (is.moves m h).placement.inserted
  edges_are m h = ap (λ o. option_map_or (λ placement. map edge_at placement.inserted) o []) (is.moves m h).there

  listed : (m : Move) → Contains plan.moves m → IsListed m (edges_at m)
  listed m h edge inserted =
      let r = is.moves m h in
      let n = (r.placed.inserted_is edge).0 inserted in
      let at = at_contains r.placement.inserted n.0 n.2 in
      let there : slice_get (map edge_at r.placement.inserted) at.0 ≡ Some edge =
      get_map edge_at r.placement.inserted at.0 n.0 at.1 ∙ ap Some (get_or_from_slice_get (all_edges f p.blocks) n.0 edge Entry n.1) in
      subst (λ l. Contains l edge) (sym (edges_are m h)) (contains_at (map edge_at r.placement.inserted) at.0 edge there)

  up : Up 0 plan.moves
  up = up_of 0 plan.moves is.ascending (λ m h. omega arith)

  pub is_small : sum_by (λ placement. length placement.inserted) placements < 2 ^ 28 → IsSmallPlan f plan
  is_small small = record {
    limits = limits;
    few = let all = few_moves (length t.exprs) 0 plan.moves up (omega arith) number_inside in omega (arith, all, few_exprs f p t are table limits);
    differ = λ i j d lt within same.
        let one = get_or plan.moves i d in
        let other = get_or plan.moves j d in
        let a = is.moves one (Contains-get_or plan.moves i d (omega (arith, lt, within))) in
        let b = is.moves other (Contains-get_or plan.moves j d within) in
        let less : one.number < other.number = is.ascending i j d lt within in
        let numbers : one.number ≡ other.number = differ_once t.exprs table.exprs.differ one.number other.number one.expr a.placed.expr_there (b.placed.expr_there ∙ ap Some (sym same)) in
        omega (arith, less, numbers);
    inserted = map edges_at plan.moves;
    listed = zip_map IsListed edges_at plan.moves listed;
    few_inserted =
        let all : sum_of (λ m. length (edges_at m)) plan.moves ≤ sum_by (λ placement. length placement.inserted) placements =
        sum_moves (λ placement. length placement.inserted) placements (λ m. length (edges_at m)) 0 plan.moves up
        (λ m h. let r = is.moves m h in (r.placement, r.there, omega (arith, ap length (edges_are m h), length-map r.placement.inserted edge_at))) in
        omega (arith, all, sum_map edges_at plan.moves, small);
  }
