-- What placements insert adds instructions.
use Rattle.std.proofs.Common.{◌≡◌, ◌≢◌, inl, inr, ℕ, zero, suc, ◌+◌, ◌*◌, ◌<◌, ◌≤◌, List, [], ◌∷◌, length, map, get_or, Some, refl, sym, ap, ◌∙◌, subst, arith, Contains}
use Rattle.std.specs.Prelude.{slice_get, sum_by}
use Rattle.std.specs.List.Sorted.{IsStrictlyIncreasing}
use Rattle.std.proofs.lemmas.List.{length-map}
use Rattle.std.proofs.lemmas.List.Elements.{All-contains_itself, Contains-get_or}
use Rattle.std.proofs.lemmas.List.Kept.{AllPairs-from_increasing}
use Rattle.std.proofs.lemmas.Option.{slice_get-get_or, same_Some}
use Rattle.ir_types.specs.declared.syntax.Function.{Function}
use Rattle.point_graph.specs.Graph.{Edge, Entry}
use Rattle.point_graph.specs.Numbers.{all_edges, point_of}
use Rattle.point_graph.specs.declared.graph.Points.{Points}
use Rattle.point_numbers.specs.Told.{AreTold}
use Rattle.expressions.specs.Kept.{Kept}
use Rattle.placement.specs.declared.placements.Placement.{Placement}
use Rattle.applied.specs.Motion.{Move}
use Rattle.applied.specs.Applied.{Plan}
use Rattle.applied.specs.Built.{layout_of, applied_function}
use Rattle.applied_rules.proofs.Apart.{Each, EachPair, Apart, each_by, from_all, from_pairs}
use Rattle.applied_rules.proofs.EdgeLists.{edges_from}
use Rattle.placed_moves.specs.Placed.{IsEdge}
use Rattle.planning.specs.PlanOf.{ArePlacementsOf, IsMoveOf, IsPlanOf}
use Rattle.large_plans.proofs.Lengths.{long_blocks}
use Rattle.large_plans.proofs.Standing.{IsIn, joining_in}
use Rattle.large_plans.proofs.Counting.{InsertsAt, count_least, Numbered, Counted, Covered, insertions_least}

-- ---- lists

some_at : {X : Type 0} (xs : List X) (i : ℕ) → i < length xs → (x : X) × (slice_get xs i ≡ Some x)
some_at [] i lt = absurd (omega (arith, lt))
some_at (x ∷ xs) zero lt = (x, refl)
some_at (x ∷ xs) (suc i) lt = some_at xs i (omega (arith, lt))

each_map : {A B : Type 0} (P : B → Type 0) (g : A → B) (xs : List A) → Each (λ x. P (g x)) xs → Each P (map g xs)
each_map P g [] each = tt
each_map P g (x ∷ xs) each = (each.0, each_map P g xs each.1)

-- each of the moves has its number among theirs
numbered : (moves : List Move) (move : Move) (k : ℕ) → slice_get moves k ≡ Some move → Numbered moves move.number
numbered [] move k there = absurd cc
numbered (first ∷ moves) move zero there = let same : first ≡ move = cc in inl (ap (λ m. m.number) same)
numbered (first ∷ moves) move (suc k) there = inr (numbered moves move k there)

-- ---- the edges of a list of numbers

module _ (f : Function) (p : Points) (defined : 0 < length f.blocks) (told : AreTold f (map (point_of f) p.points) (all_edges f p.blocks) p.edges) where
  abbrev edge_at : ℕ → Edge
  edge_at n = get_or (all_edges f p.blocks) n Entry

  -- a number stands for an edge, which is among those before whose places groups stand
  is_at : (n : ℕ) → n < length p.edges → IsEdge f p n (edge_at n)
  is_at n lt = slice_get-get_or (all_edges f p.blocks) n Entry (omega (arith, lt, told.count))

  edge_stands : (n : ℕ) → n < length p.edges → IsIn (edge_at n) (edges_from 0 f.blocks)
  edge_stands n lt =
      let e = some_at p.edges n lt in
      let r = told.joins n e.0 e.1 in
      subst (λ edge. IsIn edge (edges_from 0 f.blocks)) (same_Some r.edge (edge_at n) (sym r.is ∙ is_at n lt)) (joining_in f defined r.edge r.from r.to r.joins)

  -- different numbers, different edges
  edges_differ : (n o : ℕ) → n < length p.edges → o < length p.edges → n < o → edge_at n ≢ edge_at o
  edges_differ n o lt lt' less same =
      let one : n ≡ o = told.edges_once n o (edge_at o) (is_at n lt ∙ ap Some same) (is_at o lt') in
      omega (arith, one, less)

  edges_apart : (ns : List ℕ) → Each (λ n. n < length p.edges) ns → EachPair (λ n o. n < o) ns → Apart (map edge_at ns)
  edges_apart [] within up = tt
  edges_apart (n ∷ ns) within up = (
    each_map (λ edge. edge_at n ≢ edge) edge_at ns (differ ns within.1 up.0),
    edges_apart ns within.1 up.1,
  )
    where
      differ : (os : List ℕ) → Each (λ o. o < length p.edges) os → Each (λ o. n < o) os → Each (λ o. edge_at n ≢ edge_at o) os
      differ [] inside above = tt
      differ (o ∷ os) inside above = (edges_differ n o within.0 inside.0 above.0, differ os inside.1 above.1)

  -- ---- what is inserted by the plan

  module _ (t : Kept) (placements : List Placement) (given : ArePlacementsOf f p t placements) (ascend : (x : ℕ) (placement : Placement) → slice_get placements x ≡ Some placement → IsStrictlyIncreasing placement.inserted) where
    -- a move is inserted wherever its placement says, and there are moves for all that insert
    move_counted : (move : Move) → IsMoveOf f p t placements move → Counted (edges_from 0 f.blocks) 0 placements move
    move_counted move is k placement number there =
        let same : k ≡ move.number = omega (arith, number) in
        let one : is.placement ≡ placement = same_Some is.placement placement (sym is.there ∙ ap (slice_get placements) (sym same) ∙ there) in
        let ns = is.placement.inserted in
        let inside = (given.each move.number is.placement is.there).edges in
        let among : Each (Contains ns) ns = from_all (Contains ns) ns (All-contains_itself ns) in
        let within : Each (λ n. n < length p.edges) ns = each_by (Contains ns) (λ n. n < length p.edges) inside ns among in
        let up : EachPair (λ n o. n < o) ns = from_pairs (λ n o. n < o) ns (AllPairs-from_increasing ns (ascend move.number is.placement is.there)) in
        let insert : Each (λ n. InsertsAt move (edges_from 0 f.blocks) (edge_at n)) ns =
        each_by (Contains ns) (λ n. InsertsAt move (edges_from 0 f.blocks) (edge_at n))
        (λ n c. let lt = inside n c in ((is.placed.inserted_is (edge_at n)).1 (n, is_at n lt, c), edge_stands n lt)) ns among in
        let count = count_least move (map edge_at ns) (edges_from 0 f.blocks) (edges_apart ns within up) (each_map (InsertsAt move (edges_from 0 f.blocks)) edge_at ns insert) in
        omega (arith, count, length-map ns edge_at, ap (λ x. length x.inserted) one)

    pub adds_instructions : (plan : Plan) → IsPlanOf f p t placements plan → 2 * sum_by (λ placement. length placement.inserted) placements ≤ sum_by (λ b. length b.instrs) (applied_function plan f).blocks
    adds_instructions plan is =
        let moves = plan.moves in
        let edges = edges_from 0 f.blocks in
        let are : Each (IsMoveOf f p t placements) moves = from_all (IsMoveOf f p t placements) moves (λ k d lt. is.moves (get_or moves k d) (Contains-get_or moves k d lt)) in
        let up = from_pairs (λ (move next : Move). move.number < next.number) moves is.ascending in
        let covered : Covered moves 0 placements =
        λ k placement there some.
        let has = is.every k placement there (inl (get_or placement.inserted 0 0, Contains-get_or placement.inserted 0 0 some)) in
        let same : has.move.number ≡ 0 + k = omega (arith, has.number) in
        subst (Numbered moves) same (numbered moves has.move has.among.0 (slice_get-get_or moves has.among.0 has.move has.among.1 ∙ ap Some has.among.2)) in
        let from : Each (λ (move : Move). 0 ≤ move.number) moves = each_by (IsMoveOf f p t placements) (λ move. 0 ≤ move.number) (λ move h. omega arith) moves are in
        let counted : Each (Counted edges 0 placements) moves = each_by (IsMoveOf f p t placements) (Counted edges 0 placements) move_counted moves are in
        omega (
          arith,
          insertions_least edges 0 placements moves up from covered counted,
          long_blocks plan.naming moves (length f.vars) (layout_of moves f.blocks) 0 f.blocks,
        )
