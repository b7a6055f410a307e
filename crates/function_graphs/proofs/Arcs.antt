-- The arcs of a function are those of the shapes of its blocks.
use Rattle.std.proofs.Common.{◌≡◌, ℕ, zero, suc, ◌+◌, ◌<◌, ◌≤◌, Bool, List, [], ◌∷◌, ◌++◌, length, map, get_or, Some, refl, sym, ap, ◌∙◌, subst, arith, ⊎_elim}
use Rattle.std.specs.Prelude.{slice_get}
use Rattle.std.specs.List.{AllByRecursion}
use Rattle.std.specs.Option.{option_map_or}
use Rattle.std.proofs.lemmas.Bool.{cases_lt}
use Rattle.std.proofs.lemmas.List.{length-map}
use Rattle.std.proofs.lemmas.Option.{slice_get_within}
use Rattle.ir_types.specs.declared.syntax.Function.{Function}
use Rattle.flow_graph.specs.Slots.{slots_of}
use Rattle.flow_paths.specs.Paths.{IsPath, Connects}
use Rattle.point_graph.specs.Graph as graph
use Rattle.point_graph.specs.Graph.{Edge, Entry, Inside, Slot, Joins, Hop, IsReached, point_before}
use Rattle.point_graph.specs.Numbers.{KeepsRules, IsNumbered, ArePoints, all_edges, point_of}
use Rattle.point_graph.specs.declared.graph.Point.TheVariants.{Head, Instr, Term}
use Rattle.point_graph.specs.declared.graph.Edge as numbered
use Rattle.point_graph.specs.declared.graph.Points.{Points}
use Rattle.point_numbers.specs.Told.{AreTold}
use Rattle.point_numbers.proofs.Listing.{IsReachedBlocks, reached_next}
use Rattle.point_numbers.proofs.Told.{are_told}
use Rattle.point_numbers.proofs.Reached.{reached_blocks}
use Rattle.profile.specs.declared.counts.FnCounts.{FnCounts}
use Rattle.placement.specs.Placements.{arcs_of}
use Rattle.best_placement.specs.Shapes.{Shape, next_point, next_edge, head_at, arcs_from, straight, shape_arcs, shape_points}
use Rattle.best_placement.proofs.Numbered.{Stands, length_straight}
use Rattle.function_graphs.specs.Graphs.{place_in}
use Rattle.function_graphs.proofs.Parts.{get_some, get_map, get_map_back, map_at, zip_length, zip_beside, pair, same_pair, each_stands, straight_stands, stands_append, same_lists}
use Rattle.function_graphs.proofs.Lying.{LiesAt, LieFrom, IsThere, shape, all_lie, count_arcs, points_counted, head_found, place_found}

-- an edge joins two points
joins_same : (f : Function) (edge : Edge) (u w u' w' : graph.Point) → Joins f edge u w → Joins f edge u' w' → (u ≡ u') × (w ≡ w')
joins_same f Entry u w u' w' j j' = (j.0 ∙ sym j'.0, j.1 ∙ sym j'.1)
joins_same f (Inside b k) u w u' w' j j' = (j.begins ∙ sym j'.begins, j.ends ∙ sym j'.ends)
joins_same f (Slot b slot) u w u' w' j j' =
    let same : j.block ≡ j'.block = let both : Some j.block ≡ Some j'.block = sym j.block_there ∙ j'.block_there in cc in
    let both : Some j.target ≡ Some j'.target = sym j.leads ∙ ap (λ x. slice_get (slots_of x.term) slot) same ∙ j'.leads in
    let to : j.target ≡ j'.target = cc in
    (j.begins ∙ ap (λ x. graph.Place b (length x.instrs)) same ∙ sym j'.begins, j.ends ∙ ap (λ t. graph.Head t) to ∙ sym j'.ends)

pub each_at : {X : Type 0} (P : X → Type 0) (xs : List X) → ((i : ℕ) (x : X) → slice_get xs i ≡ Some x → P x) → AllByRecursion P xs
each_at P [] h = tt
each_at P (x ∷ xs) h = (h 0 x refl, each_at P xs (λ i y there. h (suc i) y there))

module _ (f : Function) (p : Points) (c : FnCounts) (reached : ℕ → Bool) (keeps : KeepsRules f) (defined : 0 < length f.blocks) (are : ArePoints f p) where
  abbrev pub points : List graph.Point
  points = map (point_of f) p.points

  pub told : AreTold f points (all_edges f p.blocks) p.edges
  told = are_told f p keeps defined are

  blocks_are : IsReachedBlocks f p.blocks
  blocks_are = reached_blocks f keeps defined p.blocks are.blocks

  pub known : AllByRecursion (IsThere f p c reached) p.blocks
  known = each_at (IsThere f p c reached) p.blocks blocks_are.blocks

  pub lies : LieFrom f p c reached 1 1 p.blocks
  lies = all_lie f p c reached are.points known

  abbrev pub shapes : List Shape
  shapes = map (shape f p c reached) p.blocks

  -- ---- the numbered edges

  pub edge_at : (n : ℕ) (edge : Edge) → slice_get (all_edges f p.blocks) n ≡ Some edge → (e : numbered.Edge) × (slice_get p.edges n ≡ Some e) × IsNumbered f p.points edge e
  edge_at n edge there = zip_beside (IsNumbered f p.points) (all_edges f p.blocks) p.edges are.edges n edge there

  number_ends : (n : ℕ) (edge : Edge) (u w : graph.Point) (there : slice_get (all_edges f p.blocks) n ≡ Some edge) → Joins f edge u w → (slice_get points (edge_at n edge there).0.from ≡ Some u) × (slice_get points (edge_at n edge there).0.to ≡ Some w)
  number_ends n edge u w there joins =
      let r = edge_at n edge there in
      let same = joins_same f edge (point_of f r.2.from) (point_of f r.2.to) u w r.2.joins joins in
      (get_map (point_of f) p.points r.0.from r.2.from r.2.begins ∙ ap (λ x. Some x) same.0, get_map (point_of f) p.points r.0.to r.2.to r.2.ends ∙ ap (λ x. Some x) same.1)

  arc_joins : (n : ℕ) (edge : Edge) (u w : graph.Point) (i j : ℕ) → slice_get (all_edges f p.blocks) n ≡ Some edge → Joins f edge u w → slice_get points i ≡ Some u → slice_get points j ≡ Some w
      → get_or (arcs_of p.edges) n (0, 0) ≡ pair i j
  arc_joins n edge u w i j there joins from to =
      let r = edge_at n edge there in
      let ends = number_ends n edge u w there joins in
      map_at (λ (e : numbered.Edge). pair e.from e.to) p.edges n r.0 (0, 0) r.1
      ∙ same_pair r.0.from r.0.to i j (told.points_once r.0.from i u ends.0 from) (told.points_once r.0.to j w ends.1 to)

  -- ---- the places of a block

  module _ (b point edge : ℕ) (at : LiesAt f p c reached b point edge) where
    before_there : (k : ℕ) → k ≤ length at.block.instrs → slice_get points (point + k) ≡ Some (point_before b k)
    before_there zero le = let z : point + 0 ≡ point = omega arith in ap (slice_get points) z ∙ get_map (point_of f) p.points point (Head b) at.head
    before_there (suc k) le =
        let z : point + suc k ≡ suc point + k = omega arith in
        ap (slice_get points) z ∙ get_map (point_of f) p.points (suc point + k) (Instr b k) (at.instr k (omega (arith, le)))

    end_there : slice_get points (suc point + length at.block.instrs) ≡ Some (graph.Place b (length at.block.instrs))
    end_there =
        get_map (point_of f) p.points (suc point + length at.block.instrs) (Term b) at.term
        ∙ ap (λ o. Some (graph.Place b (option_map_or (λ x. length x.instrs) o 0))) at.block_there

    place_there : (k : ℕ) → k ≤ length at.block.instrs → slice_get points (suc point + k) ≡ Some (graph.Place b k)
    place_there k le =
        ⊎_elim
        (λ (lt : k < length at.block.instrs). get_map (point_of f) p.points (suc point + k) (Instr b k) (at.instr k lt))
        (λ (ge : length at.block.instrs ≤ k).
        let same : k ≡ length at.block.instrs = omega (arith, le, ge) in
        ap (λ n. slice_get points (suc point + n)) same ∙ end_there ∙ ap (λ n. Some (graph.Place b n)) (sym same))
        (cases_lt k (length at.block.instrs))

    inside_arc : (k : ℕ) → k < suc (length at.block.instrs) → get_or (arcs_of p.edges) (edge + k) (0, 0) ≡ pair (point + k) (suc point + k)
    inside_arc k lt =
        arc_joins (edge + k) (Inside b k) (point_before b k) (graph.Place b k) (point + k) (suc point + k) (at.inside k lt)
        (record { block = at.block; block_there = at.block_there; within = omega (arith, lt); begins = refl; ends = refl })
        (before_there k (omega (arith, lt))) (place_there k (omega (arith, lt)))

    -- where a slot leads is a reached block
    pub target_listed : (k t : ℕ) → slice_get (slots_of at.block.term) k ≡ Some t → slice_get p.blocks (place_in p.blocks t) ≡ Some t
    target_listed k t leads =
        let n = suc (edge + length at.block.instrs) + k in
        let there = at.slot k (slice_get_within (slots_of at.block.term) k t leads) in
        let joins : Joins f (Slot b k) (graph.Place b (length at.block.instrs)) (graph.Head t) = record { block = at.block; block_there = at.block_there; target = t; leads = leads; begins = refl; ends = refl } in
        let ends = number_ends n (Slot b k) (graph.Place b (length at.block.instrs)) (graph.Head t) there joins in
        let listed = blocks_are.each t (told.points_reached (edge_at n (Slot b k) there).0.to (graph.Head t) ends.1) in
        place_found p.blocks listed.0 t listed.1

    slot_arc : (k t : ℕ) → slice_get (slots_of at.block.term) k ≡ Some t
        → get_or (arcs_of p.edges) (suc (edge + length at.block.instrs) + k) (0, 0) ≡ pair (suc point + length at.block.instrs) (head_at 1 shapes (place_in p.blocks t))
    slot_arc k t leads =
        let n = suc (edge + length at.block.instrs) + k in
        let there = at.slot k (slice_get_within (slots_of at.block.term) k t leads) in
        let joins : Joins f (Slot b k) (graph.Place b (length at.block.instrs)) (graph.Head t) = record { block = at.block; block_there = at.block_there; target = t; leads = leads; begins = refl; ends = refl } in
        let found = head_found f p c reached 1 1 p.blocks lies (place_in p.blocks t) t (target_listed k t leads) in
        arc_joins n (Slot b k) (graph.Place b (length at.block.instrs)) (graph.Head t) (suc point + length at.block.instrs) (head_at 1 shapes (place_in p.blocks t)) there joins end_there
        (get_map (point_of f) p.points (head_at 1 shapes (place_in p.blocks t)) (Head t) found)

    insides_stand : Stands (arcs_of p.edges) edge (straight point (suc (shape f p c reached b).instructions))
    insides_stand =
        subst (λ s. Stands (arcs_of p.edges) edge (straight point (suc s.instructions))) (sym at.shape_is) (straight_stands (arcs_of p.edges) edge point (suc (length at.block.instrs)) inside_arc)

    slots_stand : Stands (arcs_of p.edges) (suc (edge + (shape f p c reached b).instructions)) (map (λ t. (suc point + (shape f p c reached b).instructions, head_at 1 shapes t)) (shape f p c reached b).targets)
    slots_stand =
        subst (λ s. Stands (arcs_of p.edges) (suc (edge + s.instructions)) (map (λ t. (suc point + s.instructions, head_at 1 shapes t)) s.targets)) (sym at.shape_is)
        (each_stands (arcs_of p.edges) (suc (edge + length at.block.instrs)) (λ (t : ℕ). pair (suc point + length at.block.instrs) (head_at 1 shapes t)) (map (place_in p.blocks) (slots_of at.block.term))
        (λ k x there. let r = get_map_back (place_in p.blocks) (slots_of at.block.term) k x there in
        slot_arc k r.0 r.1 ∙ ap (λ y. pair (suc point + length at.block.instrs) (head_at 1 shapes y)) r.2))

  arcs_stand : (point edge : ℕ) (blocks : List ℕ) → LieFrom f p c reached point edge blocks → Stands (arcs_of p.edges) edge (arcs_from (head_at 1 shapes) point (map (shape f p c reached) blocks))
  arcs_stand point edge [] all = tt
  arcs_stand point edge (b ∷ blocks) all =
      let s = shape f p c reached b in
      let inside = straight point (suc s.instructions) in
      let out : List (ℕ × ℕ) = map (λ (t : ℕ). (suc point + s.instructions, head_at 1 shapes t)) s.targets in
      let rest : List (ℕ × ℕ) = arcs_from (head_at 1 shapes) (next_point point s) (map (shape f p c reached) blocks) in
      let first : suc (edge + s.instructions) ≡ edge + length inside = omega (arith, length_straight point (suc s.instructions)) in
      let second : next_edge edge s ≡ edge + length inside + length out = omega (arith, length_straight point (suc s.instructions), length-map {B = ℕ × ℕ} s.targets (λ (t : ℕ). (suc point + s.instructions, head_at 1 shapes t))) in
      stands_append (arcs_of p.edges) edge inside (out ++ rest) (insides_stand b point edge all.0)
      (stands_append (arcs_of p.edges) (edge + length inside) out rest (subst (λ i. Stands (arcs_of p.edges) i out) first (slots_stand b point edge all.0))
      (subst (λ i. Stands (arcs_of p.edges) i rest) second (arcs_stand (next_point point s) (next_edge edge s) blocks all.1)))

  -- ---- the entry

  head_reached : IsReached f (graph.Head 0)
  head_reached = reached_next f Entry graph.Start (graph.Head 0) (refl, refl) (record { path = []; leads = refl })

  first_is : slice_get p.blocks 0 ≡ Some 0
  first_is = by (blocks_are.each 0 head_reached)
    where
      by : (i : ℕ) × (slice_get p.blocks i ≡ Some 0) → slice_get p.blocks 0 ≡ Some 0
      by (zero, e) = e
      by (suc i, e) =
          let first = get_some p.blocks 0 (let l = slice_get_within p.blocks (suc i) 0 e in omega (arith, l)) in
          absurd (let l = blocks_are.ascending 0 (suc i) first.0 0 (omega arith) first.1 e in omega (arith, l))

  first_head : (blocks : List ℕ) → slice_get blocks 0 ≡ Some 0 → LieFrom f p c reached 1 1 blocks → slice_get p.points 1 ≡ Some (Head 0)
  first_head [] e all = absurd cc
  first_head (b ∷ blocks) e all = let same : b ≡ 0 = cc in all.0.head ∙ ap (λ y. Some (Head y)) same

  pub some_block : 0 < length p.blocks
  some_block = slice_get_within p.blocks 0 0 first_is

  pub arcs_are : arcs_of p.edges ≡ shape_arcs shapes
  arcs_are =
      let entry = arc_joins 0 Entry graph.Start (graph.Head 0) 0 1 refl (refl, refl) told.start (get_map (point_of f) p.points 1 (Head 0) (first_head p.blocks first_is lies)) in
      same_lists (arcs_of p.edges) (shape_arcs shapes) (entry, arcs_stand 1 1 p.blocks lies)
      (omega (
        arith,
        length-map {B = ℕ × ℕ} p.edges (λ (e : numbered.Edge). (e.from, e.to)),
        zip_length (IsNumbered f p.points) (all_edges f p.blocks) p.edges are.edges,
        count_arcs f p c reached (head_at 1 shapes) 1 p.blocks known,
      ))

  pub points_are : shape_points shapes ≡ length p.points
  points_are = points_counted f p c reached are.points known

  -- ---- paths

  connects_along : (u : graph.Point) (path : List Hop) (w : graph.Point) (i j : ℕ) → IsReached f u → graph.IsPath f u path w → slice_get points i ≡ Some u → slice_get points j ≡ Some w → Connects (arcs_of p.edges) i j
  connects_along u [] w i j r leads from to = record { path = []; leads = told.points_once i j u from (to ∙ ap (λ x. Some x) (sym leads)) }
  connects_along u (hop ∷ path) w i j r leads from to =
      let joins : Joins f hop.edge u hop.to = subst (λ x. Joins f hop.edge x hop.to) (sym leads.0) leads.1 in
      let n = told.edges_there hop.edge u hop.to joins r in
      let e = edge_at n.0 hop.edge n.1 in
      let ends = number_ends n.0 hop.edge u hop.to n.1 joins in
      let arc : get_or (arcs_of p.edges) n.0 (0, 0) ≡ pair i e.0.to = arc_joins n.0 hop.edge u hop.to i e.0.to n.1 joins from ends.1 in
      let rest = connects_along hop.to path w e.0.to j (reached_next f hop.edge u hop.to joins r) leads.2 ends.1 to in
      let inside : n.0 < length (arcs_of p.edges) = let l = slice_get_within p.edges n.0 e.0 e.1 in omega (arith, l, length-map {B = ℕ × ℕ} p.edges (λ (e : numbered.Edge). (e.from, e.to))) in
      record {
        path = n.0 ∷ rest.path;
        leads = (inside, ap (λ a. a.0) arc, subst (λ x. IsPath (arcs_of p.edges) x rest.path j) (sym (ap (λ a. a.1) arc)) rest.leads);
      }

  pub all_reached : (v : ℕ) → v < length p.points → Connects (arcs_of p.edges) 0 v
  all_reached v lt =
      let at = get_some p.points v lt in
      let there = get_map (point_of f) p.points v at.0 at.1 in
      let r = told.points_reached v (point_of f at.0) there in
      connects_along graph.Start r.path (point_of f at.0) 0 v (record { path = []; leads = refl }) r.leads told.start there
