-- Where the points and the edges of the reached blocks lie.
use Rattle.std.proofs.Common.{◌≡◌, ℕ, zero, suc, ◌+◌, ◌<◌, Bool, List, [], ◌∷◌, ◌++◌, length, map, Some, refl, sym, ap, ◌∙◌, subst, arith, cond, ◌==◌, ⊎_elim}
use Rattle.std.specs.Prelude.{slice_get, flat_map}
use Rattle.std.specs.List.{range_with_len, AllByRecursion}
use Rattle.std.specs.Option.{option_map_or}
use Rattle.std.proofs.lemmas.Bool.{cases_eq}
use Rattle.std.proofs.lemmas.Bool.Decides.{nat_tests}
use Rattle.std.proofs.lemmas.List.{length-append, length-map}
use Rattle.std.proofs.lemmas.List.FromFn.{length-map-range_with_len}
use Rattle.ir_types.specs.declared.syntax.Block.{Block}
use Rattle.ir_types.specs.declared.syntax.Function.{Function}
use Rattle.flow_graph.specs.Slots.{slots_of}
use Rattle.point_graph.specs.Graph.{Inside, Slot}
use Rattle.point_graph.specs.Numbers.{of_block, block_points, block_edges, all_points, all_edges}
use Rattle.point_graph.specs.declared.graph.Point.TheVariants.{Head, Instr, Term}
use Rattle.point_graph.specs.declared.graph.Points.{Points}
use Rattle.profile.specs.declared.counts.FnCounts.{FnCounts}
use Rattle.best_placement.specs.Blocks as graphs
use Rattle.best_placement.specs.Shapes.{Shape, block_from, next_point, next_edge, blocks_from, head_at, arcs_from, straight, points_from}
use Rattle.best_placement.proofs.Numbered.{length_straight}
use Rattle.function_graphs.specs.Graphs.{place_in, shape_of, shape_at, no_shape}
use Rattle.function_graphs.proofs.Parts.{StandsIn, stands_split, stands_whole, stands_range}

of_block-there : {X : Type 0} (items : ℕ → Block → List X) (f : Function) (b : ℕ) (block : Block) → slice_get f.blocks b ≡ Some block → of_block items f b ≡ items b block
of_block-there items f b block there = ap (λ o. option_map_or (items b) o []) there

module _ (f : Function) (p : Points) (c : FnCounts) (reached : ℕ → Bool) where
  abbrev pub shape : ℕ → Shape
  shape b = shape_at f c reached p.blocks b

  -- block b, with its head and its first edge at these numbers
  pub record LiesAt (b point edge : ℕ) : Type 0 where
    pub block : Block
    pub block_there : slice_get f.blocks b ≡ Some block
    pub shape_is : shape b ≡ shape_of f c reached p.blocks b block
    pub head : slice_get p.points point ≡ Some (Head b)
    pub instr : (k : ℕ) → k < length block.instrs → slice_get p.points (suc point + k) ≡ Some (Instr b k)
    pub term : slice_get p.points (suc point + length block.instrs) ≡ Some (Term b)
    pub inside : (k : ℕ) → k < suc (length block.instrs) → slice_get (all_edges f p.blocks) (edge + k) ≡ Some (Inside b k)
    pub points_stand : StandsIn p.points point (block_points b block)
    pub slot : (k : ℕ) → k < length (slots_of block.term) → slice_get (all_edges f p.blocks) (suc (edge + length block.instrs) + k) ≡ Some (Slot b k)

  abbrev pub LieFrom : ℕ → ℕ → List ℕ → Type 0
  LieFrom point edge [] = Unit {0}
  LieFrom point edge (b ∷ blocks) = LiesAt b point edge × LieFrom (next_point point (shape b)) (next_edge edge (shape b)) blocks

  abbrev pub IsThere : ℕ → Type 0
  IsThere b = (block : Block) × (slice_get f.blocks b ≡ Some block)

  shape-there : (b : ℕ) (block : Block) → slice_get f.blocks b ≡ Some block → shape b ≡ shape_of f c reached p.blocks b block
  shape-there b block there = ap (λ o. option_map_or (shape_of f c reached p.blocks b) o no_shape) there

  points-length : (b : ℕ) (block : Block) → slice_get f.blocks b ≡ Some block → (point : ℕ) → point + length (of_block block_points f b) ≡ next_point point (shape b)
  points-length b block there point =
      let instrs = map (Instr b) (range_with_len 0 (length block.instrs)) in
      let s : (shape b).instructions ≡ length block.instrs = ap (λ x. x.instructions) (shape-there b block there) in
      let l : length (of_block block_points f b) ≡ length (block_points b block) = ap length (of_block-there block_points f b block there) in
      let m : length (block_points b block) ≡ suc (length (instrs ++ Term b ∷ [])) = refl in
      omega (arith, s, l, m, length-append instrs (Term b ∷ []), length-map-range_with_len (Instr b) 0 (length block.instrs))

  edges-length : (b : ℕ) (block : Block) → slice_get f.blocks b ≡ Some block → (edge : ℕ) → edge + length (of_block block_edges f b) ≡ next_edge edge (shape b)
  edges-length b block there edge =
      let insides = map (Inside b) (range_with_len 0 (length block.instrs + 1)) in
      let slots = map (Slot b) (range_with_len 0 (length (slots_of block.term))) in
      let s : (shape b).instructions ≡ length block.instrs = ap (λ x. x.instructions) (shape-there b block there) in
      let t : length (shape b).targets ≡ length (map (place_in p.blocks) (slots_of block.term)) = ap (λ x. length x.targets) (shape-there b block there) in
      let l : length (of_block block_edges f b) ≡ length (insides ++ slots) = ap length (of_block-there block_edges f b block there) in
      omega (arith, s, t, l, length-append insides slots, length-map-range_with_len (Inside b) 0 (length block.instrs + 1), length-map-range_with_len (Slot b) 0 (length (slots_of block.term)), length-map (slots_of block.term) (place_in p.blocks))

  lies_at : (b point edge : ℕ) (block : Block) → slice_get f.blocks b ≡ Some block → StandsIn p.points point (block_points b block) → StandsIn (all_edges f p.blocks) edge (block_edges b block) → LiesAt b point edge
  lies_at b point edge block there points edges =
      let n = length block.instrs in
      let instrs = map (Instr b) (range_with_len 0 n) in
      let insides = map (Inside b) (range_with_len 0 (n + 1)) in
      let slots = map (Slot b) (range_with_len 0 (length (slots_of block.term))) in
      let inner = stands_split p.points (suc point) instrs (Term b ∷ []) points.1 in
      let outer = stands_split (all_edges f p.blocks) edge insides slots edges in
      let end : suc point + length instrs ≡ suc point + n = omega (arith, length-map-range_with_len (Instr b) 0 n) in
      let out : edge + length insides ≡ suc (edge + n) = omega (arith, length-map-range_with_len (Inside b) 0 (n + 1)) in
      record {
        block = block;
        block_there = there;
        points_stand = points;
        shape_is = shape-there b block there;
        head = points.0;
        instr = λ k lt. stands_range p.points (Instr b) (suc point) 0 n k inner.0 lt ∙ (let z : 0 + k ≡ k = omega arith in ap (λ i. Some (Instr b i)) z);
        term = ap (slice_get p.points) (sym end) ∙ inner.1.0;
        inside = λ k lt. stands_range (all_edges f p.blocks) (Inside b) edge 0 (n + 1) k outer.0 (omega (arith, lt)) ∙ (let z : 0 + k ≡ k = omega arith in ap (λ i. Some (Inside b i)) z);
        slot = λ k lt. stands_range (all_edges f p.blocks) (Slot b) (suc (edge + n)) 0 (length (slots_of block.term)) k (subst (λ i. StandsIn (all_edges f p.blocks) i slots) out outer.1) lt ∙ (let z : 0 + k ≡ k = omega arith in ap (λ i. Some (Slot b i)) z);
      }

  lie_from : (point edge : ℕ) (blocks : List ℕ) → AllByRecursion IsThere blocks → StandsIn p.points point (flat_map (of_block block_points f) blocks)
      → StandsIn (all_edges f p.blocks) edge (flat_map (of_block block_edges f) blocks) → LieFrom point edge blocks
  lie_from point edge [] known points edges = tt
  lie_from point edge (b ∷ blocks) known points edges =
      let block = known.0.0 in
      let there = known.0.1 in
      let ps = stands_split p.points point (of_block block_points f b) (flat_map (of_block block_points f) blocks) points in
      let es = stands_split (all_edges f p.blocks) edge (of_block block_edges f b) (flat_map (of_block block_edges f) blocks) edges in (
        lies_at b point edge block there (subst (λ l. StandsIn p.points point l) (of_block-there block_points f b block there) ps.0)
            (subst (λ l. StandsIn (all_edges f p.blocks) edge l) (of_block-there block_edges f b block there) es.0),
        lie_from (next_point point (shape b)) (next_edge edge (shape b)) blocks known.1
            (subst (λ i. StandsIn p.points i (flat_map (of_block block_points f) blocks)) (points-length b block there point) ps.1)
            (subst (λ i. StandsIn (all_edges f p.blocks) i (flat_map (of_block block_edges f) blocks)) (edges-length b block there edge) es.1),
      )

  -- the points and the edges of a function
  pub all_lie : p.points ≡ all_points f p.blocks → AllByRecursion IsThere p.blocks → LieFrom 1 1 p.blocks
  all_lie are known =
      lie_from 1 1 p.blocks known (subst (λ l. StandsIn l 1 (flat_map (of_block block_points f) p.blocks)) (sym are) (stands_whole (all_points f p.blocks)).1)
      (stands_whole (all_edges f p.blocks)).1

  -- ---- how many there are

  count_points : (point : ℕ) (blocks : List ℕ) → AllByRecursion IsThere blocks → point + length (flat_map (of_block block_points f) blocks) ≡ points_from point (map shape blocks)
  count_points point [] known = omega arith
  count_points point (b ∷ blocks) known =
      let own = of_block block_points f b in
      let rest = flat_map (of_block block_points f) blocks in
      let r = count_points (next_point point (shape b)) blocks known.1 in
      let l : point + length (own ++ rest) ≡ next_point point (shape b) + length rest = omega (arith, length-append own rest, points-length b known.0.0 known.0.1 point) in
      l ∙ r

  pub count_arcs : (heads : ℕ → ℕ) (point : ℕ) (blocks : List ℕ) → AllByRecursion IsThere blocks → length (flat_map (of_block block_edges f) blocks) ≡ length (arcs_from heads point (map shape blocks))
  count_arcs heads point [] known = refl
  count_arcs heads point (b ∷ blocks) known =
      let own = of_block block_edges f b in
      let rest = flat_map (of_block block_edges f) blocks in
      let s = shape b in
      let out : List (ℕ × ℕ) = map (λ (t : ℕ). (suc point + s.instructions, heads t)) s.targets in
      let later : List (ℕ × ℕ) = arcs_from heads (next_point point s) (map shape blocks) in
      let l : length own ≡ suc s.instructions + length s.targets = let e = edges-length b known.0.0 known.0.1 0 in omega (arith, e) in
      omega (
        arith,
        l,
        length-append own rest,
        count_arcs heads (next_point point s) blocks known.1,
        length-append (straight point (suc s.instructions)) (out ++ later),
        length-append out later,
        length_straight point (suc s.instructions),
        length-map {B = ℕ × ℕ} s.targets (λ (t : ℕ). (suc point + s.instructions, heads t)),
      )

  pub points_counted : p.points ≡ all_points f p.blocks → AllByRecursion IsThere p.blocks → points_from 1 (map shape p.blocks) ≡ length p.points
  points_counted are known = let l : length p.points ≡ length (all_points f p.blocks) = ap length are in let c = count_points 1 p.blocks known in omega (arith, l, c)

  -- ---- what holds of each block

  pub each_laid : (P : graphs.Block → Type 0) → ((b index point edge : ℕ) → LiesAt b point edge → P (block_from index point edge (shape b))) → (index point edge : ℕ) (blocks : List ℕ) → LieFrom point edge blocks
      → AllByRecursion P (blocks_from index point edge (map shape blocks))
  each_laid P h index point edge [] lies = tt
  each_laid P h index point edge (b ∷ blocks) lies = (h b index point edge lies.0, each_laid P h (suc index) (next_point point (shape b)) (next_edge edge (shape b)) blocks lies.1)

  pub each_shape : (P : Shape → Type 0) → ((b point edge : ℕ) → LiesAt b point edge → P (shape b)) → (point edge : ℕ) (blocks : List ℕ) → LieFrom point edge blocks → AllByRecursion P (map shape blocks)
  each_shape P h point edge [] lies = tt
  each_shape P h point edge (b ∷ blocks) lies = (h b point edge lies.0, each_shape P h (next_point point (shape b)) (next_edge edge (shape b)) blocks lies.1)

  -- where the head of a reached block is
  pub head_found : (point edge : ℕ) (blocks : List ℕ) → LieFrom point edge blocks → (i b : ℕ) → slice_get blocks i ≡ Some b → slice_get p.points (head_at point (map shape blocks) i) ≡ Some (Head b)
  head_found point edge [] lies i b e = absurd cc
  head_found point edge (x ∷ blocks) lies zero b e = let same : x ≡ b = cc in lies.0.head ∙ ap (λ y. Some (Head y)) same
  head_found point edge (x ∷ blocks) lies (suc i) b e = head_found (next_point point (shape x)) (next_edge edge (shape x)) blocks lies.1 i b e

place_here : (x b n : ℕ) → x ≡ b → cond (x == b) 0 n ≡ 0
place_here x b n e = grind (arith, nat_tests)

place_later : (x b n : ℕ) → (x ≡ b → ⊥) → cond (x == b) 0 n ≡ n
place_later x b n e = grind (arith, nat_tests)

-- a block of the list stands at its place
pub place_found : (blocks : List ℕ) (i b : ℕ) → slice_get blocks i ≡ Some b → slice_get blocks (place_in blocks b) ≡ Some b
place_found [] i b e = absurd cc
place_found (x ∷ blocks) zero b e = let same : x ≡ b = cc in ap (slice_get (x ∷ blocks)) (place_here x b (suc (place_in blocks b)) same) ∙ ap (λ y. Some y) same
place_found (x ∷ blocks) (suc i) b e =
    ⊎_elim
    (λ (same : x ≡ b). ap (slice_get (x ∷ blocks)) (place_here x b (suc (place_in blocks b)) same) ∙ ap (λ y. Some y) same)
    (λ (other : x ≡ b → ⊥). ap (slice_get (x ∷ blocks)) (place_later x b (suc (place_in blocks b)) other) ∙ place_found blocks i b e)
    (cases_eq x b)
