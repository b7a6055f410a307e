-- Where a reached block stands, and where its slots lead.
use Rattle.std.proofs.Common.{◌≡◌, ℕ, zero, suc, ◌+◌, ◌*◌, ◌<◌, ◌≤◌, Bool, false, List, [], ◌∷◌, length, map, take, get_or, Some, All, refl, sym, ap, ◌∙◌, subst, arith}
use Rattle.std.specs.Prelude.{slice_get}
use Rattle.std.specs.List.{AllByRecursion}
use Rattle.std.proofs.lemmas.List.{length-map}
use Rattle.std.proofs.lemmas.List.Elements.{All-from_recursion}
use Rattle.std.proofs.lemmas.Option.{slice_get_within, slice_get-get_or}
use Rattle.ir_types.specs.declared.syntax.Block.{Block}
use Rattle.ir_types.specs.declared.syntax.Function.{Function}
use Rattle.flow_graph.specs.Slots.{slots_of}
use Rattle.point_graph.specs.Numbers.{KeepsRules, ArePoints}
use Rattle.point_graph.specs.declared.graph.Points.{Points}
use Rattle.point_numbers.proofs.Reached.{reached_blocks}
use Rattle.profile.specs.declared.counts.FnCounts.{FnCounts}
use Rattle.best_placement.specs.BlockNetwork.{head_node}
use Rattle.best_placement.specs.Shapes.{Shape, next_point, next_edge, points_from}
use Rattle.function_graphs.specs.Graphs.{place_in}
use Rattle.function_graphs.proofs.Lying.{LiesAt, LieFrom, shape}
use Rattle.function_graphs.proofs.Arcs.{each_at, lies, points_are, target_listed}
use Rattle.block_places.specs.Places.{ArePlaces, edges_from}

same_map : (g h : ℕ → ℕ) (xs : List ℕ) → AllByRecursion (λ t. g t ≡ h t) xs → map g xs ≡ map h xs
same_map g h [] all = refl
same_map g h (x ∷ xs) all = ap (λ y. y ∷ map g xs) all.0 ∙ ap (λ l. h x ∷ l) (same_map g h xs all.1)

lies_here : (f : Function) (p : Points) (c : FnCounts) (reached : ℕ → Bool) (point edge : ℕ) (blocks : List ℕ) (i b : ℕ) → LieFrom f p c reached point edge blocks → slice_get blocks i ≡ Some b
    → LiesAt f p c reached b (points_from point (take i (map (shape f p c reached) blocks))) (edges_from edge (take i (map (shape f p c reached) blocks)))
lies_here f p c reached point edge [] i b all e = absurd cc
lies_here f p c reached point edge (x ∷ blocks) zero b all e = let same : x ≡ b = cc in subst (λ y. LiesAt f p c reached y point edge) same all.0
lies_here f p c reached point edge (x ∷ blocks) (suc i) b all e =
    lies_here f p c reached (next_point point (shape f p c reached x)) (next_edge edge (shape f p c reached x)) blocks i b all.1 e

-- the number of the block that stands at a place
pub block_there : (blocks listed : List ℕ) (i : ℕ) → listed ≡ blocks → i < length listed → slice_get blocks i ≡ Some (get_or listed i 0)
block_there blocks listed i e inside = ap (λ l. slice_get l i) (sym e) ∙ slice_get-get_or listed i 0 inside

-- counts of no matter
abbrev pub no_counts : FnCounts
no_counts = record { entry = 0; slots = [] }

abbrev pub no_test : ℕ → Bool
no_test b = false

module _ (f : Function) (p : Points) (keeps : KeepsRules f) (defined : 0 < length f.blocks) (are : ArePoints f p) (i b : ℕ) (block : Block) (there : slice_get p.blocks i ≡ Some b) (is : slice_get f.blocks b ≡ Some block) where
  module _ (c : FnCounts) (reached : ℕ → Bool) where
    abbrev shapes_before : List Shape
    shapes_before = take i (map (shape f p c reached) p.blocks)

    pub block_lies : LiesAt f p c reached b (points_from 1 shapes_before) (edges_from 1 shapes_before)
    block_lies = lies_here f p c reached 1 1 p.blocks i b (lies f p c reached keeps defined are) there

    pub same_block : block_lies.block ≡ block
    same_block = let both : Some block_lies.block ≡ Some block = sym block_lies.block_there ∙ is in cc

  module _ (places : List ℕ) (placed : ArePlaces p.blocks (length f.blocks) places) where
    target_here : (k t : ℕ) → slice_get (slots_of block.term) k ≡ Some t → slice_get p.blocks (place_in p.blocks t) ≡ Some t
    target_here k t leads =
        target_listed f p no_counts no_test keeps defined are b (points_from 1 (shapes_before no_counts no_test)) (edges_from 1 (shapes_before no_counts no_test)) (block_lies no_counts no_test) k t
        (ap (λ x. slice_get (slots_of x.term) k) (same_block no_counts no_test) ∙ leads)

    target_inside : (k t : ℕ) → slice_get (slots_of block.term) k ≡ Some t → t < length f.blocks
    target_inside k t leads =
        let found = (reached_blocks f keeps defined p.blocks are.blocks).blocks (place_in p.blocks t) t (target_here k t leads) in
        slice_get_within f.blocks t found.0 found.1

    -- each slot leads to a block with a place and a node
    pub targets_fit : (nodes : ℕ) → nodes ≡ 2 + 2 * length p.blocks → All (λ t. (t < length places) × (head_node (get_or places t 0) < nodes)) (slots_of block.term)
    targets_fit nodes count = All-from_recursion (λ t. (t < length places) × (head_node (get_or places t 0) < nodes)) (slots_of block.term)
        (each_at (λ t. (t < length places) × (head_node (get_or places t 0) < nodes)) (slots_of block.term) (λ k t leads.
        let inside = target_inside k t leads in
        let l = slice_get_within p.blocks (place_in p.blocks t) t (target_here k t leads) in
        let e = placed.are t inside in
        let n = placed.len in
        (omega (arith, inside, n), omega (arith, l, e, count))))

    -- the table has the places of the blocks to which the slots lead
    pub targets_are : map (λ t. get_or places t 0) (slots_of block.term) ≡ map (place_in p.blocks) (slots_of block.term)
    targets_are = same_map (λ t. get_or places t 0) (place_in p.blocks) (slots_of block.term)
        (each_at (λ t. get_or places t 0 ≡ place_in p.blocks t) (slots_of block.term) (λ k t leads. placed.are t (target_inside k t leads)))

pub placed_as : (blocks listed : List ℕ) (count n : ℕ) (table places : List ℕ) → listed ≡ blocks → n ≡ count → places ≡ table → ArePlaces listed n table → ArePlaces blocks count places
placed_as blocks listed count n table places e h s placed = subst (λ l. ArePlaces blocks count l) (sym s) (subst (λ k. ArePlaces blocks k table) h (subst (λ l. ArePlaces l n table) e placed))

-- the listed blocks are blocks of the function
pub blocks_within : (f : Function) (p : Points) → KeepsRules f → 0 < length f.blocks → ArePoints f p → (listed : List ℕ) (n : ℕ) → listed ≡ p.blocks → n ≡ length f.blocks → All (λ b. b < n) listed
blocks_within f p keeps defined are listed n e m k d lt =
    let there : slice_get p.blocks k ≡ Some (get_or listed k d) = ap (λ l. slice_get l k) (sym e) ∙ slice_get-get_or listed k d lt in
    let found = (reached_blocks f keeps defined p.blocks are.blocks).blocks k (get_or listed k d) there in
    let l = slice_get_within f.blocks (get_or listed k d) found.0 found.1 in
    omega (arith, l, m)

each_has_points : (point : ℕ) (shapes : List Shape) → point + length shapes ≤ points_from point shapes
each_has_points point [] = omega arith
each_has_points point (s ∷ shapes) = let r = each_has_points (next_point point s) shapes in omega (arith, r)

pub blocks_few : (f : Function) (p : Points) → KeepsRules f → 0 < length f.blocks → ArePoints f p → (listed : List ℕ) → listed ≡ p.blocks → length listed < 1048576
blocks_few f p keeps defined are listed e =
    let n = ap length e in
    let l = points_are f p no_counts no_test keeps defined are in
    let h = each_has_points 1 (map (shape f p no_counts no_test) p.blocks) in
    let few = are.few in
    omega (arith, n, l, h, few, length-map p.blocks (shape f p no_counts no_test))
