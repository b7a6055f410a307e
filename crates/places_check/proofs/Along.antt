-- The reached blocks of a function, passed one after another.
use Rattle.std.proofs.Common.{◌≡◌, ◌↔◌, ℕ, suc, ◌+◌, ◌*◌, ◌<◌, ◌≤◌, Bool, true, false, List, [], ◌∷◌, ◌++◌, length, map, take, drop, get_or, Some, All, sym, ap, ◌∙◌, subst, arith}
use Rattle.std.specs.Prelude.{slice_get}
use Rattle.std.specs.Option.{option_map_or}
use Rattle.std.specs.List.Sorted.{IsStrictlyIncreasing}
use Rattle.std.proofs.lemmas.List.{take_more, drop_more, drop_all, length-map}
use Rattle.std.proofs.lemmas.List.Elements.{All-from_recursion}
use Rattle.std.proofs.lemmas.Option.{slice_get_within, slice_get-get_or}
use Rattle.ir_types.specs.declared.syntax.Block.{Block}
use Rattle.ir_types.specs.declared.syntax.Function.{Function}
use Rattle.flow_graph.specs.Slots.{slots_of}
use Rattle.point_graph.specs.Numbers.{KeepsRules, ArePoints}
use Rattle.point_graph.specs.declared.graph.Points.{Points}
use Rattle.point_numbers.proofs.Reached.{reached_blocks}
use Rattle.expressions.specs.declared.syntax.Event.{Event}
use Rattle.expressions.specs.Kept.{Kept}
use Rattle.expressions.specs.Tables.{IsEventOf}
use Rattle.profile.specs.declared.counts.FnCounts.{FnCounts}
use Rattle.profile.specs.Counts.{entering}
use Rattle.placement.specs.Costs.{weight_of}
use Rattle.placement.specs.declared.placements.Placement.{Placement}
use Rattle.placement.specs.Placements.{arcs_of}
use Rattle.best_choice.specs.Best.{IsPlacementOn}
use Rattle.best_placement.specs.Laws.{IsReadOffOn}
use Rattle.best_placement.specs.Blocks as graphs
use Rattle.best_placement.specs.BlockNetwork.{head_node}
use Rattle.best_placement.specs.Bits.{positions, inserted_in, kept_in, bits_joined}
use Rattle.best_placement.specs.Shapes.{Shape, block_from, blocks_from, next_point, next_edge, points_from}
use Rattle.function_graphs.specs.Graphs.{place_in, shape_of, no_shape, graph_of, AreEventsOf, IsIn, FunctionsHaveGraphs, PlacementsAgree}
use Rattle.function_graphs.proofs.Parts.{map_at}
use Rattle.function_graphs.proofs.Lying.{shape}
use Rattle.function_graphs.proofs.Arcs.{each_at, target_listed}
use Rattle.block_places.specs.Places.{edges_from}
use Rattle.block_places.proofs.Standing.{block_lies, same_block, no_counts, no_test}
use Rattle.read_off.specs.Bits.{shape_with, edge_bits, point_bits, HasBits, ReadOffIsBits}
use Rattle.read_off.proofs.Adding.{points_snoc, edges_snoc}
use Rattle.places_check.specs.Walked.{IsLeft, GoesPast, GoesBlock, IsTarget}
use Rattle.places_check.specs.declared.cursor.Cursor.{Cursor}

-- ---- where the blocks are

pub blocks_ascend : (f : Function) (p : Points) → KeepsRules f → 0 < length f.blocks → ArePoints f p → IsStrictlyIncreasing p.blocks
blocks_ascend f p keeps defined are k lt =
    (reached_blocks f keeps defined p.blocks are.blocks).ascending k (k + 1) (get_or p.blocks k 0) (get_or p.blocks (k + 1) 0) (omega arith) (slice_get-get_or p.blocks k 0 (omega arith)) (slice_get-get_or p.blocks (k + 1) 0 lt)

-- ---- what is left of a list

-- behind the first bit
begins : (list : List ℕ) (bit : Bool) (rest : List Bool) (a b : Cursor) → a.left.now ≡ list → a.next ≡ 0 → a.agrees ≡ true → GoesPast (bit ∷ []) a b → (list ≡ positions 0 (bit ∷ rest)) ↔ IsLeft rest b
begins list bit rest a b l n t past = (
  (λ e. (past.left rest).0 (t, l ∙ e ∙ ap (λ m. positions m (bit ∷ rest)) (sym n))),
  (λ h. let back : IsLeft (bit ∷ rest) a = (past.left rest).1 h in sym l ∙ back.1 ∙ ap (λ m. positions m (bit ∷ rest)) n),
)

-- behind one more block
goes_on : (bits : graphs.Block → List Bool) (i point edge point' edge' : ℕ) (left rest : List Shape) (s : Shape) (Whole : Type 0) (old new : Cursor) → left ≡ s ∷ rest → point' ≡ next_point point s → edge' ≡ next_edge edge s
    → GoesPast (bits (block_from i point edge s)) old new → Whole ↔ IsLeft (bits_joined bits (blocks_from i point edge left)) old → Whole ↔ IsLeft (bits_joined bits (blocks_from (i + 1) point' edge' rest)) new
goes_on bits i point edge point' edge' left rest s Whole old new e p q past whole =
    let behind : List Bool = bits_joined bits (blocks_from (suc i) (next_point point s) (next_edge edge s) rest) in
    let one : suc i ≡ i + 1 = omega arith in
    let same : behind ≡ bits_joined bits (blocks_from (i + 1) point' edge' rest) =
    ap (λ k. bits_joined bits (blocks_from k (next_point point s) (next_edge edge s) rest)) one
    ∙ ap (λ k. bits_joined bits (blocks_from (i + 1) k (next_edge edge s) rest)) (sym p)
    ∙ ap (λ k. bits_joined bits (blocks_from (i + 1) point' k rest)) (sym q) in
    let here : Whole ↔ IsLeft (bits (block_from i point edge s) ++ behind) old = subst (λ l. Whole ↔ IsLeft (bits_joined bits (blocks_from i point edge l)) old) e whole in
    subst (λ l. Whole ↔ IsLeft l new) same ((λ w. (past.left behind).0 (here.0 w)), (λ h. here.1 ((past.left behind).1 h)))

-- ---- block after block

module _ (f : Function) (p : Points) (nodes : ℕ → Bool) (placement : Placement) where
  abbrev HasEdges : FnCounts → (ℕ → Bool) → (ℕ → Event) → Type 0
  HasEdges c reached event = placement.inserted ≡ positions 0 (edge_bits (graph_of f p c reached event) nodes)

  abbrev HasPoints : FnCounts → (ℕ → Bool) → (ℕ → Event) → Type 0
  HasPoints c reached event = placement.kept ≡ positions 0 (point_bits (graph_of f p c reached event) nodes)

  -- the first i blocks were passed, and the bits of the others are left
  pub record Along (Its : (ℕ → Event) → Type 0) (i : ℕ) (ins kept : Cursor) (c : FnCounts) (reached : ℕ → Bool) : Type 0 where
    pub edge : ins.next ≡ edges_from 1 (take i (map (shape f p c reached) p.blocks))
    pub point : kept.next ≡ points_from 1 (take i (map (shape f p c reached) p.blocks))
    pub edges : (event : ℕ → Event) → Its event → HasEdges c reached event ↔ IsLeft (bits_joined (inserted_in event nodes) (blocks_from i kept.next ins.next (drop i (map (shape f p c reached) p.blocks)))) ins
    pub points : (event : ℕ → Event) → Its event → HasPoints c reached event ↔ IsLeft (bits_joined (kept_in event nodes) (blocks_from i kept.next ins.next (drop i (map (shape f p c reached) p.blocks)))) kept

  -- no block was passed
  pub along_none : (Its : (ℕ → Event) → Type 0) (ins ins' kept kept' : Cursor) → ins.left.now ≡ placement.inserted → ins.next ≡ 0 → ins.agrees ≡ true → kept.left.now ≡ placement.kept → kept.next ≡ 0 → kept.agrees ≡ true
      → GoesPast (nodes (head_node 0) ∷ []) ins ins' → GoesPast (false ∷ []) kept kept' → (c : FnCounts) (reached : ℕ → Bool) → Along Its 0 ins' kept' c reached
  along_none Its ins ins' kept kept' il iz it kl kz kt first second c reached =
      let shapes : List Shape = map (shape f p c reached) p.blocks in
      let edge : 1 ≡ ins'.next = let n = first.next in omega arith in
      let point : 1 ≡ kept'.next = let n = second.next in omega arith in
      record {
        edge = sym edge;
        point = sym point;
        edges = λ event its. subst (λ k. HasEdges c reached event ↔ IsLeft (bits_joined (inserted_in event nodes) (blocks_from 0 k ins'.next shapes)) ins') point
            (subst (λ e. HasEdges c reached event ↔ IsLeft (bits_joined (inserted_in event nodes) (blocks_from 0 1 e shapes)) ins') edge
            (begins placement.inserted (nodes (head_node 0)) (bits_joined (inserted_in event nodes) (blocks_from 0 1 1 shapes)) ins ins' il iz it first));
        points = λ event its. subst (λ k. HasPoints c reached event ↔ IsLeft (bits_joined (kept_in event nodes) (blocks_from 0 k ins'.next shapes)) kept') point
            (subst (λ e. HasPoints c reached event ↔ IsLeft (bits_joined (kept_in event nodes) (blocks_from 0 1 e shapes)) kept') edge
            (begins placement.kept false (bits_joined (kept_in event nodes) (blocks_from 0 1 1 shapes)) kept kept' kl kz kt second));
      }

  -- all blocks were passed
  pub along_all : (Its : (ℕ → Event) → Type 0) (i : ℕ) (ins kept : Cursor) (c : FnCounts) (reached : ℕ → Bool) → length p.blocks ≤ i → Along Its i ins kept c reached → (event : ℕ → Event) → Its event
      → HasBits (graph_of f p c reached event) nodes placement ↔ (IsLeft [] ins × IsLeft [] kept)
  along_all Its i ins kept c reached end along event its =
      let shapes : List Shape = map (shape f p c reached) p.blocks in
      let none : drop i shapes ≡ [] = drop_all i shapes (omega (arith, end, length-map p.blocks (shape f p c reached))) in
      let edges : HasEdges c reached event ↔ IsLeft [] ins = subst (λ l. HasEdges c reached event ↔ IsLeft (bits_joined (inserted_in event nodes) (blocks_from i kept.next ins.next l)) ins) none (along.edges event its) in
      let points : HasPoints c reached event ↔ IsLeft [] kept = subst (λ l. HasPoints c reached event ↔ IsLeft (bits_joined (kept_in event nodes) (blocks_from i kept.next ins.next l)) kept) none (along.points event its) in (
        (λ bits. (edges.0 bits.inserted, points.0 bits.kept)),
        (λ h. record { inserted = edges.1 h.0; kept = points.1 h.1 }),
      )

-- what is read off is told by what is left behind all blocks
pub read_by_left : FunctionsHaveGraphs → PlacementsAgree → ReadOffIsBits → (f : Function) (p : Points) (t : Kept) (e : ℕ) (nodes : ℕ → Bool) (placement : Placement) → IsPlacementOn (arcs_of p.edges) (length p.points) (IsEventOf f p t e) placement
    → (listed : List ℕ) (i : ℕ) (ins kept : Cursor) → listed ≡ p.blocks → length listed ≤ i → ((c : FnCounts) (reached : ℕ → Bool) → Along f p nodes placement (AreEventsOf f p t e) i ins kept c reached)
    → (c : FnCounts) (reached : ℕ → Bool) (event : ℕ → Event) → IsIn f p t e reached event → IsReadOffOn (graph_of f p c reached event) nodes placement ↔ (IsLeft [] ins × IsLeft [] kept)
read_by_left graphs agree law f p t e nodes placement placed listed i ins kept same end along c reached event is =
    let by_bits = law (graph_of f p c reached event) nodes placement (graphs f p t e c reached event is) ((agree f p t e c reached event placement is).is_placement.1 placed) in
    let by_left = along_all f p nodes placement (AreEventsOf f p t e) i ins kept c reached (let n = ap length same in omega (arith, end, n)) (along c reached) event is.events in
    ((λ read. by_left.0 (by_bits.0 read)), (λ h. by_bits.1 (by_left.1 h)))

module _ (f : Function) (p : Points) (keeps : KeepsRules f) (defined : 0 < length f.blocks) (are : ArePoints f p) (i b : ℕ) (block : Block) (there : slice_get p.blocks i ≡ Some b) (is : slice_get f.blocks b ≡ Some block) where
  -- the slots lead to listed blocks
  pub targets_listed : (sink_side : List Bool) → length sink_side ≡ 2 + 2 * length p.blocks → All (IsTarget p.blocks sink_side) (slots_of block.term)
  targets_listed sink_side flags = All-from_recursion (IsTarget p.blocks sink_side) (slots_of block.term)
      (each_at (IsTarget p.blocks sink_side) (slots_of block.term) (λ k t leads.
      let at = block_lies f p keeps defined are i b block there is no_counts no_test in
      let listed = target_listed f p no_counts no_test keeps defined are b (points_from 1 (take i (map (shape f p no_counts no_test) p.blocks))) (edges_from 1 (take i (map (shape f p no_counts no_test) p.blocks))) at k t
      (ap (λ x. slice_get (slots_of x.term) k) (same_block f p keeps defined are i b block there is no_counts no_test) ∙ leads) in
      let l = slice_get_within p.blocks (place_in p.blocks t) t listed in
      record { listed = listed; flag = omega (arith, l, flags) }))

  -- one more block is passed
  pub along_more : (nodes : ℕ → Bool) (placement : Placement) (Its : (ℕ → Event) → Type 0) (ins ins' kept kept' : Cursor) (c : FnCounts) (reached : ℕ → Bool)
      → ins'.next ≡ ins.next + length block.instrs + 1 + length (slots_of block.term) → kept'.next ≡ kept.next + length block.instrs + 2
      → ((event : ℕ → Event) (weight : ℕ) → Its event → GoesBlock event nodes i (shape_with (length block.instrs) (map (place_in p.blocks) (slots_of block.term)) weight) ins ins' kept kept')
      → Along f p nodes placement Its i ins kept c reached → Along f p nodes placement Its (i + 1) ins' kept' c reached
  along_more nodes placement Its ins ins' kept kept' c reached edges points goes along =
      let shapes : List Shape = map (shape f p c reached) p.blocks in
      let w : ℕ = weight_of (entering reached f c b) in
      let s : Shape = shape_with (length block.instrs) (map (place_in p.blocks) (slots_of block.term)) w in
      let is_shape : shape f p c reached b ≡ s = ap (λ o. option_map_or (shape_of f c reached p.blocks b) o no_shape) is in
      let inside : i < length shapes = let l = slice_get_within p.blocks i b there in omega (arith, l, length-map p.blocks (shape f p c reached)) in
      let at : get_or shapes i s ≡ s = map_at (shape f p c reached) p.blocks i b s there ∙ is_shape in
      let left : drop i shapes ≡ s ∷ drop (i + 1) shapes = drop_more shapes i s inside ∙ ap (λ x. x ∷ drop (i + 1) shapes) at in
      let grown : take (i + 1) shapes ≡ take i shapes ++ s ∷ [] = take_more shapes i s inside ∙ ap (λ x. take i shapes ++ x ∷ []) at in
      let edge : ins'.next ≡ next_edge ins.next s = omega (arith, edges, length-map (slots_of block.term) (place_in p.blocks)) in
      let point : kept'.next ≡ next_point kept.next s = omega (arith, points) in
      record {
        edge = edge ∙ ap (λ e. next_edge e s) along.edge ∙ sym (edges_snoc 1 (take i shapes) s) ∙ ap (edges_from 1) (sym grown);
        point = point ∙ ap (λ e. next_point e s) along.point ∙ sym (points_snoc 1 (take i shapes) s) ∙ ap (points_from 1) (sym grown);
        edges = λ event its. goes_on (inserted_in event nodes) i kept.next ins.next kept'.next ins'.next (drop i shapes) (drop (i + 1) shapes) s (HasEdges f p nodes placement c reached event) ins ins' left point edge
            (goes event w its).edges (along.edges event its);
        points = λ event its. goes_on (kept_in event nodes) i kept.next ins.next kept'.next ins'.next (drop i shapes) (drop (i + 1) shapes) s (HasPoints f p nodes placement c reached event) kept kept' left point edge
            (goes event w its).points (along.points event its);
      }
