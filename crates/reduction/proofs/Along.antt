-- The arcs of the reached blocks of a graph are those by their sets and counts.
use Rattle.std.proofs.Common.{◌≡◌, ◌<◌, ◌+◌, ◌*◌, ℕ, suc, Bool, List, [], ◌∷◌, ◌++◌, Some, length, map, get_or, slice_get, refl, sym, ap, ◌∙◌, arith}
use Rattle.std.specs.List.{AllZip}
use Rattle.std.specs.Option.{option_map_or}
use Rattle.std.proofs.lemmas.List.{length-map}
use Rattle.std.proofs.lemmas.List.Sums.{sum_by-cons}
use Rattle.ir_types.specs.declared.syntax.Function.{Function}
use Rattle.flow_graph.specs.Slots.{slots_of}
use Rattle.point_graph.specs.Graph.{Edge, Entry, Slot}
use Rattle.point_graph.specs.Numbers.{all_edges, kind_of}
use Rattle.point_graph.specs.declared.graph.Points.{Points}
use Rattle.expressions.specs.declared.syntax.Event.{Event}
use Rattle.expressions.specs.declared.syntax.Event.TheVariants.{Passes}
use Rattle.expressions.specs.Kept.{Kept}
use Rattle.profile.specs.declared.counts.FnCounts.{FnCounts}
use Rattle.profile.specs.Counts.{HasSlots, entering}
use Rattle.flow_net.specs.declared.Arc.{Arc}
use Rattle.local_sets.specs.declared.blocks.BlockSets.{BlockSets}
use Rattle.placement.specs.Costs.{weight_of, edge_count}
use Rattle.best_placement.specs.Blocks as graphs
use Rattle.best_placement.specs.BlockNetwork.{arcs_of_blocks, constant, first_arcs, first_event, forced, head_node, last_arcs, last_event, slot_arcs, terminator_node}
use Rattle.best_placement.specs.Laws.{ExpressionGraph}
use Rattle.best_placement.specs.Shapes.{Shape, block_from, blocks_from, next_edge, next_point, slots_from}
use Rattle.function_graphs.specs.Graphs.{graph_of, place_in, shape_of, IsIn}
use Rattle.function_graphs.specs.Sets.{HasSets}
use Rattle.function_graphs.proofs.Arcs.{edge_at}
use Rattle.function_graphs.proofs.Lying.{LiesAt, LieFrom, shape}
use Rattle.block_counts.specs.Counts.{slot_counts, targets_of}
use Rattle.block_counts.proofs.Slots.{count_at, counts_len, targets_there}
use Rattle.reduction.specs.BlockArcs.{counted_arcs}
use Rattle.reduction.proofs.BySets.{arcs_along, arcs_at, paid_along}

abbrev arc : ℕ → ℕ → ℕ → Arc
arc index t cap = record { from = terminator_node index; to = head_node t; cap = cap }

-- slots whose weights are those of these counts
slots_same : (edge_weight : ℕ → ℕ) (index e : ℕ) (targets counts : List ℕ) → length counts ≡ length targets → ((k : ℕ) → k < length targets → edge_weight (e + k) ≡ weight_of (get_or counts k 0))
    → slot_arcs edge_weight index (slots_from e targets) ≡ counted_arcs index targets counts
slots_same edge_weight index e [] counts len each = refl
slots_same edge_weight index e (t ∷ targets) [] len each = absurd (omega (arith, len))
slots_same edge_weight index e (t ∷ targets) (n ∷ counts) len each =
    let z : e ≡ e + 0 = omega arith in
    ap (λ w. arc index t w ∷ slot_arcs edge_weight index (slots_from (suc e) targets)) (ap edge_weight z ∙ each 0 (omega arith))
    ∙ ap (λ l. arc index t (weight_of n) ∷ l) (slots_same edge_weight index (suc e) targets counts (omega (arith, len))
    (λ k lt. let y : suc e + k ≡ e + suc k = omega arith in ap edge_weight y ∙ each (suc k) (omega (arith, lt))))

-- the arcs of a block of the graph, and those by its sets
abbrev arcs_of : (ℕ → Event) → (ℕ → ℕ) → graphs.Block → List Arc
arcs_of event edge_weight b = first_arcs (first_event event b.steps) b.index b.weight ++ last_arcs (last_event event Passes b.steps) b.index b.weight ++ slot_arcs edge_weight b.index b.slots

abbrev by_sets : (ℕ → ℕ) → BlockSets → graphs.Block → List Arc
by_sets edge_weight s b = first_arcs s.first b.index b.weight ++ last_arcs s.last b.index b.weight ++ slot_arcs edge_weight b.index b.slots

sets_same : (event : ℕ → Event) (edge_weight : ℕ → ℕ) (b : graphs.Block) (s : BlockSets) → HasSets event b s → arcs_of event edge_weight b ≡ by_sets edge_weight s b
sets_same event edge_weight b s has =
    ap (λ k. first_arcs k b.index b.weight ++ last_arcs (last_event event Passes b.steps) b.index b.weight ++ slot_arcs edge_weight b.index b.slots) has.first
    ∙ ap (λ k. first_arcs s.first b.index b.weight ++ last_arcs k b.index b.weight ++ slot_arcs edge_weight b.index b.slots) has.last

module _ (f : Function) (p : Points) (t : Kept) (e : ℕ) (c : FnCounts) (reached : ℕ → Bool) (event : ℕ → Event) (is : IsIn f p t e reached event) (has : HasSlots f c) where
  abbrev graph : ExpressionGraph
  graph = graph_of f p c reached event

  weighs : (n : ℕ) (edge : Edge) → slice_get (all_edges f p.blocks) n ≡ Some edge → graph.edge_weight n ≡ weight_of (edge_count f c reached (kind_of edge))
  weighs n edge there =
      let r = edge_at f p c reached (record { module_of = t.module_of; rules = is.table.rules }) is.defined is.points n edge there in
      ap (λ o. option_map_or (λ x. weight_of (edge_count f c reached x.kind)) o 0) r.1 ∙ ap (λ k. weight_of (edge_count f c reached k)) r.2.kind

  pub entry_weighs : graph.edge_weight 0 ≡ weight_of c.entry
  entry_weighs = weighs 0 Entry refl

  module _ (b index point edge : ℕ) (at : LiesAt f p c reached b point edge) where
    abbrev shaped : Shape
    shaped = shape_of f c reached p.blocks b at.block

    abbrev places : List ℕ
    places = map (place_in p.blocks) (slots_of at.block.term)

    own : targets_of f b ≡ slots_of at.block.term
    own = targets_there f b at.block at.block_there

    slots_are : slot_arcs graph.edge_weight index (slots_from (suc (edge + length at.block.instrs)) places) ≡ counted_arcs index (map (place_in p.blocks) (targets_of f b)) (slot_counts f c b)
    slots_are =
        let wide : length (slot_counts f c b) ≡ length places = counts_len f c has b at.block at.block_there ∙ ap length own ∙ sym (length-map (slots_of at.block.term) (place_in p.blocks)) in
        slots_same graph.edge_weight index (suc (edge + length at.block.instrs)) places (slot_counts f c b) wide
        (λ k lt.
        let inside : k < length (slots_of at.block.term) = omega (arith, lt, length-map (slots_of at.block.term) (place_in p.blocks)) in
        weighs (suc (edge + length at.block.instrs) + k) (Slot b k) (at.slot k inside)
        ∙ ap weight_of (sym (count_at f c has b at.block at.block_there k (omega (arith, inside, ap length own)))))
        ∙ ap (λ l. counted_arcs index (map (place_in p.blocks) l) (slot_counts f c b)) (sym own)

    one_block : (s : BlockSets) → HasSets event (block_from index point edge (shape f p c reached b)) s → arcs_of event graph.edge_weight (block_from index point edge (shape f p c reached b)) ≡ arcs_at f c reached p.blocks index b s
    one_block s sets =
        sets_same event graph.edge_weight (block_from index point edge (shape f p c reached b)) s sets
        ∙ ap (λ x. by_sets graph.edge_weight s (block_from index point edge x)) at.shape_is
        ∙ ap (λ l. first_arcs s.first index (weight_of (entering reached f c b)) ++ last_arcs s.last index (weight_of (entering reached f c b)) ++ l) slots_are

    one_paid : (s : BlockSets) → HasSets event (block_from index point edge (shape f p c reached b)) s
        → (shape f p c reached b).weight * forced event Passes (block_from index point edge (shape f p c reached b)).steps ≡ weight_of (entering reached f c b) * s.forced
    one_paid s sets = ap (λ x. x.weight * forced event Passes (block_from index point edge (shape f p c reached b)).steps) at.shape_is ∙ ap (λ n. weight_of (entering reached f c b) * n) sets.forced_count

  pub blocks_same : (index point edge : ℕ) (bs : List ℕ) (sets : List BlockSets) → LieFrom f p c reached point edge bs → AllZip (HasSets event) (blocks_from index point edge (map (shape f p c reached) bs)) sets
      → arcs_of_blocks event graph.edge_weight (blocks_from index point edge (map (shape f p c reached) bs)) ≡ arcs_along f c reached p.blocks index bs sets
  blocks_same index point edge [] sets lie are = refl
  blocks_same index point edge (b ∷ bs) [] lie are = absurd are
  blocks_same index point edge (b ∷ bs) (s ∷ sets) lie are =
      ap (λ l. l ++ arcs_of_blocks event graph.edge_weight (blocks_from (suc index) (next_point point (shape f p c reached b)) (next_edge edge (shape f p c reached b)) (map (shape f p c reached) bs))) (one_block b index point edge lie.0 s are.0)
      ∙ ap (λ l. arcs_at f c reached p.blocks index b s ++ l) (blocks_same (suc index) (next_point point (shape f p c reached b)) (next_edge edge (shape f p c reached b)) bs sets lie.1 are.1)

  pub paid_same : (index point edge : ℕ) (bs : List ℕ) (sets : List BlockSets) → LieFrom f p c reached point edge bs → AllZip (HasSets event) (blocks_from index point edge (map (shape f p c reached) bs)) sets
      → constant event (blocks_from index point edge (map (shape f p c reached) bs)) ≡ paid_along f c reached bs sets
  paid_same index point edge [] sets lie are = refl
  paid_same index point edge (b ∷ bs) [] lie are = absurd are
  paid_same index point edge (b ∷ bs) (s ∷ sets) lie are =
      let rest : List graphs.Block = blocks_from (suc index) (next_point point (shape f p c reached b)) (next_edge edge (shape f p c reached b)) (map (shape f p c reached) bs) in
      let r : constant event rest ≡ paid_along f c reached bs sets = paid_same (suc index) (next_point point (shape f p c reached b)) (next_edge edge (shape f p c reached b)) bs sets lie.1 are.1 in
      sum_by-cons (λ (x : graphs.Block). x.weight * forced event Passes x.steps) (block_from index point edge (shape f p c reached b)) rest
      ∙ ap (λ n. n + constant event rest) (one_paid b index point edge lie.0 s are.0) ∙ ap (λ n. weight_of (entering reached f c b) * s.forced + n) r

-- as many blocks as shapes
pub count_blocks : (index point edge : ℕ) (shapes : List Shape) → length (blocks_from index point edge shapes) ≡ length shapes
count_blocks index point edge [] = refl
count_blocks index point edge (s ∷ shapes) = ap suc (count_blocks (suc index) (next_point point s) (next_edge edge s) shapes)
