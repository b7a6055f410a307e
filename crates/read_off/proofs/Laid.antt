-- The reached blocks of a function, as they are read one after another.
use Rattle.std.proofs.Common.{◌≡◌, ℕ, zero, suc, ◌+◌, ◌<◌, ◌≤◌, Bool, List, [], ◌∷◌, ◌++◌, length, map, take, Some, sym, ap, ◌∙◌, subst, arith}
use Rattle.std.specs.Prelude.{slice_get}
use Rattle.std.proofs.lemmas.List.{take_more, take_all, length-map, length-take}
use Rattle.std.proofs.lemmas.Option.{slice_get_within}
use Rattle.ir_types.specs.declared.syntax.Block.{Block}
use Rattle.ir_types.specs.declared.syntax.Function.{Function}
use Rattle.flow_graph.specs.Slots.{slots_of}
use Rattle.point_graph.specs.Graph.{Inside, Slot}
use Rattle.point_graph.specs.declared.graph.Point.TheVariants.{Term}
use Rattle.point_graph.specs.Numbers.{KeepsRules, ArePoints, IsNumbered, all_edges}
use Rattle.point_graph.specs.declared.graph.Points.{Points}
use Rattle.expressions.specs.declared.syntax.Event.{Event}
use Rattle.profile.specs.declared.counts.FnCounts.{FnCounts}
use Rattle.profile.specs.Counts.{entering}
use Rattle.placement.specs.Costs.{weight_of}
use Rattle.best_placement.specs.Shapes.{Shape, points_from}
use Rattle.function_graphs.specs.Graphs.{shape_of}
use Rattle.function_graphs.proofs.Parts.{map_at, zip_length}
use Rattle.function_graphs.proofs.Lying.{LiesAt, shape}
use Rattle.block_places.specs.Places.{ArePlaces, edges_from}
use Rattle.block_places.proofs.Standing.{block_lies, same_block, targets_are, no_counts, no_test}
use Rattle.read_off.specs.declared.bits.SetBits.{SetBits}
use Rattle.read_off.specs.Bits.{ReadsBlock, ReadsBlocks, shape_with, targets_by}
use Rattle.read_off.proofs.Adding.{reads_more_blocks}

slots_room : (slots edge instrs total : ℕ) → edge + instrs < total → ((k : ℕ) → k < slots → suc (edge + instrs) + k < total) → edge + instrs + slots + 1 ≤ total
slots_room zero edge instrs total h each = omega arith
slots_room (suc n) edge instrs total h each = let l = each n (omega arith) in omega (arith, l)

module _ (f : Function) (p : Points) (keeps : KeepsRules f) (defined : 0 < length f.blocks) (are : ArePoints f p) (i b : ℕ) (block : Block) (there : slice_get p.blocks i ≡ Some b) (is : slice_get f.blocks b ≡ Some block) where
  abbrev all : FnCounts → (ℕ → Bool) → List Shape
  all c reached = map (shape f p c reached) p.blocks

  abbrev point : ℕ
  point = points_from 1 (take i (all no_counts no_test))

  abbrev edge : ℕ
  edge = edges_from 1 (take i (all no_counts no_test))

  abbrev at : LiesAt f p no_counts no_test b point edge
  at = block_lies f p keeps defined are i b block there is no_counts no_test

  same : at.block ≡ block
  same = same_block f p keeps defined are i b block there is no_counts no_test

  -- the points and the edges of the block at these numbers are there
  pub points_room : (next : ℕ) → next ≡ points_from 1 (take i (map (shape f p no_counts no_test) p.blocks)) → next + length block.instrs + 2 ≤ length p.points
  points_room next k =
      let l = slice_get_within p.points (suc point + length at.block.instrs) (Term b) at.term in
      let n : length at.block.instrs ≡ length block.instrs = ap (λ x. length x.instrs) same in
      omega (arith, l, n, k)

  pub edges_room : (next : ℕ) → next ≡ edges_from 1 (take i (map (shape f p no_counts no_test) p.blocks)) → next + length block.instrs + length (slots_of block.term) + 1 ≤ length p.edges
  edges_room next k =
      let n : length at.block.instrs ≡ length block.instrs = ap (λ x. length x.instrs) same in
      let s : length (slots_of at.block.term) ≡ length (slots_of block.term) = ap (λ x. length (slots_of x.term)) same in
      let room = slots_room (length (slots_of at.block.term)) edge (length at.block.instrs) (length (all_edges f p.blocks))
      (slice_get_within (all_edges f p.blocks) (edge + length at.block.instrs) (Inside b (length at.block.instrs)) (at.inside (length at.block.instrs) (omega arith)))
      (λ k lt. slice_get_within (all_edges f p.blocks) (suc (edge + length at.block.instrs) + k) (Slot b k) (at.slot k lt)) in
      omega (arith, room, n, s, k, zip_length (IsNumbered f p.points) (all_edges f p.blocks) p.edges are.edges)

  module _ (places : List ℕ) (placed : ArePlaces p.blocks (length f.blocks) places) where
    module _ (event : ℕ → Event) (nodes : ℕ → Bool) (ins ins' kept kept' : SetBits) where
      -- one more block is read
      pub next_block : ((c : FnCounts) (reached : ℕ → Bool) → ReadsBlocks event nodes (take i (map (shape f p c reached) p.blocks)) ins kept)
          → ((weight : ℕ) → ReadsBlock event nodes i (shape_with (length block.instrs) (targets_by places (slots_of block.term)) weight) ins ins' kept kept')
          → (c : FnCounts) (reached : ℕ → Bool) → ReadsBlocks event nodes (take (i + 1) (map (shape f p c reached) p.blocks)) ins' kept'
      next_block reads more c reached =
          let w : ℕ = weight_of (entering reached f c b) in
          let s : Shape = shape_with (length block.instrs) (targets_by places (slots_of block.term)) w in
          let inside : i < length (all c reached) = let l = slice_get_within p.blocks i b there in omega (arith, l, length-map p.blocks (shape f p c reached)) in
          let is_shape : s ≡ shape f p c reached b =
          ap (λ l. shape_with (length block.instrs) l w) (targets_are f p keeps defined are i b block there is places placed)
          ∙ ap (λ x. shape_of f c reached p.blocks b x) (sym (same_block f p keeps defined are i b block there is c reached))
          ∙ sym (block_lies f p keeps defined are i b block there is c reached).shape_is in
          let grown : take (i + 1) (all c reached) ≡ take i (all c reached) ++ s ∷ [] =
          take_more (all c reached) i s inside
          ∙ ap (λ x. take i (all c reached) ++ x ∷ []) (map_at (shape f p c reached) p.blocks i b s there ∙ sym is_shape) in
          let taken : length (take i (all c reached)) ≡ i = omega (arith, length-take i (all c reached), inside) in
          subst (λ l. ReadsBlocks event nodes l ins' kept') (sym grown)
          (reads_more_blocks event nodes (take i (all c reached)) s ins ins' kept kept' (reads c reached) (subst (λ k. ReadsBlock event nodes k s ins ins' kept kept') (sym taken) (more w)))

-- all blocks were read
pub all_read : (f : Function) (p : Points) (place : ℕ) (listed : List ℕ) (event : ℕ → Event) (nodes : ℕ → Bool) (ins kept : SetBits) → listed ≡ p.blocks → length listed ≤ place
    → ((c : FnCounts) (reached : ℕ → Bool) → ReadsBlocks event nodes (take place (map (shape f p c reached) p.blocks)) ins kept) → (c : FnCounts) (reached : ℕ → Bool) → ReadsBlocks event nodes (map (shape f p c reached) p.blocks) ins kept
all_read f p place listed event nodes ins kept e end reads c reached =
    subst (λ l. ReadsBlocks event nodes l ins kept)
    (take_all place (map (shape f p c reached) p.blocks) (let n : length listed ≡ length p.blocks = ap length e in omega (arith, end, n, length-map p.blocks (shape f p c reached))))
    (reads c reached)
