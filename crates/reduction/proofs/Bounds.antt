-- How many arcs a block network has, and how many forced occurrences.
use Rattle.std.proofs.Common.{◌≡◌, ◌≤◌, ◌+◌, ◌*◌, ℕ, suc, Bool, true, false, cond, List, [], ◌∷◌, ◌++◌, Some, length, map, filter, slice_get, sum_by, ap, arith}
use Rattle.std.specs.Prelude.{flat_map}
use Rattle.std.specs.List.{AllZip, range_with_len}
use Rattle.std.specs.Option.{option_map_or}
use Rattle.std.proofs.lemmas.List.{length-append, length-map}
use Rattle.std.proofs.lemmas.List.FromFn.{length-map-range_with_len}
use Rattle.std.proofs.lemmas.List.Sums.{sum_by-cons}
use Rattle.ir_types.specs.declared.syntax.Block.{Block}
use Rattle.ir_types.specs.declared.syntax.Function.{Function}
use Rattle.flow_graph.specs.Slots.{slots_of}
use Rattle.point_graph.specs.Graph.{Inside, Slot}
use Rattle.point_graph.specs.Numbers.{block_edges, block_points, of_block}
use Rattle.expressions.specs.declared.syntax.Event.{Event}
use Rattle.expressions.specs.declared.syntax.Event.TheVariants.{Occurs, Kills, Bars, Passes}
use Rattle.expressions.specs.Kept.{Kept}
use Rattle.profile.specs.declared.counts.FnCounts.{FnCounts}
use Rattle.profile.specs.Counts.{entering}
use Rattle.local_sets.specs.declared.blocks.BlockSets.{BlockSets}
use Rattle.local_sets.specs.Blocks.{forced_after, is_forced, occurs_or_kills, IsAt, IsBlockSets}
use Rattle.placement.specs.Costs.{weight_of}
use Rattle.best_placement.specs.BlockNetwork.{first_arcs, last_arcs}
use Rattle.function_graphs.specs.Graphs.{place_in}
use Rattle.function_graphs.proofs.Parts.{zip_length}
use Rattle.block_counts.specs.Counts.{slot_counts, targets_of}
use Rattle.block_counts.proofs.Slots.{targets_there}
use Rattle.reduction.specs.BlockArcs.{counted_arcs}
use Rattle.reduction.proofs.BySets.{arcs_along, arcs_at}

-- ---- forced occurrences

one_forced : (before event : Event) → is_forced before event ≤ 1
one_forced Occurs event = omega arith
one_forced Kills Occurs = omega arith
one_forced Kills Kills = omega arith
one_forced Kills Bars = omega arith
one_forced Kills Passes = omega arith
one_forced Bars event = omega arith
one_forced Passes event = omega arith

forced_few : (before : Event) (events : List Event) → forced_after before events ≤ length events
forced_few before [] = omega arith
forced_few before (k ∷ events) = omega (arith, one_forced before k, forced_few k events)

one_filtered : {X : Type 0} (b : Bool) (x : X) (xs : List X) (n : ℕ) → length xs ≤ n → length (cond b (x ∷ xs) xs) ≤ suc n
one_filtered true x xs n h = omega (arith, h)
one_filtered false x xs n h = omega (arith, h)

filter_few : {X : Type 0} (test : X → Bool) (xs : List X) → length (filter test xs) ≤ length xs
filter_few test [] = omega arith
filter_few test (x ∷ xs) = one_filtered (test x) x (filter test xs) (length xs) (filter_few test xs)

abbrev pub forced_sum : List BlockSets → ℕ
forced_sum sets = sum_by (λ s. s.forced) sets

there_is : {X : Type 0} (items : ℕ → Block → List X) (f : Function) (b : ℕ) (block : Block) → slice_get f.blocks b ≡ Some block → of_block items f b ≡ items b block
there_is items f b block there = ap (λ o. option_map_or (items b) o []) there

module _ (f : Function) (t : Kept) (e : ℕ) where
  block_forced : (b : ℕ) (s : BlockSets) → IsBlockSets f t e b s → s.forced ≤ length (of_block block_points f b)
  block_forced b s has =
      let all = zip_length (IsAt f t e) (block_points b has.block) has.events has.are in
      let points = ap length (there_is block_points f b has.block has.block_there) in
      omega (arith, ap (λ (x : BlockSets). x.forced) has.sets_are, forced_few Passes (filter occurs_or_kills has.events), filter_few occurs_or_kills has.events, all, points)

  pub forced_below : (bs : List ℕ) (sets : List BlockSets) → AllZip (IsBlockSets f t e) bs sets → forced_sum sets ≤ length (flat_map (of_block block_points f) bs)
  forced_below [] [] are = omega arith
  forced_below [] (s ∷ sets) are = absurd are
  forced_below (b ∷ bs) [] are = absurd are
  forced_below (b ∷ bs) (s ∷ sets) are =
      omega (
        arith,
        block_forced b s are.0,
        forced_below bs sets are.1,
        sum_by-cons (λ (x : BlockSets). x.forced) s sets,
        length-append (of_block block_points f b) (flat_map (of_block block_points f) bs),
      )

-- ---- arcs

first_few : (k : Event) (index w : ℕ) → length (first_arcs k index w) ≤ 1
first_few Occurs index w = omega arith
first_few Kills index w = omega arith
first_few Bars index w = omega arith
first_few Passes index w = omega arith

last_few : (k : Event) (index w : ℕ) → length (last_arcs k index w) ≤ 1
last_few Occurs index w = omega arith
last_few Kills index w = omega arith
last_few Bars index w = omega arith
last_few Passes index w = omega arith

counted_few : (index : ℕ) (targets counts : List ℕ) → length (counted_arcs index targets counts) ≤ length targets
counted_few index [] counts = omega arith
counted_few index (t ∷ targets) [] = omega arith
counted_few index (t ∷ targets) (n ∷ counts) = omega (arith, counted_few index targets counts)

module _ (f : Function) (c : FnCounts) (reached : ℕ → Bool) (blocks : List ℕ) where
  block_few : (index b : ℕ) (s : BlockSets) (block : Block) → slice_get f.blocks b ≡ Some block → length (arcs_at f c reached blocks index b s) ≤ 2 * length (of_block block_edges f b)
  block_few index b s block there =
      let w = weight_of (entering reached f c b) in
      let targets = map (place_in blocks) (targets_of f b) in
      let first = first_arcs s.first index w in
      let last = last_arcs s.last index w in
      let slots = counted_arcs index targets (slot_counts f c b) in
      let insides = map (Inside b) (range_with_len 0 (length block.instrs + 1)) in
      let outs = map (Slot b) (range_with_len 0 (length (slots_of block.term))) in
      let edges = ap length (there_is block_edges f b block there) in
      let own = ap length (targets_there f b block there) in
      omega (
        arith,
        edges,
        own,
        first_few s.first index w,
        last_few s.last index w,
        counted_few index targets (slot_counts f c b),
        length-append (first ++ last) slots,
        length-append first last,
        length-append insides outs,
        length-map (targets_of f b) (place_in blocks),
        length-map-range_with_len (Inside b) 0 (length block.instrs + 1),
        length-map-range_with_len (Slot b) 0 (length (slots_of block.term)),
      )

  pub arcs_below : (t : Kept) (e index : ℕ) (bs : List ℕ) (sets : List BlockSets) → AllZip (IsBlockSets f t e) bs sets → length (arcs_along f c reached blocks index bs sets) ≤ 2 * length (flat_map (of_block block_edges f) bs)
  arcs_below t e index [] sets are = omega arith
  arcs_below t e index (b ∷ bs) [] are = absurd are
  arcs_below t e index (b ∷ bs) (s ∷ sets) are =
      omega (
        arith,
        block_few index b s are.0.block are.0.block_there,
        arcs_below t e (suc index) bs sets are.1,
        length-append (arcs_at f c reached blocks index b s) (arcs_along f c reached blocks (suc index) bs sets),
        length-append (of_block block_edges f b) (flat_map (of_block block_edges f) bs),
      )
