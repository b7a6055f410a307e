-- How large the capacities of a block network are.
use Rattle.std.proofs.Common.{◌≡◌, ◌<◌, ◌≤◌, ◌+◌, ◌*◌, ◌^◌, ◌==◌, ◌&&◌, ℕ, zero, suc, Bool, true, false, cond, List, [], ◌∷◌, ◌++◌, length, map, get_or, take, zip, sum, Option, Some, None, refl, sym, ap, subst, arith}
use Rattle.std.specs.Prelude.{slice_get, if◌then◌else◌}
use Rattle.std.specs.List.{sum_by, AllByRecursion}
use Rattle.std.specs.Option.{option_map_or}
use Rattle.std.proofs.lemmas.Bool.Decides.{nat_tests}
use Rattle.std.proofs.lemmas.List.{length-append, length-map}
use Rattle.std.proofs.lemmas.List.Sums.{sum_by-cons}
use Rattle.ir_types.specs.declared.syntax.Function.{Function}
use Rattle.flow_graph.specs.Slots.{slots, slots_from}
use Rattle.flow_net.specs.declared.Arc.{Arc}
use Rattle.point_graph.specs.declared.graph.EdgeKind.{EdgeKind}
use Rattle.point_graph.specs.declared.graph.EdgeKind.TheVariants as kinds
use Rattle.point_graph.specs.declared.graph.Edge as numbered
use Rattle.point_graph.specs.declared.graph.Points.{Points}
use Rattle.expressions.specs.declared.syntax.Event.{Event}
use Rattle.expressions.specs.declared.syntax.Event.TheVariants.{Occurs, Kills, Bars, Passes}
use Rattle.expressions.specs.Kept.{Kept}
use Rattle.profile.specs.declared.counts.FnCounts.{FnCounts}
use Rattle.profile.specs.Counts.{counted, entering, total}
use Rattle.placement.specs.declared.costs.TheConstants.{BASE}
use Rattle.placement.specs.Placements.{arcs_of}
use Rattle.placement.specs.Costs.{weight_of, edge_count}
use Rattle.best_placement.specs.Blocks.{Block, joined, edges_of_block}
use Rattle.best_placement.specs.BlockNetwork.{first_event, last_event, first_arcs, last_arcs, slot_arcs, arcs_of_blocks, network_arcs, head_node, terminator_node}
use Rattle.best_placement.specs.Laws.{ExpressionGraph}
use Rattle.best_placement.proofs.Lists.{each_append}
use Rattle.best_placement.proofs.Valid.{network_is_valid}
use Rattle.function_graphs.specs.Graphs.{graph_of, IsIn}
use Rattle.function_graphs.specs.Networks.{NetworksAreValid}
use Rattle.function_graphs.proofs.Suiting.{is_graph, each_block}

-- ---- counts

picked : (b : Bool) (n rest all : ℕ) → rest ≤ all → cond b n 0 + rest ≤ n + all
picked true n rest all h = omega (arith, h)
picked false n rest all h = omega (arith, h)

-- some of the counts are no more than all
picked_sum : (test : (ℕ × ℕ) × ℕ → Bool) (keys : List (ℕ × ℕ)) (counts : List ℕ) → sum_by (λ s. if test s then s.1 else 0) (zip keys counts) ≤ sum counts
picked_sum test [] counts = omega arith
picked_sum test (k ∷ keys) [] = omega arith
picked_sum test (k ∷ keys) (n ∷ counts) =
    let r = picked (test (k, n)) n (sum_by (λ s. if test s then s.1 else 0) (zip keys counts)) (sum counts) (picked_sum test keys counts) in
    omega (arith, r, sum_by-cons (λ (s : (ℕ × ℕ) × ℕ). if test s then s.1 else 0) (k, n) (zip keys counts), sum_by-cons (λ x. x) n counts)

one_of_sum : (counts : List ℕ) (i : ℕ) → get_or counts i 0 ≤ sum counts
one_of_sum [] i = omega arith
one_of_sum (n ∷ counts) zero = omega (arith, sum_by-cons (λ x. x) n counts)
one_of_sum (n ∷ counts) (suc i) = omega (arith, one_of_sum counts i, sum_by-cons (λ x. x) n counts)

module _ (f : Function) (c : FnCounts) (reached : ℕ → Bool) where
  entering_below : (b : ℕ) → entering reached f c b ≤ total c
  entering_below b = picked (b == 0) c.entry (sum_by (λ s. if reached s.0.0 && (s.0.1 == b) then s.1 else 0) (counted f c)) (sum c.slots) (picked_sum (λ s. reached s.0.0 && (s.0.1 == b)) (slots f) c.slots)

  edge_below : (kind : EdgeKind) → edge_count f c reached kind ≤ total c
  edge_below kinds.Entry = omega arith
  edge_below (kinds.Inside b) = entering_below b
  edge_below (kinds.Slot b slot) = let r = one_of_sum c.slots (length (slots_from 0 (take b f.blocks)) + slot) in omega (arith, r)

weight_small : (n : ℕ) → n < 2 ^ 64 → weight_of n ≤ 2 ^ 84
weight_small zero h = omega arith
weight_small (suc n) h =
    let more : (suc n == 0) ≡ false = grind (arith, nat_tests) in
    let weighs : weight_of (suc n) ≡ suc n * BASE = ap (λ b. cond b 1 (suc n * BASE)) more in
    let base : 1048576 ≡ BASE = refl in
    let some : suc n * BASE ≤ 2 ^ 84 = subst (λ b. suc n * b ≤ 2 ^ 84) base (omega (arith, h)) in
    subst (λ w. w ≤ 2 ^ 84) (sym weighs) some

-- ---- arcs

abbrev IsSmall : Arc → Type 0
IsSmall a = a.cap ≤ 2 ^ 84

sum_small : (arcs : List Arc) → AllByRecursion IsSmall arcs → sum_by (λ a. a.cap) arcs ≤ length arcs * 2 ^ 84
sum_small [] all = omega arith
sum_small (a ∷ arcs) all = omega (arith, sum_by-cons (λ (x : Arc). x.cap) a arcs, all.0, sum_small arcs all.1)

first_small : (k : Event) (index w : ℕ) → w ≤ 2 ^ 84 → AllByRecursion IsSmall (first_arcs k index w) × (length (first_arcs k index w) ≤ 1)
first_small Occurs index w h = ((h, tt), omega arith)
first_small Kills index w h = (tt, omega arith)
first_small Bars index w h = ((h, tt), omega arith)
first_small Passes index w h = ((h, tt), omega arith)

last_small : (k : Event) (index w : ℕ) → w ≤ 2 ^ 84 → AllByRecursion IsSmall (last_arcs k index w) × (length (last_arcs k index w) ≤ 1)
last_small Occurs index w h = (tt, omega arith)
last_small Kills index w h = ((h, tt), omega arith)
last_small Bars index w h = (tt, omega arith)
last_small Passes index w h = (tt, omega arith)

module _ (event : ℕ → Event) (edge_weight : ℕ → ℕ) (light : (n : ℕ) → edge_weight n ≤ 2 ^ 84) where
  slots_small : (index : ℕ) (slots : List (ℕ × ℕ)) → AllByRecursion IsSmall (slot_arcs edge_weight index slots)
  slots_small index [] = tt
  slots_small index (s ∷ slots) = (light s.0, slots_small index slots)

  blocks_small : (blocks : List Block) → AllByRecursion (λ b. b.weight ≤ 2 ^ 84) blocks → AllByRecursion IsSmall (arcs_of_blocks event edge_weight blocks)
  blocks_small [] all = tt
  blocks_small (b ∷ blocks) all =
      let first = first_arcs (first_event event b.steps) b.index b.weight in
      let last = last_arcs (last_event event Passes b.steps) b.index b.weight in
      let slots = slot_arcs edge_weight b.index b.slots in
      each_append IsSmall (first ++ last ++ slots) (arcs_of_blocks event edge_weight blocks)
      (each_append IsSmall (first ++ last) slots (each_append IsSmall first last (first_small (first_event event b.steps) b.index b.weight all.0).0 (last_small (last_event event Passes b.steps) b.index b.weight all.0).0)
      (slots_small b.index b.slots))
      (blocks_small blocks all.1)

  few_arcs : (blocks : List Block) → AllByRecursion (λ b. b.weight ≤ 2 ^ 84) blocks → length (arcs_of_blocks event edge_weight blocks) ≤ 2 * length (joined edges_of_block blocks)
  few_arcs [] all = omega arith
  few_arcs (b ∷ blocks) all =
      let first = first_arcs (first_event event b.steps) b.index b.weight in
      let last = last_arcs (last_event event Passes b.steps) b.index b.weight in
      let slots = slot_arcs edge_weight b.index b.slots in
      let ends = map (λ (s : ℕ × ℕ). s.0) b.slots in
      let insides = map (λ (s : ℕ × ℕ). s.0) b.steps in
      let one = (first_small (first_event event b.steps) b.index b.weight all.0).1 in
      let two = (last_small (last_event event Passes b.steps) b.index b.weight all.0).1 in
      let own : length (arcs_of_blocks event edge_weight (b ∷ blocks)) ≡ length (first ++ last ++ slots) + length (arcs_of_blocks event edge_weight blocks) = length-append (first ++ last ++ slots) (arcs_of_blocks event edge_weight blocks) in
      let edges : length (joined edges_of_block (b ∷ blocks)) ≡ length (edges_of_block b) + length (joined edges_of_block blocks) = length-append (edges_of_block b) (joined edges_of_block blocks) in
      let inner : length (edges_of_block b) ≡ length insides + suc (length ends) = length-append insides (b.exit ∷ ends) in
      omega (
        arith,
        one,
        two,
        own,
        edges,
        inner,
        few_arcs blocks all.1,
        length-append (first ++ last) slots,
        length-append first last,
        length-map {B = Arc} b.slots (λ (s : ℕ × ℕ). record { from = terminator_node b.index; to = head_node s.1; cap = edge_weight s.0 }),
        length-map b.slots (λ (s : ℕ × ℕ). s.0),
      )

module _ (f : Function) (p : Points) (t : Kept) (e : ℕ) (c : FnCounts) (reached : ℕ → Bool) (event : ℕ → Event) (is : IsIn f p t e reached event) (fits : total c < 2 ^ 64) where
  abbrev graph : ExpressionGraph
  graph = graph_of f p c reached event

  light_or_none : (o : Option numbered.Edge) → option_map_or (λ x. weight_of (edge_count f c reached x.kind)) o 0 ≤ 2 ^ 84
  light_or_none None = omega arith
  light_or_none (Some x) = weight_small (edge_count f c reached x.kind) (let l = edge_below f c reached x.kind in omega (arith, l, fits))

  light : (n : ℕ) → graph.edge_weight n ≤ 2 ^ 84
  light n = light_or_none (slice_get p.edges n)

  blocks_light : AllByRecursion (λ b. b.weight ≤ 2 ^ 84) graph.blocks
  blocks_light = each_block f p t e c reached event is (λ b. b.weight ≤ 2 ^ 84) (λ b index point edge at. weight_small (entering reached f c b) (let l = entering_below f c reached b in omega (arith, l, fits)))

  pub capacities_fit : sum_by (λ a. a.cap) (network_arcs event graph.edge_weight graph.blocks) < 2 ^ 120
  capacities_fit =
      let arcs = network_arcs event graph.edge_weight graph.blocks in
      let small = sum_small arcs (light 0, blocks_small event graph.edge_weight light graph.blocks blocks_light) in
      let few = few_arcs event graph.edge_weight light graph.blocks blocks_light in
      let count : length arcs ≡ suc (length (arcs_of_blocks event graph.edge_weight graph.blocks)) = refl in
      let edges = (is_graph f p t e c reached event is).edge_count in
      let numbers : length (arcs_of p.edges) ≡ length p.edges = length-map {B = ℕ × ℕ} p.edges (λ (x : numbered.Edge). (x.from, x.to)) in
      let limit = is.points.few in
      omega (arith, small, few, count, edges, numbers, limit)

pub networks_are_valid : NetworksAreValid
networks_are_valid f p t e c reached event net is fits n =
    network_is_valid (graph_of f p c reached event) net (is_graph f p t e c reached event is) n
    (subst (λ arcs. sum_by (λ a. a.cap) arcs < 2 ^ 120) (sym n.arcs) (capacities_fit f p t e c reached event is fits))
