-- The network of the blocks so far.
use Rattle.std.proofs.Common.{◌≡◌, ◌<◌, ◌≤◌, ◌+◌, ◌*◌, ◌^◌, ℕ, suc, Bool, List, [], ◌∷◌, ◌++◌, Some, length, map, drop, slice_get, sym, ap, ◌∙◌, arith, append_assoc}
use Rattle.std.specs.Prelude.{Vec}
use Rattle.std.specs.declared.alloc.Global.{Global}
use Rattle.std.proofs.Math.Nat.{mul-le-mul_left}
use Rattle.std.proofs.lemmas.List.{append-nil, drop_all, length-map}
use Rattle.std.proofs.lemmas.List.Sums.{sum_by-cons}
use Rattle.ir_types.specs.declared.syntax.Block.{Block}
use Rattle.ir_types.specs.declared.syntax.Function.{Function}
use Rattle.flow_graph.specs.Slots.{slots_of}
use Rattle.flow_graph.specs.Paths.{AreReached}
use Rattle.point_graph.specs.Numbers.{KeepsRules, ArePoints, IsNumbered, all_edges}
use Rattle.point_graph.specs.declared.graph.Points.{Points}
use Rattle.profile.specs.declared.counts.FnCounts.{FnCounts}
use Rattle.profile.specs.Counts.{HasSlots, entering, total}
use Rattle.flow_net.specs.declared.Arc.{Arc}
use Rattle.flow_net.specs.Network.{IsValid}
use Rattle.local_sets.specs.declared.blocks.BlockSets.{BlockSets}
use Rattle.local_sets.specs.Blocks.{IsBlockSets}
use Rattle.placement.specs.Costs.{weight_of}
use Rattle.best_placement.specs.BlockNetwork.{head_node}
use Rattle.best_placement.specs.Laws.{ExpressionGraph}
use Rattle.function_graphs.specs.Graphs.{graph_of, place_in, EventsExist, IsIn}
use Rattle.function_graphs.specs.Networks.{NetworksAreValid}
use Rattle.function_graphs.specs.Sets.{SetsAgree}
use Rattle.function_graphs.proofs.Arcs.{lies}
use Rattle.function_graphs.proofs.Lying.{shape}
use Rattle.function_graphs.proofs.Parts.{zip_length}
use Rattle.block_counts.specs.Counts.{slot_counts, targets_of}
use Rattle.block_counts.proofs.Slots.{targets_there}
use Rattle.block_places.specs.Places.{ArePlaces}
use Rattle.block_places.proofs.Standing.{targets_are}
use Rattle.reduction.specs.declared.building.BlockNet.{BlockNet}
use Rattle.reduction.specs.BlockArcs.{block_arcs, places_by}
use Rattle.reduction.proofs.BySets.{arcs_along, arcs_at, paid_along}
use Rattle.reduction.specs.Networks.{AreSetsOf, IsFullNetwork}
use Rattle.reduction.proofs.Along.{blocks_same, count_blocks, entry_weighs, paid_same}
use Rattle.reduction.proofs.Bounds.{arcs_below, forced_below, forced_sum}
use Rattle.reduction.proofs.Pushing.{drop_there}

abbrev pub entry_arc : ℕ → Arc
entry_arc cap = record { from = 0; to = head_node 0; cap = cap }

-- the arcs and what is paid of the first i blocks, with those of the blocks behind them, are all
pub record Growing (f : Function) (p : Points) (c : FnCounts) (sets : List BlockSets) (arcs : List Arc) (paid i : ℕ) : Type 0 where
  pub arcs_are : (reached : ℕ → Bool) → AreReached f reached → arcs ++ arcs_along f c reached p.blocks i (drop i p.blocks) (drop i sets) ≡ entry_arc (weight_of c.entry) ∷ arcs_along f c reached p.blocks 0 p.blocks sets
  pub paid_is : (reached : ℕ → Bool) → AreReached f reached → paid + paid_along f c reached (drop i p.blocks) (drop i sets) ≡ paid_along f c reached p.blocks sets
  pub small : paid + forced_sum (drop i sets) * 2 ^ 84 ≤ forced_sum sets * 2 ^ 84

pub growing_none : (f : Function) (p : Points) (c : FnCounts) (sets : List BlockSets) (arcs : List Arc) (cap : ℕ) → cap ≡ weight_of c.entry → arcs ≡ entry_arc cap ∷ [] → Growing f p c sets arcs 0 0
growing_none f p c sets arcs cap light e = record {
  arcs_are = λ reached told. ap (λ l. l ++ arcs_along f c reached p.blocks 0 p.blocks sets) (e ∙ ap (λ w. entry_arc w ∷ []) light);
  paid_is = λ reached told. omega arith;
  small = omega arith;
}

module _ (f : Function) (p : Points) (c : FnCounts) (sets : List BlockSets) (arcs : List Arc) (paid i : ℕ) (growing : Growing f p c sets arcs paid i) (s : BlockSets) (sets_there : slice_get sets i ≡ Some s) (w : ℕ) (light : w ≤ 2 ^ 84) where
  -- the forced occurrences of one more block fit
  pub paid_fits : paid + w * s.forced + forced_sum (drop (i + 1) sets) * 2 ^ 84 ≤ forced_sum sets * 2 ^ 84
  paid_fits =
      let here : forced_sum (drop i sets) ≡ s.forced + forced_sum (drop (i + 1) sets) = ap forced_sum (drop_there sets i s sets_there) ∙ sum_by-cons (λ (x : BlockSets). x.forced) s (drop (i + 1) sets) in
      let weighs : w * s.forced ≤ s.forced * 2 ^ 84 = let m = mul-le-mul_left s.forced light in omega (arith, m) in
      let before = growing.small in
      omega (arith, here, weighs, before)

  module _ (keeps : KeepsRules f) (defined : 0 < length f.blocks) (are : ArePoints f p) (b : ℕ) (block : Block) (there : slice_get p.blocks i ≡ Some b) (is : slice_get f.blocks b ≡ Some block)
      (places : List ℕ) (placed : ArePlaces p.blocks (length f.blocks) places) (own : List ℕ) (counted : own ≡ slot_counts f c b)
      (n : ℕ) (entered : (reached : ℕ → Bool) → AreReached f reached → n ≡ entering reached f c b) (weighs : w ≡ weight_of n) where
    block_same : (reached : ℕ → Bool) → AreReached f reached → block_arcs s i w (places_by places (slots_of block.term)) own ≡ arcs_at f c reached p.blocks i b s
    block_same reached told =
        ap (λ v. block_arcs s i v (places_by places (slots_of block.term)) own) (weighs ∙ ap weight_of (entered reached told))
        ∙ ap (λ l. block_arcs s i (weight_of (entering reached f c b)) l own) (targets_are f p keeps defined are i b block there is places placed ∙ ap (map (place_in p.blocks)) (sym (targets_there f b block is)))
        ∙ ap (block_arcs s i (weight_of (entering reached f c b)) (map (place_in p.blocks) (targets_of f b))) counted

    -- one more block is added
    pub growing_more : (new : List Arc) → new ≡ arcs ++ block_arcs s i w (places_by places (slots_of block.term)) own → Growing f p c sets new (paid + w * s.forced) (i + 1)
    growing_more new grown =
        let one : i + 1 ≡ suc i = omega arith in
        record {
          arcs_are = λ reached told.
              let rest : List Arc = arcs_along f c reached p.blocks (suc i) (drop (i + 1) p.blocks) (drop (i + 1) sets) in
              let left : arcs_along f c reached p.blocks i (drop i p.blocks) (drop i sets) ≡ arcs_at f c reached p.blocks i b s ++ rest =
              ap (λ l. arcs_along f c reached p.blocks i l (drop i sets)) (drop_there p.blocks i b there) ∙ ap (arcs_along f c reached p.blocks i (b ∷ drop (i + 1) p.blocks)) (drop_there sets i s sets_there) in
              ap (λ k. new ++ arcs_along f c reached p.blocks k (drop (i + 1) p.blocks) (drop (i + 1) sets)) one
              ∙ ap (λ l. l ++ rest) (grown ∙ ap (λ l. arcs ++ l) (block_same reached told))
              ∙ append_assoc arcs (arcs_at f c reached p.blocks i b s) rest
              ∙ ap (λ l. arcs ++ l) (sym left)
              ∙ growing.arcs_are reached told;
          paid_is = λ reached told.
              let left : paid_along f c reached (drop i p.blocks) (drop i sets) ≡ weight_of (entering reached f c b) * s.forced + paid_along f c reached (drop (i + 1) p.blocks) (drop (i + 1) sets) =
              ap (λ l. paid_along f c reached l (drop i sets)) (drop_there p.blocks i b there) ∙ ap (paid_along f c reached (b ∷ drop (i + 1) p.blocks)) (drop_there sets i s sets_there) in
              let same : w * s.forced ≡ weight_of (entering reached f c b) * s.forced = ap (λ v. v * s.forced) (weighs ∙ ap weight_of (entered reached told)) in
              let before = growing.paid_is reached told in
              omega (arith, left, same, before);
          small = paid_fits;
        }

-- ---- all blocks

pub rules_kept : (f : Function) (p : Points) (sets : List BlockSets) → AreSetsOf f p sets → KeepsRules f
rules_kept f p sets of = record { module_of = of.table.module_of; rules = of.is_table.rules }

module _ (f : Function) (p : Points) (sets : List BlockSets) (are : ArePoints f p) (of : AreSetsOf f p sets) where
  pub as_many : length sets ≡ length p.blocks
  as_many = sym (zip_length (IsBlockSets f of.table of.number) p.blocks sets of.are)

  -- no more occurrences are forced than there are points
  pub forced_fit : forced_sum sets < 2 ^ 20
  forced_fit =
      let points = ap length are.points in
      let few = are.few in
      omega (arith, forced_below f of.table of.number p.blocks sets of.are, points, few)

module _ (f : Function) (p : Points) (c : FnCounts) (sets : List BlockSets) (defined : 0 < length f.blocks) (are : ArePoints f p) (has : HasSlots f c) (of : AreSetsOf f p sets) where
  module _ (arcs : Vec Arc Global) (paid nodes : ℕ) (i : ℕ) (end : length p.blocks ≤ i) (growing : Growing f p c sets arcs.items paid i) (count : nodes ≡ 2 + 2 * length p.blocks) where
    abbrev full : BlockNet
    full = record { net = record { nodes = nodes; arcs = arcs }; constant = paid }

    all_arcs : (reached : ℕ → Bool) → AreReached f reached → arcs.items ≡ entry_arc (weight_of c.entry) ∷ arcs_along f c reached p.blocks 0 p.blocks sets
    all_arcs reached told =
        sym (append-nil arcs.items) ∙ ap (λ l. arcs.items ++ arcs_along f c reached p.blocks i l (drop i sets)) (sym (drop_all i p.blocks end)) ∙ growing.arcs_are reached told

    all_paid : (reached : ℕ → Bool) → AreReached f reached → paid ≡ paid_along f c reached p.blocks sets
    all_paid reached told =
        let none : paid_along f c reached (drop i p.blocks) (drop i sets) ≡ 0 = ap (λ l. paid_along f c reached l (drop i sets)) (drop_all i p.blocks end) in
        let all = growing.paid_is reached told in
        omega (arith, none, all)

    pub whole_network : SetsAgree → IsFullNetwork f p c sets full
    whole_network agree t e reached event is sets_are =
        let told = is.blocks in
        let graph : ExpressionGraph = graph_of f p c reached event in
        let laid = lies f p c reached (rules_kept f p sets of) defined are in
        let sets_too = agree f p t e c reached event sets is sets_are in
        record {
          network = record {
            nodes = omega (arith, count, count_blocks 0 1 1 (map (shape f p c reached) p.blocks), length-map p.blocks (shape f p c reached));
            arcs = all_arcs reached told ∙ ap (λ w. entry_arc w ∷ arcs_along f c reached p.blocks 0 p.blocks sets) (sym (entry_weighs f p t e c reached event is has))
                ∙ ap (λ l. entry_arc (graph.edge_weight 0) ∷ l) (sym (blocks_same f p t e c reached event is has 0 1 1 p.blocks sets laid sets_too));
          };
          paid = all_paid reached told ∙ sym (paid_same f p t e c reached event is has 0 1 1 p.blocks sets laid sets_too);
        }

    pub valid_network : SetsAgree → EventsExist → NetworksAreValid → total c < 2 ^ 64 → IsValid full.net
    valid_network agree exist valid fits =
        let events = exist f p of.table of.number of.is_table of.known in
        let is : IsIn f p of.table of.number are.blocks.test events.0 = record { defined = defined; points = are; table = of.is_table; blocks = are.blocks.told; events = events.1 } in
        valid f p of.table of.number c are.blocks.test events.0 full.net is fits (whole_network agree of.table of.number are.blocks.test events.0 is of.are).network

    pub few_arcs : length arcs.items < 2 ^ 32
    few_arcs =
        let all = ap length (all_arcs are.blocks.test are.blocks.told) in
        let edges = zip_length (IsNumbered f p.points) (all_edges f p.blocks) p.edges are.edges in
        let few = are.few in
        omega (arith, all, edges, few, arcs_below f c are.blocks.test p.blocks of.table of.number 0 p.blocks sets of.are)
