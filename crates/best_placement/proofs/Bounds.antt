-- What a correct placement costs at least, block by block, and what follows where it costs no more.
use Rattle.std.proofs.Common.{◌≡◌, ℕ, ◌+◌, ◌*◌, ◌≤◌, ◌<◌, Bool, true, false, cond, not, ◌&&◌, List, [], ◌∷◌, length, map, refl, sym, ap, ◌∙◌, arith, inl, inr}
use Rattle.std.specs.List.{sum_by, AllByRecursion}
use Rattle.std.proofs.lemmas.List.Elements.{recursion_from_All, All-contains, All-from_recursion}
use Rattle.std.proofs.lemmas.Bool.{cases_Bool, false_from_ne_true}
use Rattle.std.proofs.Math.Nat.{mul-le-mul_left, le_of_mul-le-mul_left}
use Rattle.flow_net.proofs.Sums.{sum_by-below, sum_by-tight}
use Rattle.expressions.specs.declared.syntax.Event.{Event}
use Rattle.expressions.specs.declared.syntax.Event.TheVariants.{Occurs, Kills, Passes}
use Rattle.flow_paths.specs.Paths.{source, target}
use Rattle.best_placement.specs.Blocks.{Block, IsFlowGraph, IsBlock, IsSlot, IsStretch, last_point, joined, points_of_block, edges_of_block}
use Rattle.best_placement.specs.BlockNetwork.{head_node, terminator_node}
use Rattle.best_placement.proofs.Lists.{each_both, each_weaker, each_append, each_split, each_map, each_unmap, each_joined, each_unjoined, counted_below, counted_each}
use Rattle.best_placement.proofs.Chains.{tick, spent, least, owed_after, Step, StepsAlong, TightAlong, least_is_spent, tight_along}
use Rattle.best_placement.proofs.Rules.{Rules}
use Rattle.best_placement.proofs.BlockCosts.{block_least, block_cost, Weighs}

crossing_below : (a b i : Bool) (w : ℕ) → (a ≡ true → b ≡ false → i ≡ true) → cond (a && not b) w 0 ≤ cond i w 0
crossing_below true false true w h = omega arith
crossing_below true false false w h = let e = h refl refl in cc
crossing_below true true i w h = omega arith
crossing_below false b i w h = omega arith

crossing_tight : (a b i : Bool) (w : ℕ) → 0 < w → cond (a && not b) w 0 ≡ cond i w 0 → i ≡ true → b ≡ false
crossing_tight true false i w h e t = refl
crossing_tight true true true w h e t = absurd (omega arith)
crossing_tight true true false w h e t = cc
crossing_tight false b true w h e t = absurd (omega arith)
crossing_tight false b false w h e t = cc

-- the nodes of a block are in the set where its ends are live
pub record Agrees (live nodes : ℕ → Bool) (b : Block) : Type 0 where
  pub head : nodes (head_node b.index) ≡ live b.head
  pub terminator : nodes (terminator_node b.index) ≡ live b.terminator

never : (b : Bool) → tick (not b && b) ≡ 0
never true = refl
never false = refl

below_if : (a i : Bool) (w : ℕ) → (a ≡ true → i ≡ true) → cond a w 0 ≤ cond i w 0
below_if false i w h = omega arith
below_if true true w h = omega arith
below_if true false w h = let e = h refl in cc

module _ (arcs : List (ℕ × ℕ)) (n : ℕ) (blocks : List Block) (event : ℕ → Event) (edge_weight point_weight : ℕ → ℕ) (g : IsFlowGraph arcs n blocks event edge_weight point_weight) where
  pub record InBlock (b : Block) : Type 0 where
    pub block : IsBlock arcs blocks event edge_weight point_weight b
    pub step_edges : AllByRecursion (λ s. s.0 < length arcs) b.steps
    pub step_points : AllByRecursion (λ s. s.1 < n) b.steps
    pub exit_edge : b.exit < length arcs
    pub head_point : b.head < n
    pub terminator_point : b.terminator < n
    pub slot_edges : AllByRecursion (λ s. s.0 < length arcs) b.slots
    pub positive : 0 < b.weight
    pub last : (event b.terminator ≡ Occurs → ⊥) × (event b.terminator ≡ Kills → ⊥)

  edges_below : AllByRecursion (λ b. AllByRecursion (λ e. e < length arcs) (edges_of_block b)) blocks
  edges_below = each_unjoined (λ e. e < length arcs) edges_of_block blocks (counted_below 0 (length arcs) (0 ∷ joined edges_of_block blocks) g.edge_order (let c = g.edge_count in omega arith)).1

  points_below : AllByRecursion (λ b. AllByRecursion (λ v. v < n) (points_of_block b)) blocks
  points_below = each_unjoined (λ v. v < n) points_of_block blocks (counted_below 0 n (0 ∷ joined points_of_block blocks) g.point_order (let c = g.point_count in omega arith)).1

  pub entry_edge : 0 < length arcs
  entry_edge = let c = g.edge_count in omega arith

  pub some_point : 0 < n
  some_point = let c = g.point_count in omega arith

  in_block : (b : Block) → (AllByRecursion (λ e. e < length arcs) (edges_of_block b) × AllByRecursion (λ v. v < n) (points_of_block b)) × ((IsBlock arcs blocks event edge_weight point_weight b × (0 < b.weight)) × ((event b.terminator ≡ Occurs → ⊥) × (event b.terminator ≡ Kills → ⊥))) → InBlock b
  in_block b h =
      let es = each_split (λ e. e < length arcs) (map (λ (s : ℕ × ℕ). s.0) b.steps) (b.exit ∷ map (λ (s : ℕ × ℕ). s.0) b.slots) h.0.0 in
      let vs = each_split (λ v. v < n) (map (λ (s : ℕ × ℕ). s.1) b.steps) (b.terminator ∷ []) h.0.1.1 in
      record {
        block = h.1.0.0;
        step_edges = each_unmap (λ e. e < length arcs) (λ (s : ℕ × ℕ). s.0) b.steps es.0;
        step_points = each_unmap (λ v. v < n) (λ (s : ℕ × ℕ). s.1) b.steps vs.0;
        exit_edge = es.1.0;
        head_point = h.0.1.0;
        terminator_point = vs.1.0;
        slot_edges = each_unmap (λ e. e < length arcs) (λ (s : ℕ × ℕ). s.0) b.slots es.1.1;
        positive = h.1.0.1;
        last = h.1.1;
      }

  pub in_blocks : AllByRecursion InBlock blocks
  in_blocks =
      let E : Block → Type 0 = λ b. AllByRecursion (λ e. e < length arcs) (edges_of_block b) in
      let V : Block → Type 0 = λ b. AllByRecursion (λ v. v < n) (points_of_block b) in
      let B : Block → Type 0 = λ b. IsBlock arcs blocks event edge_weight point_weight b in
      let W : Block → Type 0 = λ b. 0 < b.weight in
      let T : Block → Type 0 = λ b. (event b.terminator ≡ Occurs → ⊥) × (event b.terminator ≡ Kills → ⊥) in
      each_weaker (λ b. (E b × V b) × ((B b × W b) × T b)) InBlock (λ b h. in_block b h) blocks
      (each_both (λ b. E b × V b) (λ b. (B b × W b) × T b) blocks (each_both E V blocks edges_below points_below)
      (each_both (λ b. B b × W b) T blocks (each_both B W blocks (recursion_from_All B blocks g.each) (recursion_from_All W blocks g.block_weights)) (recursion_from_All T blocks g.terminators)))

  -- a placement's tests, with a set of points that follows the rules
  module _ (inserted kept live : ℕ → Bool) (keeps : (v : ℕ) → kept v ≡ true → event v ≡ Occurs) where
    pub weighs : AllByRecursion (Weighs inserted kept edge_weight point_weight) blocks
    weighs = each_weaker InBlock (Weighs inserted kept edge_weight point_weight) (λ b i. record {
      steps = recursion_from_All (λ s. (edge_weight s.0 ≡ b.weight) × (point_weight s.1 ≡ b.weight)) b.steps i.block.step_weights;
      exit = i.block.exit_weight;
      head = false_from_ne_true (kept b.head) (λ k. let o : event b.head ≡ Occurs = keeps b.head k in let q : event b.head ≡ Passes = i.block.head_passes in cc);
      terminator = false_from_ne_true (kept b.terminator) (λ k. i.last.0 (keeps b.terminator k));
    }) blocks in_blocks

    pub start_unkept : kept 0 ≡ false
    start_unkept = false_from_ne_true (kept 0) (λ k. let o : event 0 ≡ Occurs = keeps 0 k in let q : event 0 ≡ Passes = g.start_passes in cc)

    module _ (rules : Rules arcs n event inserted kept live) (unkept : (v : ℕ) → live v ≡ true → kept v ≡ false) where
      moves_at : (e u v : ℕ) → e < length arcs → source arcs e ≡ u → target arcs e ≡ v → live v ≡ true → inserted e ≡ false → kept u ≡ false → live u ≡ true
      moves_at e u v inside from to l i k = sym (ap live from) ∙ rules.moves e inside (ap live to ∙ l) i (ap kept from ∙ k)

      step_follows : (s : ℕ × ℕ) (u : ℕ) → s.0 < length arcs → s.1 < n → source arcs s.0 ≡ u → target arcs s.0 ≡ s.1 → Step (event s.1) (inserted s.0) (kept u) (live u) (kept s.1) (live s.1)
      step_follows s u inside point from to = record {
        moves = λ l i k. moves_at s.0 u s.1 inside from to l i k;
        occurs = λ o. elim (cases_Bool (kept s.1)) [
          | inl k ↦ false_from_ne_true (live s.1) (λ l. let f = unkept s.1 l in cc) ∙ sym (ap not k)
          | inr k ↦ rules.deleted s.1 point o k ∙ sym (ap not k)
        ];
        kills = λ k. false_from_ne_true (live s.1) (λ l. rules.kills s.1 point k l);
        keeps = keeps s.1;
      }

      steps_follow : (u : ℕ) (steps : List (ℕ × ℕ)) → IsStretch arcs u steps → AllByRecursion (λ s. s.0 < length arcs) steps → AllByRecursion (λ s. s.1 < n) steps → StepsAlong event inserted kept live u steps
      steps_follow u [] st es vs = tt
      steps_follow u (s ∷ steps) st es vs = (step_follows s u es.0 vs.0 st.0 st.1, steps_follow s.1 steps st.2 es.1 vs.1)

      module _ (nodes : ℕ → Bool) (agrees : AllByRecursion (Agrees live nodes) blocks) where
        -- the node of a slot's target is in the set where that is live
        target_node : (t e j : ℕ) → IsSlot arcs blocks t e j → nodes (head_node j) ≡ live (target arcs e)
        target_node t e j s = ap (λ i. nodes (head_node i)) (sym s.has_index) ∙ (All-contains (Agrees live nodes) blocks s.block (All-from_recursion (Agrees live nodes) blocks agrees) s.is_block).head ∙ ap live (sym s.to)

        -- an edge from a point that isn't kept to a head, of which only the end is live, is inserted
        slot_inserted : (t e j : ℕ) → e < length arcs → kept t ≡ false → IsSlot arcs blocks t e j → nodes (head_node j) ≡ true → live t ≡ false → inserted e ≡ true
        slot_inserted t e j inside k s h l = elim (cases_Bool (inserted e)) [
          | inl i ↦ i
          | inr i ↦ (let m : live t ≡ true = moves_at e t (target arcs e) inside s.from refl (sym (target_node t e j s) ∙ h) i k in cc)
        ]

        slot_below : (b : Block) (s : ℕ × ℕ) → InBlock b → Weighs inserted kept edge_weight point_weight b → Agrees live nodes b → s.0 < length arcs → IsSlot arcs blocks b.terminator s.0 s.1 →
            cond (nodes (head_node s.1) && not (nodes (terminator_node b.index))) (edge_weight s.0) 0 ≤ cond (inserted s.0) (edge_weight s.0) 0
        slot_below b s i w a inside sl = crossing_below (nodes (head_node s.1)) (nodes (terminator_node b.index)) (inserted s.0) (edge_weight s.0)
            (λ h t. slot_inserted b.terminator s.0 s.1 inside w.terminator sl h (sym a.terminator ∙ t))

        slots_below : (b : Block) → InBlock b → Weighs inserted kept edge_weight point_weight b → Agrees live nodes b →
            AllByRecursion (λ s. cond (nodes (head_node s.1) && not (nodes (terminator_node b.index))) (edge_weight s.0) 0 ≤ cond (inserted s.0) (edge_weight s.0) 0) b.slots
        slots_below b i w a = each_weaker (λ s. (s.0 < length arcs) × IsSlot arcs blocks b.terminator s.0 s.1)
            (λ s. cond (nodes (head_node s.1) && not (nodes (terminator_node b.index))) (edge_weight s.0) 0 ≤ cond (inserted s.0) (edge_weight s.0) 0)
            (λ s h. slot_below b s i w a h.0 h.1) b.slots
            (each_both (λ s. s.0 < length arcs) (λ s. IsSlot arcs blocks b.terminator s.0 s.1) b.slots i.slot_edges (recursion_from_All (λ s. IsSlot arcs blocks b.terminator s.0 s.1) b.slots i.block.slots))

        along : (b : Block) → InBlock b → StepsAlong event inserted kept live b.head b.steps
        along b i = steps_follow b.head b.steps i.block.leads i.step_edges i.step_points

        leaves : (b : Block) → InBlock b → Agrees live nodes b → nodes (terminator_node b.index) ≡ true → inserted b.exit ≡ false → kept (last_point b.head b.steps) ≡ false → live (last_point b.head b.steps) ≡ true
        leaves b i a t e k = moves_at b.exit (last_point b.head b.steps) b.terminator i.exit_edge i.block.leaves.0 i.block.leaves.1 (sym a.terminator ∙ t) e k

        none_owed : (b : Block) → Agrees live nodes b → tick (not (nodes (head_node b.index)) && live b.head) ≡ 0
        none_owed b a = rw a.head (never (live b.head))

        chain_below : (b : Block) → InBlock b → Weighs inserted kept edge_weight point_weight b → Agrees live nodes b →
            least event (not (nodes (head_node b.index))) b.steps (nodes (terminator_node b.index)) ≤ spent inserted kept b.steps + tick (inserted b.exit)
        chain_below b i w a =
            let l = least_is_spent event inserted kept live (not (nodes (head_node b.index))) b.head b.steps (inserted b.exit) (nodes (terminator_node b.index)) (λ o. w.head) (along b i) (leaves b i a) in
            let z = none_owed b a in
            omega arith

        block_below : (b : Block) → InBlock b → Weighs inserted kept edge_weight point_weight b → Agrees live nodes b → block_least event edge_weight nodes b ≤ block_cost inserted kept edge_weight point_weight b
        block_below b i w a =
            let c = mul-le-mul_left b.weight (chain_below b i w a) in
            let s = sum_by-below (λ (s : ℕ × ℕ). cond (nodes (head_node s.1) && not (nodes (terminator_node b.index))) (edge_weight s.0) 0) (λ (s : ℕ × ℕ). cond (inserted s.0) (edge_weight s.0) 0) b.slots (slots_below b i w a) in
            omega arith

        -- what is known of a block
        abbrev pub Known : Block → Type 0
        Known b = (InBlock b × Weighs inserted kept edge_weight point_weight b) × Agrees live nodes b

        known : AllByRecursion Known blocks
        known = each_both (λ b. InBlock b × Weighs inserted kept edge_weight point_weight b) (Agrees live nodes) blocks (each_both InBlock (Weighs inserted kept edge_weight point_weight) blocks in_blocks weighs) agrees

        blocks_below : AllByRecursion (λ b. block_least event edge_weight nodes b ≤ block_cost inserted kept edge_weight point_weight b) blocks
        blocks_below = each_weaker Known (λ b. block_least event edge_weight nodes b ≤ block_cost inserted kept edge_weight point_weight b) (λ b k. block_below b k.0.0 k.0.1 k.1) blocks known

        entry_below : cond (nodes (head_node 0)) (edge_weight 0) 0 ≤ cond (inserted 0) (edge_weight 0) 0
        entry_below = below_if (nodes (head_node 0)) (inserted 0) (edge_weight 0) (λ h. slot_inserted 0 0 0 entry_edge start_unkept g.entry_to h rules.start)

        -- what the live nodes let in, with what is forced, is spent
        pub capacity_below : cond (nodes (head_node 0)) (edge_weight 0) 0 + sum_by (block_least event edge_weight nodes) blocks ≤ cond (inserted 0) (edge_weight 0) 0 + sum_by (block_cost inserted kept edge_weight point_weight) blocks
        capacity_below =
            let e = entry_below in
            let s = sum_by-below (block_least event edge_weight nodes) (block_cost inserted kept edge_weight point_weight) blocks blocks_below in
            omega arith

        -- and where no more is spent
        pub record IsTight (b : Block) : Type 0 where
          pub chain : TightAlong event inserted kept live (not (nodes (head_node b.index))) b.head b.steps (inserted b.exit) (nodes (terminator_node b.index))
          pub slots : AllByRecursion (λ s. inserted s.0 ≡ true → nodes (terminator_node b.index) ≡ false) b.slots

        block_tight : (b : Block) → Known b → block_least event edge_weight nodes b ≡ block_cost inserted kept edge_weight point_weight b → IsTight b
        block_tight b k e =
            let i = k.0.0 in let w = k.0.1 in let a = k.1 in
            let need : (ℕ × ℕ) → ℕ = λ s. cond (nodes (head_node s.1) && not (nodes (terminator_node b.index))) (edge_weight s.0) 0 in
            let pays : (ℕ × ℕ) → ℕ = λ s. cond (inserted s.0) (edge_weight s.0) 0 in
            let c = mul-le-mul_left b.weight (chain_below b i w a) in
            let s = sum_by-below need pays b.slots (slots_below b i w a) in
            let tight : spent inserted kept b.steps + tick (inserted b.exit) ≤ least event (not (nodes (head_node b.index))) b.steps (nodes (terminator_node b.index)) = le_of_mul-le-mul_left (let x : b.weight * (spent inserted kept b.steps + tick (inserted b.exit)) ≤ b.weight * least event (not (nodes (head_node b.index))) b.steps (nodes (terminator_node b.index)) = omega arith in x) i.positive in
            let z = none_owed b a in
            record {
              chain = tight_along event inserted kept live (not (nodes (head_node b.index))) b.head b.steps (inserted b.exit) (nodes (terminator_node b.index)) (λ o. w.head) (along b i) (leaves b i a) (omega arith);
              slots = each_weaker (λ s. (s.0 < length arcs) × (need s ≡ pays s)) (λ s. inserted s.0 ≡ true → nodes (terminator_node b.index) ≡ false)
                  (λ s h. crossing_tight (nodes (head_node s.1)) (nodes (terminator_node b.index)) (inserted s.0) (edge_weight s.0) (g.edge_weights s.0 h.0) h.1) b.slots
                  (each_both (λ s. s.0 < length arcs) (λ s. need s ≡ pays s) b.slots i.slot_edges (sum_by-tight need pays b.slots (slots_below b i w a) (omega arith)));
            }

        module _ (costs : cond (inserted 0) (edge_weight 0) 0 + sum_by (block_cost inserted kept edge_weight point_weight) blocks ≤ cond (nodes (head_node 0)) (edge_weight 0) 0 + sum_by (block_least event edge_weight nodes) blocks) where
          pub all_tight : AllByRecursion IsTight blocks
          all_tight =
              let e = entry_below in
              let equal = sum_by-tight (block_least event edge_weight nodes) (block_cost inserted kept edge_weight point_weight) blocks blocks_below (omega arith) in
              each_weaker (λ b. Known b × (block_least event edge_weight nodes b ≡ block_cost inserted kept edge_weight point_weight b)) IsTight (λ b h. block_tight b h.0 h.1) blocks
              (each_both Known (λ b. block_least event edge_weight nodes b ≡ block_cost inserted kept edge_weight point_weight b) blocks known equal)

          -- an edge is inserted only where nothing is live before it, nor written
          abbrev pub InsertsLate : ℕ → Type 0
          InsertsLate e = inserted e ≡ true → (live (source arcs e) ≡ false) × (kept (source arcs e) ≡ false)

          late_along : (owed : Bool) (u : ℕ) (steps : List (ℕ × ℕ)) (x : ℕ) (end : Bool) → IsStretch arcs u steps → source arcs x ≡ last_point u steps → TightAlong event inserted kept live owed u steps (inserted x) end → AllByRecursion (λ s. InsertsLate s.0) steps × InsertsLate x
          late_along owed u [] x end st from t = (tt, λ i. (ap live from ∙ (t i).0, ap kept from ∙ (t i).1))
          late_along owed u (s ∷ steps) x end st from t =
              let rest = late_along (owed_after (event s.1) owed) s.1 steps x end st.2 from t.2 in
              (((λ i. (ap live st.0 ∙ (t.0 i).0, ap kept st.0 ∙ (t.0 i).1)), rest.0), rest.1)

          late_in : (b : Block) → Known b → IsTight b → AllByRecursion InsertsLate (edges_of_block b)
          late_in b k t =
              let i = k.0.0 in
              let chain = late_along (not (nodes (head_node b.index))) b.head b.steps b.exit (nodes (terminator_node b.index)) i.block.leads i.block.leaves.0 t.chain in
              each_append InsertsLate (map (λ (s : ℕ × ℕ). s.0) b.steps) (b.exit ∷ map (λ (s : ℕ × ℕ). s.0) b.slots) (each_map InsertsLate (λ (s : ℕ × ℕ). s.0) b.steps chain.0) (
                chain.1,
                each_map InsertsLate (λ (s : ℕ × ℕ). s.0) b.slots
                    (each_weaker (λ s. (inserted s.0 ≡ true → nodes (terminator_node b.index) ≡ false) × IsSlot arcs blocks b.terminator s.0 s.1) (λ s. InsertsLate s.0)
                    (λ s h j. (ap live h.1.from ∙ sym k.1.terminator ∙ h.0 j, ap kept h.1.from ∙ k.0.1.terminator)) b.slots
                    (each_both (λ s. inserted s.0 ≡ true → nodes (terminator_node b.index) ≡ false) (λ s. IsSlot arcs blocks b.terminator s.0 s.1) b.slots t.slots (recursion_from_All (λ s. IsSlot arcs blocks b.terminator s.0 s.1) b.slots i.block.slots))),
              )

          pub inserts_late : (e : ℕ) → e < length arcs → InsertsLate e
          inserts_late e h = counted_each InsertsLate (0 ∷ joined edges_of_block blocks) g.edge_order (
            (λ i. (ap live g.entry_from ∙ rules.start, ap kept g.entry_from ∙ start_unkept)),
            each_joined InsertsLate edges_of_block blocks (each_weaker (λ b. Known b × IsTight b) (λ b. AllByRecursion InsertsLate (edges_of_block b)) (λ b h. late_in b h.0 h.1) blocks (each_both Known IsTight blocks known all_tight)),
          )
              e (let c = g.edge_count in omega arith)
