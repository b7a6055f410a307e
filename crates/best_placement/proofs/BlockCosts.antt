-- The cost of a placement and the capacity of a side, block by block.
use Rattle.std.proofs.Common.{◌≡◌, ℕ, ◌+◌, ◌*◌, Bool, true, false, cond, not, ◌&&◌, List, [], ◌∷◌, ◌++◌, map, refl, sym, ap, ◌∙◌, arith}
use Rattle.std.specs.Prelude.{if◌then◌else◌}
use Rattle.std.specs.List.{sum_by, AllByRecursion}
use Rattle.std.proofs.lemmas.List.Sums.{sum_by-cons, sum_by-append}
use Rattle.std.proofs.Math.Nat.{mul-add}
use Rattle.flow_net.specs.declared.Arc.{Arc}
use Rattle.flow_net.specs.Network.{capacity_where, enters}
use Rattle.expressions.specs.declared.syntax.Event.{Event}
use Rattle.expressions.specs.declared.syntax.Event.TheVariants.{Occurs, Kills, Bars, Passes}
use Rattle.best_placement.specs.Blocks.{Block, joined, points_of_block, edges_of_block}
use Rattle.best_placement.specs.BlockNetwork.{head_node, terminator_node, first_event, last_event, first_arcs, last_arcs, slot_arcs, arcs_of_blocks, network_arcs, forced, constant}
use Rattle.best_placement.proofs.Lists.{sum_by-map}
use Rattle.best_placement.proofs.Chains.{tick, spent, least, first_pays, last_pays, block_pays}

pub weigh : (b : Bool) (w : ℕ) → cond b w 0 ≡ w * tick b
weigh true w = omega arith
weigh false w = omega arith

entering : (b : Bool) (w : ℕ) → cond (b && not false) w 0 ≡ cond b w 0
entering true w = refl
entering false w = refl

module _ (event : ℕ → Event) (edge_weight : ℕ → ℕ) (nodes : ℕ → Bool) where
  -- what a side lets into the arcs of a block and its slots, with what is forced
  abbrev pub block_least : Block → ℕ
  block_least b = b.weight * least event (not (nodes (head_node b.index))) b.steps (nodes (terminator_node b.index))
      + sum_by (λ s. cond (nodes (head_node s.1) && not (nodes (terminator_node b.index))) (edge_weight s.0) 0) b.slots

module _ (event : ℕ → Event) (edge_weight : ℕ → ℕ) (nodes : ℕ → Bool) (sink : nodes 1 ≡ true) (origin : nodes 0 ≡ false) where
  first_capacity : (k : Event) (i w : ℕ) → capacity_where (enters nodes) (first_arcs k i w) ≡ w * first_pays k (nodes (head_node i)) (nodes (terminator_node i))
  first_capacity Occurs i w = rw sink (let e = weigh (not (nodes (head_node i))) w in omega arith)
  first_capacity Kills i w = omega arith
  first_capacity Bars i w = let e = weigh (nodes (terminator_node i) && not (nodes (head_node i))) w in omega arith
  first_capacity Passes i w = let e = weigh (nodes (terminator_node i) && not (nodes (head_node i))) w in omega arith

  and_not_false : (b : Bool) → tick (b && not false) ≡ tick b
  and_not_false true = refl
  and_not_false false = refl

  last_capacity : (k : Event) (i w : ℕ) → capacity_where (enters nodes) (last_arcs k i w) ≡ w * last_pays k (nodes (terminator_node i))
  last_capacity Occurs i w = omega arith
  last_capacity Kills i w = rw origin (let e : cond (nodes (terminator_node i) && not false) w 0 ≡ w * tick (nodes (terminator_node i)) = weigh (nodes (terminator_node i) && not false) w ∙ ap (λ n. w * n) (and_not_false (nodes (terminator_node i))) in omega arith)
  last_capacity Bars i w = omega arith
  last_capacity Passes i w = omega arith

  slots_capacity : (i : ℕ) (slots : List (ℕ × ℕ)) → capacity_where (enters nodes) (slot_arcs edge_weight i slots) ≡ sum_by (λ s. cond (nodes (head_node s.1) && not (nodes (terminator_node i))) (edge_weight s.0) 0) slots
  slots_capacity i slots = sum_by-map (λ (a : Arc). if enters nodes a then a.cap else 0) (λ s. record { from = terminator_node i; to = head_node s.1; cap = edge_weight s.0 }) slots

  blocks_capacity : (blocks : List Block) → capacity_where (enters nodes) (arcs_of_blocks event edge_weight blocks) + constant event blocks ≡ sum_by (block_least event edge_weight nodes) blocks
  blocks_capacity [] = refl
  blocks_capacity (b ∷ blocks) =
      let test : Arc → ℕ = λ a. if enters nodes a then a.cap else 0 in
      let first = first_arcs (first_event event b.steps) b.index b.weight in
      let last = last_arcs (last_event event Passes b.steps) b.index b.weight in
      let slots = slot_arcs edge_weight b.index b.slots in
      let rest = arcs_of_blocks event edge_weight blocks in
      let h = nodes (head_node b.index) in
      let t = nodes (terminator_node b.index) in
      let f = first_pays (first_event event b.steps) h t in
      let l = last_pays (last_event event Passes b.steps) t in
      let o = forced event Passes b.steps in
      let pays : b.weight * least event (not h) b.steps t ≡ b.weight * f + b.weight * l + b.weight * o =
      ap (λ n. b.weight * n) (sym (block_pays event b.steps h t)) ∙ mul-add b.weight (f + l) o ∙ ap (λ n. n + b.weight * o) (mul-add b.weight f l) in
      let all : capacity_where (enters nodes) (arcs_of_blocks event edge_weight (b ∷ blocks)) ≡ sum_by test (first ++ last ++ slots) + sum_by test rest = sum_by-append test (first ++ last ++ slots) rest in
      let owing : constant event (b ∷ blocks) ≡ b.weight * o + constant event blocks = sum_by-cons (λ (c : Block). c.weight * forced event Passes c.steps) b blocks in
      omega (
        arith,
        all,
        owing,
        sum_by-append test (first ++ last) slots,
        sum_by-append test first last,
        sum_by-cons (block_least event edge_weight nodes) b blocks,
        first_capacity (first_event event b.steps) b.index b.weight,
        last_capacity (last_event event Passes b.steps) b.index b.weight,
        slots_capacity b.index b.slots,
        blocks_capacity blocks,
      )

  -- the capacity of a side, with the constant
  pub network_capacity : (blocks : List Block) → capacity_where (enters nodes) (network_arcs event edge_weight blocks) + constant event blocks ≡ cond (nodes (head_node 0)) (edge_weight 0) 0 + sum_by (block_least event edge_weight nodes) blocks
  network_capacity blocks =
      let a : Arc = record { from = 0; to = head_node 0; cap = edge_weight 0 } in
      let e : cond (nodes (head_node 0) && not (nodes 0)) (edge_weight 0) 0 ≡ cond (nodes (head_node 0)) (edge_weight 0) 0 = rw origin (entering (nodes (head_node 0)) (edge_weight 0)) in
      omega (arith, sum_by-cons (λ (x : Arc). if enters nodes x then x.cap else 0) a (arcs_of_blocks event edge_weight blocks), blocks_capacity blocks)

module _ (inserted kept : ℕ → Bool) (edge_weight point_weight : ℕ → ℕ) where
  abbrev pub edge_cost : ℕ → ℕ
  edge_cost e = cond (inserted e) (edge_weight e) 0

  abbrev pub point_cost : ℕ → ℕ
  point_cost v = cond (kept v) (point_weight v) 0

  -- what a placement costs in a block
  abbrev pub block_cost : Block → ℕ
  block_cost b = b.weight * (spent inserted kept b.steps + tick (inserted b.exit)) + sum_by (λ s. edge_cost s.0) b.slots

  weighed : (b : Bool) (x w : ℕ) → x ≡ w → cond b x 0 ≡ w * tick b
  weighed b x w e = ap (λ y. cond b y 0) e ∙ weigh b w

  steps_cost : (w : ℕ) (steps : List (ℕ × ℕ)) → AllByRecursion (λ s. (edge_weight s.0 ≡ w) × (point_weight s.1 ≡ w)) steps →
      sum_by (λ s. edge_cost s.0) steps + sum_by (λ s. point_cost s.1) steps ≡ w * spent inserted kept steps
  steps_cost w [] all = omega arith
  steps_cost w (s ∷ steps) all =
      omega (
        arith,
        sum_by-cons (λ (x : ℕ × ℕ). edge_cost x.0) s steps,
        sum_by-cons (λ (x : ℕ × ℕ). point_cost x.1) s steps,
        weighed (inserted s.0) (edge_weight s.0) w all.0.0,
        weighed (kept s.1) (point_weight s.1) w all.0.1,
        steps_cost w steps all.1,
        mul-add w (tick (inserted s.0) + tick (kept s.1)) (spent inserted kept steps),
        mul-add w (tick (inserted s.0)) (tick (kept s.1)),
      )

  -- what weighs as it should
  pub record Weighs (b : Block) : Type 0 where
    pub steps : AllByRecursion (λ s. (edge_weight s.0 ≡ b.weight) × (point_weight s.1 ≡ b.weight)) b.steps
    pub exit : edge_weight b.exit ≡ b.weight
    pub head : kept b.head ≡ false
    pub terminator : kept b.terminator ≡ false

  cost_in_block : (b : Block) → Weighs b → sum_by edge_cost (edges_of_block b) + sum_by point_cost (points_of_block b) ≡ block_cost b
  cost_in_block b h =
      let ends = map (λ (s : ℕ × ℕ). s.0) b.slots in
      let heads = map (λ (s : ℕ × ℕ). s.1) b.steps in
      let zero_head : point_cost b.head ≡ 0 = ap (λ k. cond k (point_weight b.head) 0) h.head in
      let zero_end : point_cost b.terminator ≡ 0 = ap (λ k. cond k (point_weight b.terminator) 0) h.terminator in
      omega (
        arith,
        sum_by-append edge_cost (map (λ (s : ℕ × ℕ). s.0) b.steps) (b.exit ∷ ends),
        sum_by-cons edge_cost b.exit ends,
        sum_by-map edge_cost (λ (s : ℕ × ℕ). s.0) b.steps,
        sum_by-map edge_cost (λ (s : ℕ × ℕ). s.0) b.slots,
        sum_by-cons point_cost b.head (heads ++ b.terminator ∷ []),
        sum_by-append point_cost heads (b.terminator ∷ []),
        sum_by-cons point_cost b.terminator [],
        sum_by-map point_cost (λ (s : ℕ × ℕ). s.1) b.steps,
        weighed (inserted b.exit) (edge_weight b.exit) b.weight h.exit,
        steps_cost b.weight b.steps h.steps,
        mul-add b.weight (spent inserted kept b.steps) (tick (inserted b.exit)),
      )

  cost_in_blocks : (blocks : List Block) → AllByRecursion Weighs blocks → sum_by edge_cost (joined edges_of_block blocks) + sum_by point_cost (joined points_of_block blocks) ≡ sum_by block_cost blocks
  cost_in_blocks [] all = refl
  cost_in_blocks (b ∷ blocks) all =
      omega (arith, sum_by-append edge_cost (edges_of_block b) (joined edges_of_block blocks), sum_by-append point_cost (points_of_block b) (joined points_of_block blocks), sum_by-cons block_cost b blocks, cost_in_block b all.0, cost_in_blocks blocks all.1)

  -- the cost of a placement, by its blocks
  pub cost_by_blocks : (blocks : List Block) → AllByRecursion Weighs blocks → kept 0 ≡ false →
      sum_by edge_cost (0 ∷ joined edges_of_block blocks) + sum_by point_cost (0 ∷ joined points_of_block blocks) ≡ cond (inserted 0) (edge_weight 0) 0 + sum_by block_cost blocks
  cost_by_blocks blocks all start =
      let zero_start : point_cost 0 ≡ 0 = ap (λ k. cond k (point_weight 0) 0) start in
      omega (arith, sum_by-cons edge_cost 0 (joined edges_of_block blocks), sum_by-cons point_cost 0 (joined points_of_block blocks), cost_in_blocks blocks all)
