-- The block network is a valid network.
use Rattle.std.proofs.Common.{ℕ, ◌+◌, ◌*◌, ◌<◌, List, [], ◌∷◌, ◌++◌, length, map, sym, arith, subst, All}
use Rattle.std.specs.List.{AllByRecursion}
use Rattle.std.proofs.lemmas.List.{length-map}
use Rattle.std.proofs.lemmas.List.Elements.{recursion_from_All, All-from_recursion, All-contains}
use Rattle.flow_net.specs.declared.Arc.{Arc}
use Rattle.flow_net.specs.Network.{IsArcOf}
use Rattle.expressions.specs.declared.syntax.Event.{Event}
use Rattle.expressions.specs.declared.syntax.Event.TheVariants.{Occurs, Kills, Bars, Passes}
use Rattle.best_placement.specs.Blocks.{Block, IsBlock, IsSlot}
use Rattle.best_placement.specs.BlockNetwork.{first_event, last_event, first_arcs, last_arcs, slot_arcs, arcs_of_blocks, network_arcs}
use Rattle.best_placement.specs.Laws.{NetworkIsValid}
use Rattle.best_placement.proofs.Lists.{each_both, each_weaker, each_append, each_unmap, counted_below}

first_valid : (n : ℕ) (k : Event) (i w : ℕ) → i < n → AllByRecursion (IsArcOf (2 + 2 * n)) (first_arcs k i w)
first_valid n Occurs i w h = ((omega arith, omega arith, omega arith, λ e. omega arith), tt)
first_valid n Kills i w h = tt
first_valid n Bars i w h = ((omega arith, omega arith, omega arith, λ e. omega arith), tt)
first_valid n Passes i w h = ((omega arith, omega arith, omega arith, λ e. omega arith), tt)

last_valid : (n : ℕ) (k : Event) (i w : ℕ) → i < n → AllByRecursion (IsArcOf (2 + 2 * n)) (last_arcs k i w)
last_valid n Occurs i w h = tt
last_valid n Kills i w h = ((omega arith, omega arith, omega arith, λ e. omega arith), tt)
last_valid n Bars i w h = tt
last_valid n Passes i w h = tt

slots_valid : (n : ℕ) (edge_weight : ℕ → ℕ) (i : ℕ) (slots : List (ℕ × ℕ)) → i < n → AllByRecursion (λ s. s.1 < n) slots → AllByRecursion (IsArcOf (2 + 2 * n)) (slot_arcs edge_weight i slots)
slots_valid n edge_weight i [] h all = tt
slots_valid n edge_weight i (s ∷ slots) h all = (let t : s.1 < n = all.0 in (omega arith, omega arith, omega arith, λ e. omega arith), slots_valid n edge_weight i slots h all.1)

-- what is known of a block
abbrev pub Indexed : ℕ → Block → Type 0
Indexed n b = (b.index < n) × AllByRecursion (λ s. s.1 < n) b.slots

blocks_valid : (n : ℕ) (event : ℕ → Event) (edge_weight : ℕ → ℕ) (blocks : List Block) → AllByRecursion (Indexed n) blocks → AllByRecursion (IsArcOf (2 + 2 * n)) (arcs_of_blocks event edge_weight blocks)
blocks_valid n event edge_weight [] all = tt
blocks_valid n event edge_weight (b ∷ blocks) all =
    let V : Arc → Type 0 = IsArcOf (2 + 2 * n) in
    let first = first_arcs (first_event event b.steps) b.index b.weight in
    let last = last_arcs (last_event event Passes b.steps) b.index b.weight in
    let slots = slot_arcs edge_weight b.index b.slots in
    each_append V (first ++ last ++ slots) (arcs_of_blocks event edge_weight blocks)
    (each_append V (first ++ last) slots
    (each_append V first last (first_valid n (first_event event b.steps) b.index b.weight all.0.0) (last_valid n (last_event event Passes b.steps) b.index b.weight all.0.0))
    (slots_valid n edge_weight b.index b.slots all.0.0 all.0.1))
    (blocks_valid n event edge_weight blocks all.1)

pub network_is_valid : NetworkIsValid
network_is_valid g net f n total =
    let I : Block → Type 0 = λ b. b.index < length g.blocks in
    let indices : AllByRecursion I g.blocks = each_unmap (λ i. i < length g.blocks) (λ (b : Block). b.index) g.blocks (counted_below 0 (length g.blocks) (map (λ (b : Block). b.index) g.blocks) f.block_order (omega (arith, length-map g.blocks (λ (b : Block). b.index)))) in
    let slot : (t e j : ℕ) → IsSlot g.arcs g.blocks t e j → j < length g.blocks = λ t e j s. subst (λ i. i < length g.blocks) s.has_index (All-contains I g.blocks s.block (All-from_recursion I g.blocks indices) s.is_block) in
    let B : Block → Type 0 = IsBlock g.arcs g.blocks g.event g.edge_weight g.point_weight in
    let known : AllByRecursion (Indexed (length g.blocks)) g.blocks = each_weaker (λ b. I b × B b) (Indexed (length g.blocks))
    (λ b h. (h.0, each_weaker (λ s. IsSlot g.arcs g.blocks b.terminator s.0 s.1) (λ s. s.1 < length g.blocks) (λ s k. slot b.terminator s.0 s.1 k) b.slots (recursion_from_All (λ s. IsSlot g.arcs g.blocks b.terminator s.0 s.1) b.slots h.1.slots)))
    g.blocks (each_both I B g.blocks indices (recursion_from_All B g.blocks f.each)) in
    let some : 0 < length g.blocks = slot 0 0 0 f.entry_to in
    record {
      nodes = let e = n.nodes in omega arith;
      arcs = subst (λ arcs. All (IsArcOf net.nodes) arcs) (sym n.arcs) (subst (λ k. All (IsArcOf k) (network_arcs g.event g.edge_weight g.blocks)) (sym n.nodes)
          (All-from_recursion (IsArcOf (2 + 2 * length g.blocks)) (network_arcs g.event g.edge_weight g.blocks)
          ((omega arith, omega arith, omega arith, λ e. omega arith), blocks_valid (length g.blocks) g.event g.edge_weight g.blocks known)));
      total = total;
    }
