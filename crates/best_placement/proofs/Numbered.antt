-- Blocks of given shapes, numbered in order, are a point graph.
use Rattle.std.proofs.Common.{◌≡◌, ℕ, suc, zero, ◌+◌, ◌<◌, List, [], ◌∷◌, ◌++◌, length, map, get_or, All, refl, sym, ap, ◌∙◌, arith, subst}
use Rattle.std.specs.List.{AllByRecursion, Contains}
use Rattle.std.proofs.lemmas.List.{length-append, length-map}
use Rattle.std.proofs.lemmas.List.Elements.{recursion_from_All, All-from_recursion, All-contains, Contains-append_left, Contains-append_right, Contains-push}
use Rattle.expressions.specs.declared.syntax.Event.{Event}
use Rattle.expressions.specs.declared.syntax.Event.TheVariants.{Passes}
use Rattle.flow_paths.specs.Paths.{source, target, ArcsWithin}
use Rattle.best_placement.specs.Blocks.{Block, IsFlowGraph, IsBlock, IsSlot, IsStretch, CountsFrom, last_point, joined, points_of_block, edges_of_block}
use Rattle.best_placement.specs.Shapes.{Shape, steps_from, slots_from, block_from, next_point, next_edge, blocks_from, head_at, straight, arcs_from, shape_blocks, shape_arcs, points_from, shape_points, Suits, ShapesAreGraphs}
use Rattle.best_placement.proofs.Lists.{each_both, each_weaker, each_append, each_map, each_joined, each_unjoined, each_split, each_unmap, counted_below, counted_each}

-- the list stands in the arcs from that number on
abbrev pub Stands : List (ℕ × ℕ) → ℕ → List (ℕ × ℕ) → Type 0
Stands arcs e [] = Unit {0}
Stands arcs e (a ∷ list) = (get_or arcs e (0, 0) ≡ a) × Stands arcs (suc e) list

stands_split : (arcs : List (ℕ × ℕ)) (e : ℕ) (first second : List (ℕ × ℕ)) → Stands arcs e (first ++ second) → Stands arcs e first × Stands arcs (e + length first) second
stands_split arcs e [] second h = (tt, subst (λ x. Stands arcs x second) (let q : e ≡ e + 0 = omega arith in q) h)
stands_split arcs e (a ∷ first) second h =
    let r = stands_split arcs (suc e) first second h.1 in
    ((h.0, r.0), subst (λ x. Stands arcs x second) (let q : suc e + length first ≡ e + length (a ∷ first) = omega arith in q) r.1)

stands_later : (a : ℕ × ℕ) (arcs : List (ℕ × ℕ)) (e : ℕ) (list : List (ℕ × ℕ)) → Stands arcs e list → Stands (a ∷ arcs) (suc e) list
stands_later a arcs e [] h = tt
stands_later a arcs e (b ∷ list) h = (h.0, stands_later a arcs (suc e) list h.1)

stands_whole : (arcs : List (ℕ × ℕ)) → Stands arcs 0 arcs
stands_whole [] = tt
stands_whole (a ∷ arcs) = (refl, stands_later a arcs 0 arcs (stands_whole arcs))

counts_append : (n : ℕ) (xs ys : List ℕ) → CountsFrom n xs → CountsFrom (n + length xs) ys → CountsFrom n (xs ++ ys)
counts_append n [] ys c d = subst (λ x. CountsFrom x ys) (let q : n + 0 ≡ n = omega arith in q) d
counts_append n (x ∷ xs) ys c d = (c.0, counts_append (suc n) xs ys c.1 (subst (λ x. CountsFrom x ys) (let q : n + length (x ∷ xs) ≡ suc n + length xs = omega arith in q) d))

step_edges : (e v n : ℕ) → CountsFrom e (map (λ s. s.0) (steps_from e v n))
step_edges e v zero = tt
step_edges e v (suc n) = (refl, step_edges (suc e) (suc v) n)

step_points : (e v n : ℕ) → CountsFrom v (map (λ s. s.1) (steps_from e v n))
step_points e v zero = tt
step_points e v (suc n) = (refl, step_points (suc e) (suc v) n)

slot_edges : (e : ℕ) (targets : List ℕ) → CountsFrom e (map (λ s. s.0) (slots_from e targets))
slot_edges e [] = tt
slot_edges e (t ∷ targets) = (refl, slot_edges (suc e) targets)

steps_length : (e v n : ℕ) → length (steps_from e v n) ≡ n
steps_length e v zero = refl
steps_length e v (suc n) = let r = steps_length (suc e) (suc v) n in omega arith

slots_length : (e : ℕ) (targets : List ℕ) → length (slots_from e targets) ≡ length targets
slots_length e [] = refl
slots_length e (t ∷ targets) = let r = slots_length (suc e) targets in omega arith

pub length_straight : (v n : ℕ) → length (straight v n) ≡ n
length_straight v zero = refl
length_straight v (suc n) = let r = length_straight (suc v) n in omega arith

last_of_steps : (e v n : ℕ) → last_point v (steps_from e (suc v) n) ≡ v + n
last_of_steps e v zero = omega arith
last_of_steps e v (suc n) = last_of_steps (suc e) (suc v) n ∙ (let q : suc v + n ≡ v + suc n = omega arith in q)

module _ (index point edge : ℕ) (s : Shape) where
  abbrev pub b : Block
  b = block_from index point edge s

  edge_length : length (edges_of_block b) ≡ suc s.instructions + length s.targets
  edge_length = omega (
    arith,
    length-append (map (λ (x : ℕ × ℕ). x.0) b.steps) (b.exit ∷ map (λ (x : ℕ × ℕ). x.0) b.slots),
    length-map b.steps (λ (x : ℕ × ℕ). x.0),
    length-map b.slots (λ (x : ℕ × ℕ). x.0),
    steps_length edge (suc point) s.instructions,
    slots_length (suc (edge + s.instructions)) s.targets,
  )

  point_length : length (points_of_block b) ≡ suc (suc s.instructions)
  point_length = omega (arith, length-append (map (λ (x : ℕ × ℕ). x.1) b.steps) (b.terminator ∷ []), length-map b.steps (λ (x : ℕ × ℕ). x.1), steps_length edge (suc point) s.instructions)

  block_edges : CountsFrom edge (edges_of_block b)
  block_edges = counts_append edge (map (λ (x : ℕ × ℕ). x.0) b.steps) (b.exit ∷ map (λ (x : ℕ × ℕ). x.0) b.slots) (step_edges edge (suc point) s.instructions)
      (let l : length (map (λ (x : ℕ × ℕ). x.0) b.steps) ≡ s.instructions = length-map b.steps (λ (x : ℕ × ℕ). x.0) ∙ steps_length edge (suc point) s.instructions in
      rw l (refl, slot_edges (suc (edge + s.instructions)) s.targets))

  block_points : CountsFrom point (points_of_block b)
  block_points = (
    refl,
    counts_append (suc point) (map (λ (x : ℕ × ℕ). x.1) b.steps) (b.terminator ∷ []) (step_points edge (suc point) s.instructions)
        (let l : length (map (λ (x : ℕ × ℕ). x.1) b.steps) ≡ s.instructions = length-map b.steps (λ (x : ℕ × ℕ). x.1) ∙ steps_length edge (suc point) s.instructions in
        rw l (refl, tt)),
  )

all_edges : (index point edge : ℕ) (shapes : List Shape) → CountsFrom edge (joined edges_of_block (blocks_from index point edge shapes))
all_edges index point edge [] = tt
all_edges index point edge (s ∷ shapes) =
    counts_append edge (edges_of_block (block_from index point edge s)) (joined edges_of_block (blocks_from (suc index) (next_point point s) (next_edge edge s) shapes)) (block_edges index point edge s)
    (subst (λ x. CountsFrom x (joined edges_of_block (blocks_from (suc index) (next_point point s) (next_edge edge s) shapes))) (let l = edge_length index point edge s in let q : next_edge edge s ≡ edge + length (edges_of_block (block_from index point edge s)) = omega arith in q)
    (all_edges (suc index) (next_point point s) (next_edge edge s) shapes))

all_points : (index point edge : ℕ) (shapes : List Shape) → CountsFrom point (joined points_of_block (blocks_from index point edge shapes))
all_points index point edge [] = tt
all_points index point edge (s ∷ shapes) =
    counts_append point (points_of_block (block_from index point edge s)) (joined points_of_block (blocks_from (suc index) (next_point point s) (next_edge edge s) shapes)) (block_points index point edge s)
    (subst (λ x. CountsFrom x (joined points_of_block (blocks_from (suc index) (next_point point s) (next_edge edge s) shapes))) (let l = point_length index point edge s in let q : next_point point s ≡ point + length (points_of_block (block_from index point edge s)) = omega arith in q)
    (all_points (suc index) (next_point point s) (next_edge edge s) shapes))

all_indices : (index point edge : ℕ) (shapes : List Shape) → CountsFrom index (map (λ b. b.index) (blocks_from index point edge shapes))
all_indices index point edge [] = tt
all_indices index point edge (s ∷ shapes) = (refl, all_indices (suc index) (next_point point s) (next_edge edge s) shapes)

count_points : (index point edge : ℕ) (shapes : List Shape) → point + length (joined points_of_block (blocks_from index point edge shapes)) ≡ points_from point shapes
count_points index point edge [] = omega arith
count_points index point edge (s ∷ shapes) =
    let r = count_points (suc index) (next_point point s) (next_edge edge s) shapes in
    omega (arith, length-append (points_of_block (block_from index point edge s)) (joined points_of_block (blocks_from (suc index) (next_point point s) (next_edge edge s) shapes)), point_length index point edge s)

count_edges : (heads : ℕ → ℕ) (index point edge : ℕ) (shapes : List Shape) → length (joined edges_of_block (blocks_from index point edge shapes)) ≡ length (arcs_from heads point shapes)
count_edges heads index point edge [] = refl
count_edges heads index point edge (s ∷ shapes) =
    let r = count_edges heads (suc index) (next_point point s) (next_edge edge s) shapes in
    let out : List (ℕ × ℕ) = map (λ (t : ℕ). (suc point + s.instructions, heads t)) s.targets in
    omega (
      arith,
      length-append (edges_of_block (block_from index point edge s)) (joined edges_of_block (blocks_from (suc index) (next_point point s) (next_edge edge s) shapes)),
      edge_length index point edge s,
      length-append (straight point (suc s.instructions)) (out ++ arcs_from heads (next_point point s) shapes),
      length-append out (arcs_from heads (next_point point s) shapes),
      length_straight point (suc s.instructions),
      length-map {B = ℕ × ℕ} s.targets (λ (t : ℕ). (suc point + s.instructions, heads t)),
    )

-- the block of an index stands in the list, with that head
pub record BlockAt (blocks : List Block) (index head : ℕ) : Type 0 where
  pub block : Block
  pub is_block : Contains blocks block
  pub has_index : block.index ≡ index
  pub has_head : block.head ≡ head

block_at : (index point edge : ℕ) (shapes : List Shape) (t : ℕ) → t < length shapes → BlockAt (blocks_from index point edge shapes) (index + t) (head_at point shapes t)
block_at index point edge [] t h = absurd (omega arith)
block_at index point edge (s ∷ shapes) zero h =
    let b : Block = block_from index point edge s in
    record { block = b; is_block = Contains-append_left (b ∷ []) (blocks_from (suc index) (next_point point s) (next_edge edge s) shapes) b (Contains-push [] b); has_index = omega arith; has_head = refl }
block_at index point edge (s ∷ shapes) (suc t) h =
    let b : Block = block_from index point edge s in
    let r = block_at (suc index) (next_point point s) (next_edge edge s) shapes t (omega arith) in
    record { block = r.block; is_block = Contains-append_right (b ∷ []) (blocks_from (suc index) (next_point point s) (next_edge edge s) shapes) r.block r.is_block; has_index = r.has_index ∙ (let q : suc index + t ≡ index + suc t = omega arith in q); has_head = r.has_head }

module _ (arcs : List (ℕ × ℕ)) where
  stretch : (e v n : ℕ) → Stands arcs e (straight v n) → IsStretch arcs v (steps_from e (suc v) n)
  stretch e v zero h = tt
  stretch e v (suc n) h = (ap (λ a. a.0) h.0, ap (λ a. a.1) h.0, stretch (suc e) (suc v) n h.1)

  straight_end : (e v n : ℕ) → Stands arcs e (straight v (suc n)) → (source arcs (e + n) ≡ v + n) × (target arcs (e + n) ≡ suc v + n)
  straight_end e v zero h =
      let z : e + 0 ≡ e = omega arith in (
        ap (source arcs) z ∙ ap (λ a. a.0) h.0 ∙ (let q : v ≡ v + 0 = omega arith in q),
        ap (target arcs) z ∙ ap (λ a. a.1) h.0 ∙ (let q : suc v ≡ suc v + 0 = omega arith in q),
      )
  straight_end e v (suc n) h =
      let r = straight_end (suc e) (suc v) n h.1 in
      let z : e + suc n ≡ suc e + n = omega arith in (
        ap (source arcs) z ∙ r.0 ∙ (let q : suc v + n ≡ v + suc n = omega arith in q),
        ap (target arcs) z ∙ r.1 ∙ (let q : suc (suc v) + n ≡ suc v + suc n = omega arith in q),
      )

  straight_front : (e v n : ℕ) → Stands arcs e (straight v (suc n)) → Stands arcs e (straight v n)
  straight_front e v zero h = tt
  straight_front e v (suc n) h = (h.0, straight_front (suc e) (suc v) n h.1)

  module _ (blocks : List Block) (count : ℕ) (heads : ℕ → ℕ) (found : (t : ℕ) → t < count → BlockAt blocks t (heads t)) where
    slots_stand : (terminator e : ℕ) (targets : List ℕ) → AllByRecursion (λ t. t < count) targets → Stands arcs e (map (λ t. (terminator, heads t)) targets) → AllByRecursion (λ s. IsSlot arcs blocks terminator s.0 s.1) (slots_from e targets)
    slots_stand terminator e [] all h = tt
    slots_stand terminator e (t ∷ targets) all h =
        let f = found t all.0 in (
          record { from = ap (λ a. a.0) h.0; block = f.block; is_block = f.is_block; has_index = f.has_index; to = ap (λ a. a.1) h.0 ∙ sym f.has_head },
          slots_stand terminator (suc e) targets all.1 h.1,
        )

    -- what is known of each block by its place
    pub record Laid (b : Block) : Type 0 where
      pub leads : IsStretch arcs b.head b.steps
      pub leaves : (source arcs b.exit ≡ last_point b.head b.steps) × (target arcs b.exit ≡ b.terminator)
      pub slots : AllByRecursion (λ s. IsSlot arcs blocks b.terminator s.0 s.1) b.slots

    laid_from : (index point edge : ℕ) (shapes : List Shape) → AllByRecursion (λ s. AllByRecursion (λ t. t < count) s.targets) shapes → Stands arcs edge (arcs_from heads point shapes) → AllByRecursion Laid (blocks_from index point edge shapes)
    laid_from index point edge [] all h = tt
    laid_from index point edge (s ∷ shapes) all h =
        let inside = straight point (suc s.instructions) in
        let out : List (ℕ × ℕ) = map (λ (t : ℕ). (suc point + s.instructions, heads t)) s.targets in
        let rest : List (ℕ × ℕ) = arcs_from heads (next_point point s) shapes in
        let one = stands_split arcs edge inside (out ++ rest) h in
        let two = stands_split arcs (edge + length inside) out rest one.1 in
        let il : edge + length inside ≡ suc (edge + s.instructions) = let l = length_straight point (suc s.instructions) in omega arith in
        let ol : edge + length inside + length out ≡ next_edge edge s = let l : length out ≡ length s.targets = length-map {B = ℕ × ℕ} s.targets (λ (t : ℕ). (suc point + s.instructions, heads t)) in omega arith in
        let end = straight_end edge point s.instructions one.0 in (
          record {
            leads = stretch edge point s.instructions (straight_front edge point s.instructions one.0);
            leaves = (end.0 ∙ sym (last_of_steps edge point s.instructions), end.1);
            slots = slots_stand (suc point + s.instructions) (suc (edge + s.instructions)) s.targets all.0 (subst (λ x. Stands arcs x out) il two.0);
          },
          laid_from (suc index) (next_point point s) (next_edge edge s) shapes all.1 (subst (λ x. Stands arcs x rest) ol two.1),
        )

-- the ends of arcs are points
module _ (arcs : List (ℕ × ℕ)) (blocks : List Block) (n : ℕ) (inside : AllByRecursion (λ b. AllByRecursion (λ v. v < n) (points_of_block b)) blocks) where
  abbrev pub EndsInside : ℕ → Type 0
  EndsInside e = (source arcs e < n) × (target arcs e < n)

  stretch_inside : (u : ℕ) (steps : List (ℕ × ℕ)) → u < n → AllByRecursion (λ s. s.1 < n) steps → IsStretch arcs u steps → AllByRecursion (λ s. EndsInside s.0) steps × (last_point u steps < n)
  stretch_inside u [] h all st = (tt, h)
  stretch_inside u (s ∷ steps) h all st =
      let r = stretch_inside s.1 steps all.0 all.1 st.2 in
      (((subst (λ x. x < n) (sym st.0) h, subst (λ x. x < n) (sym st.1) all.0), r.0), r.1)

  slot_inside : (t e j : ℕ) → t < n → IsSlot arcs blocks t e j → EndsInside e
  slot_inside t e j h s =
      let P : Block → Type 0 = λ b. AllByRecursion (λ v. v < n) (points_of_block b) in
      (subst (λ x. x < n) (sym s.from) h, subst (λ x. x < n) (sym s.to) (All-contains P blocks s.block (All-from_recursion P blocks inside) s.is_block).0)

  edges_inside : (b : Block) → IsStretch arcs b.head b.steps → (source arcs b.exit ≡ last_point b.head b.steps) × (target arcs b.exit ≡ b.terminator) → AllByRecursion (λ s. IsSlot arcs blocks b.terminator s.0 s.1) b.slots → AllByRecursion (λ v. v < n) (points_of_block b) →
      AllByRecursion EndsInside (edges_of_block b)
  edges_inside b leads leaves slots vs =
      let parts = each_split (λ v. v < n) (map (λ (s : ℕ × ℕ). s.1) b.steps) (b.terminator ∷ []) vs.1 in
      let steps = stretch_inside b.head b.steps vs.0 (each_unmap (λ v. v < n) (λ (s : ℕ × ℕ). s.1) b.steps parts.0) leads in
      each_append EndsInside (map (λ (s : ℕ × ℕ). s.0) b.steps) (b.exit ∷ map (λ (s : ℕ × ℕ). s.0) b.slots) (each_map EndsInside (λ (s : ℕ × ℕ). s.0) b.steps steps.0) (
        (subst (λ x. x < n) (sym leaves.0) steps.1, subst (λ x. x < n) (sym leaves.1) parts.1.0),
        each_map EndsInside (λ (s : ℕ × ℕ). s.0) b.slots (each_weaker (λ s. IsSlot arcs blocks b.terminator s.0 s.1) (λ s. EndsInside s.0) (λ s h. slot_inside b.terminator s.0 s.1 parts.1.0 h) b.slots slots),
      )

first_head : (shapes : List Shape) → 0 < length shapes → head_at 1 shapes 0 ≡ 1
first_head [] h = absurd (omega arith)
first_head (s ∷ shapes) h = refl

module _ (shapes : List Shape) (event : ℕ → Event) (edge_weight point_weight : ℕ → ℕ) (suits : Suits shapes event edge_weight point_weight) where
  abbrev pub arcs : List (ℕ × ℕ)
  arcs = shape_arcs shapes

  abbrev pub blocks : List Block
  blocks = shape_blocks shapes

  pub found : (t : ℕ) → t < length shapes → BlockAt blocks t (head_at 1 shapes t)
  found t h = let f = block_at 0 1 1 shapes t h in record { block = f.block; is_block = f.is_block; has_index = f.has_index ∙ (let q : 0 + t ≡ t = omega arith in q); has_head = f.has_head }

  abbrev pub LaidHere : Block → Type 0
  LaidHere b = Laid arcs blocks (length shapes) (head_at 1 shapes) found b

  laid : AllByRecursion LaidHere blocks
  laid = laid_from arcs blocks (length shapes) (head_at 1 shapes) found 0 1 1 shapes
      (each_weaker (λ s. All (λ t. t < length shapes) s.targets) (λ s. AllByRecursion (λ t. t < length shapes) s.targets) (λ s h. recursion_from_All (λ t. t < length shapes) s.targets h) shapes (recursion_from_All (λ s. All (λ t. t < length shapes) s.targets) shapes suits.targets))
      (stands_whole arcs).1

  points_inside : AllByRecursion (λ b. AllByRecursion (λ v. v < shape_points shapes) (points_of_block b)) blocks
  points_inside = each_unjoined (λ v. v < shape_points shapes) points_of_block blocks (counted_below 1 (shape_points shapes) (joined points_of_block blocks) (all_points 0 1 1 shapes) (let c = count_points 0 1 1 shapes in omega arith))

  entry_slot : IsSlot arcs blocks 0 0 0
  entry_slot = let f = found 0 suits.entry in record { from = refl; block = f.block; is_block = f.is_block; has_index = f.has_index; to = sym (f.has_head ∙ first_head shapes suits.entry) }

  edge_count : length (0 ∷ joined edges_of_block blocks) ≡ length arcs
  edge_count = let c = count_edges (head_at 1 shapes) 0 1 1 shapes in omega arith

  point_count : length (0 ∷ joined points_of_block blocks) ≡ shape_points shapes
  point_count = let c = count_points 0 1 1 shapes in omega arith

  ends_inside : ArcsWithin arcs (shape_points shapes)
  ends_inside e h = counted_each (EndsInside arcs blocks (shape_points shapes) points_inside) (0 ∷ joined edges_of_block blocks) (refl, all_edges 0 1 1 shapes) (
    slot_inside arcs blocks (shape_points shapes) points_inside 0 0 0 (let c = point_count in omega arith) entry_slot,
    each_joined (EndsInside arcs blocks (shape_points shapes) points_inside) edges_of_block blocks
        (each_weaker (λ b. LaidHere b × AllByRecursion (λ v. v < shape_points shapes) (points_of_block b)) (λ b. AllByRecursion (EndsInside arcs blocks (shape_points shapes) points_inside) (edges_of_block b))
        (λ b h. edges_inside arcs blocks (shape_points shapes) points_inside b h.0.leads h.0.leaves h.0.slots h.1) blocks
        (each_both LaidHere (λ b. AllByRecursion (λ v. v < shape_points shapes) (points_of_block b)) blocks laid points_inside)),
  )
      e (let c = edge_count in omega arith)

  each_block : AllByRecursion (IsBlock arcs blocks event edge_weight point_weight) blocks
  each_block =
      let H : Block → Type 0 = λ b. event b.head ≡ Passes in
      let W : Block → Type 0 = λ b. All (λ s. (edge_weight s.0 ≡ b.weight) × (point_weight s.1 ≡ b.weight)) b.steps in
      let E : Block → Type 0 = λ b. edge_weight b.exit ≡ b.weight in
      each_weaker (λ b. (LaidHere b × H b) × (W b × E b)) (IsBlock arcs blocks event edge_weight point_weight)
      (λ b h. record {
        leads = h.0.0.leads;
        leaves = h.0.0.leaves;
        slots = All-from_recursion (λ s. IsSlot arcs blocks b.terminator s.0 s.1) b.slots h.0.0.slots;
        head_passes = h.0.1;
        step_weights = h.1.0;
        exit_weight = h.1.1;
      }) blocks
      (each_both (λ b. LaidHere b × H b) (λ b. W b × E b) blocks (each_both LaidHere H blocks laid (recursion_from_All H blocks suits.heads_pass)) (each_both W E blocks (recursion_from_All W blocks suits.step_weights) (recursion_from_All E blocks suits.exit_weights)))

  pub is_graph : IsFlowGraph arcs (shape_points shapes) blocks event edge_weight point_weight
  is_graph = record {
    point_order = (refl, all_points 0 1 1 shapes);
    edge_order = (refl, all_edges 0 1 1 shapes);
    block_order = all_indices 0 1 1 shapes;
    point_count = point_count;
    edge_count = edge_count;
    within = ends_inside;
    entry_from = refl;
    entry_to = entry_slot;
    each = All-from_recursion (IsBlock arcs blocks event edge_weight point_weight) blocks each_block;
    terminators = suits.terminators;
    start_passes = suits.start_passes;
    reached = suits.reached;
    edge_weights = suits.edge_weights;
    block_weights = suits.block_weights;
  }

pub shapes_are_graphs : ShapesAreGraphs
shapes_are_graphs = is_graph
