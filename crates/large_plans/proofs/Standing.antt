-- Each edge of a function is among those before whose places groups stand.
use Rattle.std.proofs.Common.{◌≡◌, ◌⊎◌, inl, inr, ⊎_elim, ℕ, zero, suc, ◌+◌, ◌<◌, ◌≤◌, Bool, true, false, if◌then◌else◌, List, [], ◌∷◌, ◌++◌, length, Some, None, refl, sym, ap, subst, arith}
use Rattle.std.specs.Prelude.{slice_get}
use Rattle.std.proofs.lemmas.Bool.{cases_eq}
use Rattle.std.proofs.lemmas.Option.{slice_get_past}
use Rattle.ir_types.specs.WellFormed.{targets}
use Rattle.ir_types.specs.declared.syntax.Instr.{Instr}
use Rattle.ir_types.specs.declared.syntax.Block.{Block}
use Rattle.ir_types.specs.declared.syntax.Function.{Function}
use Rattle.point_graph.specs.Graph.{Point, Edge, Entry, Inside, Slot, Joins}
use Rattle.applied.specs.Applied.{entering, is_one, is_single, leaving, edges_before}
use Rattle.applied_rules.proofs.EdgeLists.{text_edges, split_edges, edges_of, edges_from}

-- ---- among the items of a list

abbrev pub IsIn : Edge → List Edge → Type 0
IsIn x [] = ⊥
IsIn x (y ∷ ys) = (x ≡ y) ⊎ IsIn x ys

in_left : (x : Edge) (xs ys : List Edge) → IsIn x xs → IsIn x (xs ++ ys)
in_left x [] ys is = absurd is
in_left x (y ∷ xs) ys is = ⊎_elim (λ (here : x ≡ y). inl here) (λ (later : IsIn x xs). inr (in_left x xs ys later)) is

in_right : (x : Edge) (xs ys : List Edge) → IsIn x ys → IsIn x (xs ++ ys)
in_right x [] ys is = is
in_right x (y ∷ xs) ys is = inr (in_right x xs ys is)

-- ---- in the text of a block

-- the edge from Start, before the place 0 of the entry block
entry_in_text : (block : Block) (instrs : List Instr) → IsIn Entry (text_edges 0 block 0 instrs)
entry_in_text block [] = inl refl
entry_in_text block (instr ∷ instrs) = inl refl

module _ (b : ℕ) (block : Block) where
  -- the edge to a place, before the place
  inside_before : (k : ℕ) → IsIn (Inside b k) (edges_before b k block)
  inside_before k = in_right (Inside b k) (entering k b) (Inside b k ∷ leaving b (slice_get block.instrs k) block.term) (inl refl)

  inside_in_text : (k : ℕ) (instrs : List Instr) (j : ℕ) → k ≤ j → j ≤ k + length instrs → IsIn (Inside b j) (text_edges b block k instrs)
  inside_in_text k [] j le within =
      let same : k ≡ j = omega (arith, le, within) in
      subst (λ i. IsIn (Inside b i) (edges_before b k block)) same (inside_before k)
  inside_in_text k (instr ∷ instrs) j le within =
      ⊎_elim
      (λ (here : k ≡ j). in_left (Inside b j) (edges_before b k block) (text_edges b block (suc k) instrs) (subst (λ i. IsIn (Inside b i) (edges_before b k block)) here (inside_before k)))
      (λ (later : k ≡ j → ⊥). in_right (Inside b j) (edges_before b k block) (text_edges b block (suc k) instrs) (inside_in_text (suc k) instrs j (omega (arith, le, later)) (omega (arith, within))))
      (cases_eq k j)

  -- the one slot of a terminator, before it
  slot_before : (k : ℕ) → slice_get block.instrs k ≡ None → is_single block.term ≡ true → IsIn (Slot b 0) (edges_before b k block)
  slot_before k none single =
      in_right (Slot b 0) (entering k b) (Inside b k ∷ leaving b (slice_get block.instrs k) block.term)
      (inr (subst (λ found. IsIn (Slot b 0) (leaving b found block.term)) (sym none) (subst (λ q. IsIn (Slot b 0) (if q then Slot b 0 ∷ [] else [])) (sym single) (inl refl))))

  slot_in_text : is_single block.term ≡ true → (k : ℕ) (instrs : List Instr) → k + length instrs ≡ length block.instrs → IsIn (Slot b 0) (text_edges b block k instrs)
  slot_in_text single k [] at = slot_before k (slice_get_past block.instrs k (omega (arith, at))) single
  slot_in_text single k (instr ∷ instrs) at = in_right (Slot b 0) (edges_before b k block) (text_edges b block (suc k) instrs) (slot_in_text single (suc k) instrs (omega (arith, at)))

  -- ---- at the slots of a block

  slot_in_splits : (slot : ℕ) (rest : List ℕ) (i target : ℕ) → slice_get rest i ≡ Some target → IsIn (Slot b (slot + i)) (split_edges b false slot rest)
  slot_in_splits slot [] i target leads = absurd cc
  slot_in_splits slot (next ∷ rest) zero target leads = let same : slot + 0 ≡ slot = omega arith in inl (ap (Slot b) same)
  slot_in_splits slot (next ∷ rest) (suc i) target leads =
      let same : suc slot + i ≡ slot + suc i = omega arith in
      inr (subst (λ s. IsIn (Slot b s) (split_edges b false (suc slot) rest)) same (slot_in_splits (suc slot) rest i target leads))

  one_slot : (rest : List ℕ) (i target : ℕ) → is_one rest ≡ true → slice_get rest i ≡ Some target → 0 ≡ i
  one_slot [] i target one leads = absurd cc
  one_slot (next ∷ []) zero target one leads = refl
  one_slot (next ∷ []) (suc i) target one leads = absurd cc
  one_slot (next ∷ other ∷ rest) i target one leads = absurd cc

  slot_in_block : (slot target : ℕ) → slice_get (targets block.term) slot ≡ Some target → IsIn (Slot b slot) (edges_of b block)
  slot_in_block slot target leads = by (is_single block.term) refl
    where
      by : (q : Bool) → is_single block.term ≡ q → IsIn (Slot b slot) (text_edges b block 0 block.instrs ++ split_edges b q 0 (targets block.term))
      by true single =
          in_left (Slot b slot) (text_edges b block 0 block.instrs) (split_edges b true 0 (targets block.term))
          (subst (λ s. IsIn (Slot b s) (text_edges b block 0 block.instrs)) (one_slot (targets block.term) slot target single leads) (slot_in_text single 0 block.instrs (omega arith)))
      by false many =
          let same : 0 + slot ≡ slot = omega arith in
          in_right (Slot b slot) (text_edges b block 0 block.instrs) (split_edges b false 0 (targets block.term))
          (subst (λ s. IsIn (Slot b s) (split_edges b false 0 (targets block.term))) same (slot_in_splits 0 (targets block.term) slot target leads))

-- ---- in a function

-- what is in a block is in the blocks
in_blocks : (edge : Edge) (base : ℕ) (blocks : List Block) (k : ℕ) (block : Block) → slice_get blocks k ≡ Some block → IsIn edge (edges_of (base + k) block) → IsIn edge (edges_from base blocks)
in_blocks edge base [] k block there is = absurd cc
in_blocks edge base (first ∷ blocks) zero block there is =
    let same : block ≡ first = cc in
    let none : base + 0 ≡ base = omega arith in
    in_left edge (edges_of base first) (edges_from (suc base) blocks) (subst (λ x. IsIn edge (edges_of base x)) same (subst (λ c. IsIn edge (edges_of c block)) none is))
in_blocks edge base (first ∷ blocks) (suc k) block there is =
    let same : base + suc k ≡ suc base + k = omega arith in
    in_right edge (edges_of base first) (edges_from (suc base) blocks) (in_blocks edge (suc base) blocks k block there (subst (λ c. IsIn edge (edges_of c block)) same is))

entry_in : (blocks : List Block) → 0 < length blocks → IsIn Entry (edges_from 0 blocks)
entry_in [] defined = absurd (omega (arith, defined))
entry_in (block ∷ blocks) defined =
    in_left Entry (edges_of 0 block) (edges_from 1 blocks)
    (in_left Entry (text_edges 0 block 0 block.instrs) (split_edges 0 (is_single block.term) 0 (targets block.term)) (entry_in_text block block.instrs))

-- whatever the edge joins
pub joining_in : (f : Function) → 0 < length f.blocks → (edge : Edge) (u v : Point) → Joins f edge u v → IsIn edge (edges_from 0 f.blocks)
joining_in f defined Entry u v joins = entry_in f.blocks defined
joining_in f defined (Inside b k) u v joins =
    let block = joins.block in
    let same : b ≡ 0 + b = omega arith in
    in_blocks (Inside b k) 0 f.blocks b block joins.block_there
    (subst (λ c. IsIn (Inside b k) (edges_of c block)) same
    (in_left (Inside b k) (text_edges b block 0 block.instrs) (split_edges b (is_single block.term) 0 (targets block.term)) (inside_in_text b block 0 block.instrs k (omega arith) (omega (arith, joins.within)))))
joining_in f defined (Slot b slot) u v joins =
    let same : b ≡ 0 + b = omega arith in
    in_blocks (Slot b slot) 0 f.blocks b joins.block joins.block_there
    (subst (λ c. IsIn (Slot b slot) (edges_of c joins.block)) same (slot_in_block b joins.block slot joins.target joins.leads))
