-- The edges in the order in which their groups stand, each once.
use Rattle.std.proofs.Common.{◌≡◌, ◌≢◌, ℕ, zero, suc, ◌+◌, Bool, true, false, if◌then◌else◌, List, [], ◌∷◌, ◌++◌, Some, refl, sym, ap, ◌∙◌, subst, arith}
use Rattle.std.specs.Prelude.{slice_get}
use Rattle.ir_types.specs.WellFormed.{targets}
use Rattle.ir_types.specs.declared.syntax.Instr.{Instr}
use Rattle.ir_types.specs.declared.syntax.Terminator.{Terminator}
use Rattle.ir_types.specs.declared.syntax.Block.{Block}
use Rattle.point_graph.specs.Graph.{Edge, Entry, Inside, Slot}
use Rattle.applied.specs.Applied.{edges_before, is_single}
use Rattle.applied_rules.proofs.Apart.{Each, Apart, each_by, each_append, apart_append}
use Rattle.applied_rules.proofs.Regions.{HereOnly, InText, InSplits, InBlock, FromBlock, here_then, text_more, text_then, text_block, splits_block, splits_more, block_then, block_from, from_more, edges_each, edges_apart, edges_at}

abbrev pub text_edges : ℕ → Block → ℕ → List Instr → List Edge
text_edges b block k [] = edges_before b k block
text_edges b block k (instr ∷ instrs) = edges_before b k block ++ text_edges b block (suc k) instrs

abbrev pub split_edges : ℕ → Bool → ℕ → List ℕ → List Edge
split_edges b single slot [] = []
split_edges b single slot (target ∷ rest) = (if single then [] else Slot b slot ∷ []) ++ split_edges b single (suc slot) rest

abbrev pub edges_of : ℕ → Block → List Edge
edges_of b block = text_edges b block 0 block.instrs ++ split_edges b (is_single block.term) 0 (targets block.term)

abbrev pub edges_from : ℕ → List Block → List Edge
edges_from b [] = []
edges_from b (block ∷ blocks) = edges_of b block ++ edges_from (suc b) blocks

by_region : (R R' : Edge → Type 0) → ((edge : Edge) → R edge → R' edge → ⊥) → (x y : Edge) → R x → R' y → x ≢ y
by_region R R' disjoint x y r r' e = disjoint y (subst R e r) r'

module _ (b : ℕ) (block : Block) where
  abbrev term : Terminator
  term = block.term

  place_in_text : (k : ℕ) → Each (InText term b k) (edges_before b k block)
  place_in_text k = edges_each (InText term b k) k b (slice_get block.instrs k) term (λ e e'. (e, e')) (refl, omega arith) (λ is. (refl, is))

  place_here : (k : ℕ) (instr : Instr) → slice_get block.instrs k ≡ Some instr → Each (HereOnly b k) (edges_before b k block)
  place_here k instr is =
      subst (λ found. Each (HereOnly b k) (edges_at b k found term)) (sym is) (at k b (λ e e'. (e, e')) (refl, refl))
    where
      at : (j c : ℕ) → (j ≡ 0 → c ≡ 0 → HereOnly b k Entry) → HereOnly b k (Inside c j) → Each (HereOnly b k) (edges_at c j (Some instr) term)
      at zero zero entry inside = (entry refl refl, (inside, tt))
      at zero (suc c) entry inside = (inside, tt)
      at (suc j) c entry inside = (inside, tt)

  text_in : (k : ℕ) (instrs : List Instr) → Each (InText term b k) (text_edges b block k instrs)
  text_in k [] = place_in_text k
  text_in k (instr ∷ instrs) =
      each_append (InText term b k) (edges_before b k block) (text_edges b block (suc k) instrs) (place_in_text k)
      (each_by (InText term b (suc k)) (InText term b k) (text_more term b k) (text_edges b block (suc k) instrs) (text_in (suc k) instrs))

  text_apart : (k : ℕ) (instrs : List Instr) → ((j : ℕ) → slice_get instrs j ≡ slice_get block.instrs (k + j)) → Apart (text_edges b block k instrs)
  text_apart k [] suffix = edges_apart k b (slice_get block.instrs k) term
  text_apart k (instr ∷ instrs) suffix =
      let z : k + 0 ≡ k = omega arith in
      let is : slice_get block.instrs k ≡ Some instr = sym (suffix 0 ∙ ap (slice_get block.instrs) z) in
      apart_append (HereOnly b k) (InText term b (suc k)) (by_region (HereOnly b k) (InText term b (suc k)) (here_then term b k))
      (edges_before b k block) (text_edges b block (suc k) instrs) (place_here k instr is) (text_in (suc k) instrs)
      (edges_apart k b (slice_get block.instrs k) term)
      (text_apart (suc k) instrs (λ j. let e : k + suc j ≡ suc k + j = omega arith in suffix (suc j) ∙ ap (slice_get block.instrs) e))

  splits_in : (single : Bool) → is_single term ≡ single → (slot : ℕ) (rest : List ℕ) → Each (InSplits term b slot) (split_edges b single slot rest)
  splits_in single is slot [] = tt
  splits_in true is slot (target ∷ rest) =
      each_by (InSplits term b (suc slot)) (InSplits term b slot) (splits_more term b slot) (split_edges b true (suc slot) rest) (splits_in true is (suc slot) rest)
  splits_in false is slot (target ∷ rest) =
      ((refl, omega arith, is), each_by (InSplits term b (suc slot)) (InSplits term b slot) (splits_more term b slot) (split_edges b false (suc slot) rest) (splits_in false is (suc slot) rest))

  later_slot : (slot : ℕ) (edge : Edge) → InSplits term b (suc slot) edge → Slot b slot ≢ edge
  later_slot slot Entry is e = is
  later_slot slot (Inside c j) is e = is
  later_slot slot (Slot c s) is e = let same : slot ≡ s = cc in omega (arith, same, is.1)

  splits_apart : (single : Bool) → is_single term ≡ single → (slot : ℕ) (rest : List ℕ) → Apart (split_edges b single slot rest)
  splits_apart single is slot [] = tt
  splits_apart true is slot (target ∷ rest) = splits_apart true is (suc slot) rest
  splits_apart false is slot (target ∷ rest) =
      (each_by (InSplits term b (suc slot)) (λ edge. Slot b slot ≢ edge) (later_slot slot) (split_edges b false (suc slot) rest) (splits_in false is (suc slot) rest), splits_apart false is (suc slot) rest)

  edges_in_block : Each (InBlock b) (edges_of b block)
  edges_in_block =
      each_append (InBlock b) (text_edges b block 0 block.instrs) (split_edges b (is_single term) 0 (targets term))
      (each_by (InText term b 0) (InBlock b) (text_block term b) (text_edges b block 0 block.instrs) (text_in 0 block.instrs))
      (each_by (InSplits term b 0) (InBlock b) (splits_block term b 0) (split_edges b (is_single term) 0 (targets term)) (splits_in (is_single term) refl 0 (targets term)))

  edges_of_apart : Apart (edges_of b block)
  edges_of_apart =
      apart_append (InText term b 0) (InSplits term b 0) (by_region (InText term b 0) (InSplits term b 0) (text_then term b))
      (text_edges b block 0 block.instrs) (split_edges b (is_single term) 0 (targets term)) (text_in 0 block.instrs) (splits_in (is_single term) refl 0 (targets term))
      (text_apart 0 block.instrs (λ j. let e : j ≡ 0 + j = omega arith in ap (slice_get block.instrs) e)) (splits_apart (is_single term) refl 0 (targets term))

edges_in : (b : ℕ) (blocks : List Block) → Each (FromBlock b) (edges_from b blocks)
edges_in b [] = tt
edges_in b (block ∷ blocks) =
    each_append (FromBlock b) (edges_of b block) (edges_from (suc b) blocks)
    (each_by (InBlock b) (FromBlock b) (block_from b) (edges_of b block) (edges_in_block b block))
    (each_by (FromBlock (suc b)) (FromBlock b) (from_more b) (edges_from (suc b) blocks) (edges_in (suc b) blocks))

pub edges_from_apart : (b : ℕ) (blocks : List Block) → Apart (edges_from b blocks)
edges_from_apart b [] = tt
edges_from_apart b (block ∷ blocks) =
    apart_append (InBlock b) (FromBlock (suc b)) (by_region (InBlock b) (FromBlock (suc b)) (block_then b))
    (edges_of b block) (edges_from (suc b) blocks) (edges_in_block b block) (edges_in (suc b) blocks) (edges_of_apart b block) (edges_from_apart (suc b) blocks)
