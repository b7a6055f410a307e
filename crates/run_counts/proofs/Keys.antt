-- The slots of a function by their numbers, and where each stands.
use Rattle.std.proofs.Common.{◌≡◌, ℕ, zero, suc, ◌+◌, ◌<◌, Bool, true, false, eqb, eq-eqb, List, [], ◌∷◌, ◌++◌, length, map, take, Some, refl, sym, ap, ◌∙◌, subst, arith}
use Rattle.std.specs.Prelude.{sum_by, slice_get, ◌==◌, ◌&&◌}
use Rattle.std.specs.List.{range_with_len}
use Rattle.std.proofs.lemmas.Bool.{eqb-true, false_from_ne_true}
use Rattle.std.proofs.lemmas.List.Sums.{sum_by-cons}
use Rattle.std.proofs.lemmas.List.FromFn.{length-range_with_len}
use Rattle.ir_types.specs.Limits.{slot_count}
use Rattle.ir_types.specs.declared.syntax.Block.{Block}
use Rattle.run_counts.proofs.Runs.{Every}
use Rattle.run_counts.proofs.Splits.{Split, split_before, split_behind, every_append, length-map}

abbrev pub keys_of : ℕ → ℕ → ℕ → List (ℕ × ℕ)
keys_of block from n = map (λ s. (block, s)) (range_with_len from n)

abbrev pub keys_from : ℕ → List Block → List (ℕ × ℕ)
keys_from i [] = []
keys_from i (b ∷ bs) = keys_of i 0 (slot_count b.term) ++ keys_from (i + 1) bs

-- the key of a slot
abbrev pub is_key : ℕ → ℕ → ℕ × ℕ → Bool
is_key block slot key = (block == key.0) && (slot == key.1)

abbrev pub slots_before : List Block → ℕ → ℕ
slots_before blocks n = sum_by (λ b. slot_count b.term) (take n blocks)

pub ne_eqb : (a b : ℕ) → (a ≡ b → ⊥) → eqb a b ≡ false
ne_eqb a b ne = false_from_ne_true (eqb a b) (λ t. ne (eqb-true a b t))

false_left : (a b : Bool) → a ≡ false → (a && b) ≡ false
false_left a b e = ap (λ a. a && b) e

false_right : (a b : Bool) → b ≡ false → (a && b) ≡ false
false_right true b e = e
false_right false b e = refl

true_both : (a b : Bool) → a ≡ true → b ≡ true → (a && b) ≡ true
true_both a b e f = ap (λ a. a && b) e ∙ f

pub key_true : (b s : ℕ) → is_key b s (b, s) ≡ true
key_true b s = true_both (eqb b b) (eqb s s) (eq-eqb b b refl) (eq-eqb s s refl)

-- a block's slots, from one that is past the slot
later_slots : (block slot from n : ℕ) → slot < from → Every (λ k. is_key block slot k ≡ false) (keys_of block from n)
later_slots block slot from zero lt = tt
later_slots block slot from (suc n) lt = (
  false_right (eqb block block) (eqb slot from) (ne_eqb slot from (λ e. absurd (omega arith))),
  later_slots block slot (from + 1) n (omega arith),
)

-- the slots of another block
other_block : (block slot other from n : ℕ) → (block ≡ other → ⊥) → Every (λ k. is_key block slot k ≡ false) (keys_of other from n)
other_block block slot other from zero ne = tt
other_block block slot other from (suc n) ne = (
  false_left (eqb block other) (eqb slot from) (ne_eqb block other ne),
  other_block block slot other (from + 1) n ne,
)

later_blocks : (block slot from : ℕ) (blocks : List Block) → block < from → Every (λ k. is_key block slot k ≡ false) (keys_from from blocks)
later_blocks block slot from [] lt = tt
later_blocks block slot from (b ∷ blocks) lt =
    every_append (is_key block slot) _ (keys_of from 0 (slot_count b.term)) (keys_from (from + 1) blocks)
    (other_block block slot from 0 (slot_count b.term) (λ e. absurd (omega arith)))
    (later_blocks block slot (from + 1) blocks (omega arith))

slot_splits : (block from n s : ℕ) → s < n → Split (is_key block (from + s)) (keys_of block from n) s (block, from + s)
slot_splits block from zero s lt = absurd (omega arith)
slot_splits block from (suc n) zero lt =
    let e : from + 0 ≡ from = omega arith in
    subst (λ k. Split (is_key block k) (keys_of block from (suc n)) 0 (block, k)) (sym e)
    (record {
      front = [];
      back = keys_of block (from + 1) n;
      is = refl;
      place = refl;
      passes = key_true block from;
      front_fails = tt;
      back_fails = later_slots block from (from + 1) n (omega arith);
    })
slot_splits block from (suc n) (suc s) lt =
    let e : (from + 1) + s ≡ from + suc s = omega arith in
    let f : 1 + s ≡ suc s = omega arith in
    let a = slot_splits block (from + 1) n s (omega arith) in
    let b = subst (λ k. Split (is_key block k) (keys_of block (from + 1) n) s (block, k)) e a in
    let c = split_before (is_key block (from + suc s)) ((block, from) ∷ []) (keys_of block (from + 1) n) s (block, from + suc s)
    (false_right (eqb block block) (eqb (from + suc s) from) (ne_eqb (from + suc s) from (λ e. absurd (omega arith))), tt) b in
    subst (λ at. Split (is_key block (from + suc s)) (keys_of block from (suc n)) at (block, from + suc s)) f c

-- a slot of the j-th block stands behind the slots of the blocks before it
pub key_splits : (i : ℕ) (blocks : List Block) (j s : ℕ) (block : Block) → slice_get blocks j ≡ Some block → s < slot_count block.term → Split (is_key (i + j) s) (keys_from i blocks) (slots_before blocks j + s) (i + j, s)
key_splits i [] j s block there lt = cc
key_splits i (b ∷ blocks) zero s block there lt =
    let e : i + 0 ≡ i = omega arith in
    let same : b ≡ block = cc in
    let z : 0 + s ≡ s = omega arith in
    let n = slot_count b.term in
    let lt' : s < n = subst (λ b. s < slot_count b.term) (sym same) lt in
    let a = slot_splits i 0 n s lt' in
    let b' = subst (λ k. Split (is_key i k) (keys_of i 0 n) s (i, k)) z a in
    let c = split_behind (is_key i s) (keys_of i 0 n) (keys_from (i + 1) blocks) s (i, s) (later_blocks i s (i + 1) blocks (omega arith)) b' in
    let d = subst (λ at. Split (is_key i s) (keys_from i (b ∷ blocks)) at (i, s)) (sym z) c in
    subst (λ k. Split (is_key k s) (keys_from i (b ∷ blocks)) (0 + s) (k, s)) (sym e) d
key_splits i (b ∷ blocks) (suc j) s block there lt =
    let n = slot_count b.term in
    let e : (i + 1) + j ≡ i + suc j = omega arith in
    let a = key_splits (i + 1) blocks j s block there lt in
    let a' = subst (λ k. Split (is_key k s) (keys_from (i + 1) blocks) (slots_before blocks j + s) (k, s)) e a in
    let c = split_before (is_key (i + suc j) s) (keys_of i 0 n) (keys_from (i + 1) blocks) (slots_before blocks j + s) (i + suc j, s)
    (other_block (i + suc j) s i 0 n (λ e. absurd (omega arith))) a' in
    let len : length (keys_of i 0 n) ≡ n = length-map (λ s. (i, s)) (range_with_len 0 n) ∙ length-range_with_len 0 n in
    let sum : slots_before (b ∷ blocks) (suc j) ≡ slot_count b.term + slots_before blocks j = sum_by-cons (λ b. slot_count b.term) b (take j blocks) in
    let f : length (keys_of i 0 n) + (slots_before blocks j + s) ≡ slots_before (b ∷ blocks) (suc j) + s = omega (arith, len, sum) in
    subst (λ at. Split (is_key (i + suc j) s) (keys_from i (b ∷ blocks)) at (i + suc j, s)) f c
