-- The slots of a function, each with its count.
use Rattle.std.proofs.Common.{◌≡◌, ℕ, suc, ◌+◌, List, [], ◌∷◌, ◌++◌, length, map, Some, refl, sym, ap, ◌∙◌, arith, length-append}
use Rattle.std.specs.Prelude.{slice_get}
use Rattle.std.specs.List.{zip, range_with_len}
use Rattle.std.proofs.lemmas.List.FromFn.{length-range_with_len}
use Rattle.ir_types.specs.Limits.{slot_count}
use Rattle.ir_types.specs.declared.syntax.Terminator.{Terminator}
use Rattle.ir_types.specs.declared.syntax.Terminator.TheVariants.{Return, Jump, Branch, Switch, Unreachable}
use Rattle.ir_types.specs.declared.syntax.Block.{Block}
use Rattle.flow_graph.specs.Slots.{slots_of, slots_from}
use Rattle.run_counts.proofs.Splits.{map-append, length-map}
use Rattle.run_counts.proofs.Keys.{keys_of, keys_from}

pub slot_count_is : (term : Terminator) → slot_count term ≡ length (slots_of term)
slot_count_is (Return value) = refl
slot_count_is (Jump target) = refl
slot_count_is (Branch condition one other) = refl
slot_count_is (Switch width value other cases) = let n = length-map (λ (c : ℕ × ℕ). c.1) cases in omega (arith, n)
slot_count_is Unreachable = refl

zip-append : {A B : Type 0} (xs ys : List A) (zs ws : List B) → length xs ≡ length zs → zip (xs ++ ys) (zs ++ ws) ≡ zip xs zs ++ zip ys ws
zip-append [] ys [] ws e = refl
zip-append [] ys (z ∷ zs) ws e = cc
zip-append (x ∷ xs) ys [] ws e = cc
zip-append (x ∷ xs) ys (z ∷ zs) ws e = ap (λ l. (x, z) ∷ l) (zip-append xs ys zs ws (omega (arith, e)))

module _ (target : ℕ → ℕ → ℕ) (count : ℕ × ℕ → ℕ) where
  -- a slot with its count
  abbrev pub exit : ℕ × ℕ → (ℕ × ℕ) × ℕ
  exit k = ((k.0, target k.0 k.1), count k)

  block_exits : (i from : ℕ) (ts : List ℕ) → ((s t : ℕ) → slice_get ts s ≡ Some t → target i (from + s) ≡ t) → zip (map (λ t. (i, t)) ts) (map count (keys_of i from (length ts))) ≡ map exit (keys_of i from (length ts))
  block_exits i from [] leads = refl
  block_exits i from (t ∷ ts) leads =
      let e : from + 0 ≡ from = omega arith in
      let here : target i from ≡ t = ap (target i) (sym e) ∙ leads 0 t refl in
      let rest = block_exits i (from + 1) ts (λ s u there. let f : (from + 1) + s ≡ from + suc s = omega arith in ap (target i) f ∙ leads (suc s) u there) in
      ap (λ u. ((i, u), count (i, from)) ∷ zip (map (λ t. (i, t)) ts) (map count (keys_of i (from + 1) (length ts)))) (sym here)
      ∙ ap (λ l. exit (i, from) ∷ l) rest

  pub exits_from : (i : ℕ) (blocks : List Block) → ((j s t : ℕ) (block : Block) → slice_get blocks j ≡ Some block → slice_get (slots_of block.term) s ≡ Some t → target (i + j) s ≡ t) → zip (slots_from i blocks) (map count (keys_from i blocks)) ≡ map exit (keys_from i blocks)
  exits_from i [] leads = refl
  exits_from i (b ∷ blocks) leads =
      let ts = slots_of b.term in
      let n : slot_count b.term ≡ length ts = slot_count_is b.term in
      let own = map (λ t. (i, t)) ts in
      let keys = keys_of i 0 (length ts) in
      let later = keys_from (i + 1) blocks in
      let len : length own ≡ length (map count keys) =
      length-map (λ t. (i, t)) ts ∙ sym (length-map count keys ∙ length-map (λ s. (i, s)) (range_with_len 0 (length ts)) ∙ length-range_with_len 0 (length ts))
      in
      let here = block_exits i 0 ts (λ s t there.
      let z : 0 + s ≡ s = omega arith in
      let w : i + 0 ≡ i = omega arith in
      ap (target i) z ∙ ap (λ k. target k s) (sym w) ∙ leads 0 s t b refl there) in
      let rest = exits_from (i + 1) blocks (λ j s t block there slot. let f : (i + 1) + j ≡ i + suc j = omega arith in ap (λ k. target k s) f ∙ leads (suc j) s t block there slot) in
      ap (λ k. zip (own ++ slots_from (i + 1) blocks) (map count (keys_of i 0 k ++ later))) n
      ∙ ap (zip (own ++ slots_from (i + 1) blocks)) (map-append count keys later)
      ∙ zip-append own (slots_from (i + 1) blocks) (map count keys) (map count later) len
      ∙ ap (λ l. l ++ zip (slots_from (i + 1) blocks) (map count later)) here
      ∙ ap (λ l. map exit keys ++ l) rest
      ∙ sym (map-append exit keys later)
      ∙ ap (λ k. map exit (keys_of i 0 k ++ later)) (sym n)

-- there is one slot for each key
pub length-keys_from : (i : ℕ) (blocks : List Block) → length (keys_from i blocks) ≡ length (slots_from i blocks)
length-keys_from i [] = refl
length-keys_from i (b ∷ blocks) =
    let n = slot_count_is b.term in
    let keys = keys_of i 0 (slot_count b.term) in
    let a : length keys ≡ slot_count b.term = length-map (λ s. (i, s)) (range_with_len 0 (slot_count b.term)) ∙ length-range_with_len 0 (slot_count b.term) in
    let own = map (λ t. (i, t)) (slots_of b.term) in
    let c : length own ≡ length (slots_of b.term) = length-map (λ t. (i, t)) (slots_of b.term) in
    let d = length-append keys (keys_from (i + 1) blocks) in
    let e = length-append own (slots_from (i + 1) blocks) in
    let f = length-keys_from (i + 1) blocks in
    omega (arith, n, a, c, d, e, f)
