-- Where the slots of a block stand among those of all.
use Rattle.std.proofs.Common.{◌≡◌, ◌<◌, ◌≤◌, ◌+◌, ℕ, zero, suc, List, [], ◌∷◌, ◌++◌, Some, length, take, drop, get_or, slice_get, refl, sym, ap, ◌∙◌, subst, arith, inl, inr}
use Rattle.std.specs.Option.{option_map_or}
use Rattle.std.proofs.Math.Seq.{get_or-append_seam}
use Rattle.std.proofs.lemmas.List.{take_more, get_or_append_left, get_or_default, get_or-drop, get_or-take, length_push, length-drop, length-take-le}
use Rattle.std.proofs.lemmas.Bool.{cases_lt}
use Rattle.std.proofs.lemmas.Option.{get_or_from_slice_get, slice_get-get_or, slice_get_within}
use Rattle.ir_types.specs.declared.syntax.Block.{Block}
use Rattle.ir_types.specs.declared.syntax.Function.{Function}
use Rattle.flow_graph.specs.Slots.{slots_of, slots_from}
use Rattle.profile.specs.declared.counts.FnCounts.{FnCounts}
use Rattle.profile.specs.Counts.{HasSlots}
use Rattle.profile.specs.Text.{width}
use Rattle.profile.proofs.Widths.{slots_cons, slots_push}
use Rattle.block_counts.specs.Counts.{targets_of, slots_before, slot_counts}

-- the first blocks have no more slots than all
front_le : (b n : ℕ) (blocks : List Block) → length (slots_from b (take n blocks)) ≤ length (slots_from b blocks)
front_le b zero blocks = omega arith
front_le b (suc n) [] = omega arith
front_le b (suc n) (x ∷ blocks) = omega (arith, slots_cons b x (take n blocks), slots_cons b x blocks, front_le (b + 1) n blocks)

module _ (blocks : List Block) (i : ℕ) (x : Block) (inside : i < length blocks) (read : x ≡ get_or blocks i x) where
  pub width_more : length (slots_from 0 (take (i + 1) blocks)) ≡ length (slots_from 0 (take i blocks)) + width x
  width_more = ap (λ l. length (slots_from 0 l)) (take_more blocks i x inside ∙ ap (λ y. take i blocks ++ y ∷ []) (sym read)) ∙ slots_push 0 (take i blocks) x

  pub width_fits : length (slots_from 0 (take i blocks)) + width x ≤ length (slots_from 0 blocks)
  width_fits = omega (arith, width_more, front_le 0 (i + 1) blocks)

-- how many slots the blocks before each of the first i have, and before block i
pub record AreBegins (blocks : List Block) (i : ℕ) (begins : List ℕ) (next : ℕ) : Type 0 where
  pub len : length begins ≡ i
  pub are : (b : ℕ) → b < i → get_or begins b 0 ≡ length (slots_from 0 (take b blocks))
  pub next_is : next ≡ length (slots_from 0 (take i blocks))

pub no_begins : (blocks : List Block) (begins : List ℕ) → begins ≡ [] → AreBegins blocks 0 begins 0
no_begins blocks begins e = record { len = ap length e; are = λ b lt. absurd (omega (arith, lt)); next_is = refl }

pub one_begins : (blocks : List Block) (i : ℕ) (x : Block) (begins new : List ℕ) (next w : ℕ) → i < length blocks → x ≡ get_or blocks i x → w ≡ width x → new ≡ begins ++ next ∷ [] → AreBegins blocks i begins next → AreBegins blocks (i + 1) new (next + w)
one_begins blocks i x begins new next w inside read wide grown s = record {
  len = ap length grown ∙ length_push begins next ∙ (let n = s.len in omega arith);
  are = λ b lt. elim (cases_lt b i) [
    | inl before ↦ (let n = s.len in ap (λ l. get_or l b 0) grown ∙ get_or_append_left begins (next ∷ []) 0 b (omega (arith, before, n)) ∙ s.are b before)
    | inr after ↦ (let here : b ≡ i = omega (arith, lt, after) in
        ap (λ l. get_or l b 0) grown ∙ ap (λ k. get_or (begins ++ next ∷ []) k 0) (here ∙ sym s.len) ∙ get_or-append_seam begins next [] 0 ∙ s.next_is ∙ ap (λ k. length (slots_from 0 (take k blocks))) (sym here))
  ];
  next_is = let n = s.next_is in let m = width_more blocks i x inside read in omega (arith, n, m, wide);
}

pub all_begin : (blocks : List Block) (i : ℕ) (begins : List ℕ) (next : ℕ) → i ≡ length blocks → AreBegins blocks i begins next → AreBegins blocks (length blocks) begins next
all_begin blocks i begins next e s = subst (λ k. AreBegins blocks k begins next) e s

-- the slots of a block of a function
pub targets_there : (f : Function) (b : ℕ) (x : Block) → slice_get f.blocks b ≡ Some x → targets_of f b ≡ slots_of x.term
targets_there f b x there = ap (λ o. option_map_or (λ (y : Block). slots_of y.term) o []) there

-- a number that was read from a list
pub read_at : (xs : List ℕ) (i n : ℕ) → i < length xs → n ≡ get_or xs i n → n ≡ get_or xs i 0
read_at xs i n inside e = e ∙ get_or_default xs i n 0 inside

-- the part of the counts that belongs to a block
pub own_counts : (f : Function) (c : FnCounts) (b begin count : ℕ) (x : Block) (slots rest own : List ℕ) → b < length f.blocks → x ≡ get_or f.blocks b x → begin ≡ slots_before f b → count ≡ width x → slots ≡ c.slots → rest ≡ drop begin slots → own ≡ take count rest
    → own ≡ slot_counts f c b
own_counts f c b begin count x slots rest own inside read at wide s r o =
    let there : slice_get f.blocks b ≡ Some x = slice_get-get_or f.blocks b x inside ∙ ap (λ y. Some y) (sym read) in
    o ∙ ap (λ n. take n rest) (wide ∙ ap length (sym (targets_there f b x there))) ∙ ap (take (length (targets_of f b))) (r ∙ ap (drop begin) s ∙ ap (λ n. drop n c.slots) at)

module _ (f : Function) (c : FnCounts) (has : HasSlots f c) (b : ℕ) (x : Block) (there : slice_get f.blocks b ≡ Some x) where
  -- each slot of a block has its count
  pub counts_len : length (slot_counts f c b) ≡ length (targets_of f b)
  counts_len =
      let inside = slice_get_within f.blocks b x there in
      let fits = width_fits f.blocks b x inside (sym (get_or_from_slice_get f.blocks b x x there)) in
      let wide = ap length (targets_there f b x there) in
      length-take-le (length (targets_of f b)) (drop (slots_before f b) c.slots) (omega (arith, fits, wide, has, length-drop (slots_before f b) c.slots))

  pub count_at : (k : ℕ) → k < length (targets_of f b) → get_or (slot_counts f c b) k 0 ≡ get_or c.slots (slots_before f b + k) 0
  count_at k lt = get_or-take (length (targets_of f b)) (drop (slots_before f b) c.slots) k 0 lt ∙ get_or-drop (slots_before f b) c.slots k 0
