-- Sums of weights, and where the counts of a block's slots begin.
use Rattle.std.proofs.Common.{◌≡◌, ◌<◌, ◌≤◌, ◌+◌, ◌*◌, ◌^◌, ℕ, zero, suc, Bool, List, [], ◌∷◌, ◌++◌, Some, length, take, drop, get_or, slice_get, sum_by, refl, sym, ap, ◌∙◌, subst, arith}
use Rattle.std.specs.List.Sorted.{IsStrictlyIncreasing}
use Rattle.std.specs.Option.{option_map_or}
use Rattle.std.proofs.lemmas.List.{take_more, take_all, drop_more, drop-drop, get_or-drop, get_or_past}
use Rattle.std.proofs.lemmas.List.Sums.{sum_by_push}
use Rattle.ir_types.specs.declared.syntax.Block.{Block}
use Rattle.ir_types.specs.declared.syntax.Function.{Function}
use Rattle.flow_graph.specs.Slots.{slots_from}
use Rattle.flow_graph.specs.Paths.{AreReached}
use Rattle.profile.specs.declared.counts.FnCounts.{FnCounts}
use Rattle.profile.specs.Counts.{HasSlots}
use Rattle.profile.specs.Text.{width}
use Rattle.profile.proofs.Widths.{slots_push}
use Rattle.profile.proofs.Summed.{rest_len}
use Rattle.placement.specs.Costs.{slot_count}

-- ---- the counts of a slot

-- the counts of the slots of block i and of those behind it are left
pub record AtBlock (f : Function) (c : FnCounts) (b : ℕ) (blocks : List Block) (rest : List ℕ) (i : ℕ) : Type 0 where
  pub same : blocks ≡ f.blocks
  pub is : rest ≡ drop (length (slots_from 0 (take i f.blocks))) c.slots
  pub len : length rest ≡ length (slots_from i (drop i blocks))
  pub before : i ≤ b

pub AtBlock-start : (f : Function) (c : FnCounts) (b : ℕ) (blocks : List Block) (rest : List ℕ) → blocks ≡ f.blocks → rest ≡ c.slots → HasSlots f c → AtBlock f c b blocks rest 0
AtBlock-start f c b blocks rest same is has = record { same = same; is = is; len = ap length is ∙ has ∙ ap (λ l. length (slots_from 0 l)) (sym same); before = omega arith }

-- the blocks that are left begin with this one
here : (blocks : List Block) (i : ℕ) (x : Block) → i < length blocks → x ≡ get_or blocks i x → drop i blocks ≡ x ∷ drop (i + 1) blocks
here blocks i x lt is = drop_more blocks i x lt ∙ ap (λ y. y ∷ drop (i + 1) blocks) (sym is)

module _ (f : Function) (c : FnCounts) (b : ℕ) (blocks : List Block) (rest : List ℕ) (i : ℕ) (x : Block) (lt : i < length blocks) (read : x ≡ get_or blocks i x) (at : AtBlock f c b blocks rest i) where
  lens : (width x ≤ length rest) × (length (drop (width x) rest) ≡ length (slots_from (i + 1) (drop (i + 1) blocks)))
  lens = rest_len i x (drop (i + 1) blocks) rest (at.len ∙ ap (λ l. length (slots_from i l)) (here blocks i x lt read))

  pub front_there : width x ≤ length rest
  front_there = lens.0

  -- one block more is passed
  pub AtBlock-more : (later : List ℕ) → later ≡ drop (width x) rest → ¬ (i ≡ b) → AtBlock f c b blocks later (i + 1)
  AtBlock-more later l other =
      let more : take (i + 1) f.blocks ≡ take i f.blocks ++ x ∷ [] = subst (λ xs. take (i + 1) xs ≡ take i xs ++ x ∷ []) at.same (take_more blocks i x lt ∙ ap (λ y. take i blocks ++ y ∷ []) (sym read)) in
      let n = length (slots_from 0 (take i f.blocks)) in
      let grown : length (slots_from 0 (take (i + 1) f.blocks)) ≡ length (slots_from 0 (take i f.blocks)) + width x = ap (λ xs. length (slots_from 0 xs)) more ∙ slots_push 0 (take i f.blocks) x in
      let le : i ≤ b = at.before in
      record {
        same = at.same;
        is = l ∙ ap (λ r. drop (width x) r) at.is ∙ drop-drop (width x) n c.slots ∙ ap (λ k. drop k c.slots) (sym grown);
        len = ap length l ∙ lens.1;
        before = omega (arith, le, other);
      }

-- the count stands where its block's counts begin
pub AtBlock-here : (f : Function) (c : FnCounts) (b slot : ℕ) (blocks : List Block) (rest : List ℕ) (i : ℕ) → i ≡ b → AtBlock f c b blocks rest i → get_or rest slot 0 ≡ slot_count f c b slot
AtBlock-here f c b slot blocks rest i same at =
    ap (λ r. get_or r slot 0) at.is
    ∙ get_or-drop (length (slots_from 0 (take i f.blocks))) c.slots slot 0
    ∙ ap (λ k. get_or c.slots (length (slots_from 0 (take k f.blocks)) + slot) 0) same

-- there is no such block
pub AtBlock-past : (f : Function) (c : FnCounts) (b slot : ℕ) (blocks : List Block) (rest : List ℕ) (i : ℕ) → length blocks ≤ i → HasSlots f c → AtBlock f c b blocks rest i → 0 ≡ slot_count f c b slot
AtBlock-past f c b slot blocks rest i past has at =
    let many : length f.blocks ≤ b = let le : i ≤ b = at.before in omega (arith, ap length at.same, past, le) in
    let all : take b f.blocks ≡ f.blocks = take_all b f.blocks many in
    let end : length c.slots ≤ length (slots_from 0 (take b f.blocks)) + slot = omega (arith, has, ap (λ xs. length (slots_from 0 xs)) all) in
    sym (get_or_past c.slots (length (slots_from 0 (take b f.blocks)) + slot) 0 end)

-- ---- sums

-- a number of an ascending list is at least its index
pub index_le : (xs : List ℕ) → IsStrictlyIncreasing xs → (i : ℕ) → i < length xs → i ≤ get_or xs i 0
index_le xs up zero h = omega arith
index_le xs up (suc i) h =
    let before : i ≤ get_or xs i 0 = index_le xs up i (omega (arith, h)) in
    let step : get_or xs i 0 < get_or xs (i + 1) 0 = up i (omega (arith, h)) in
    let same : i + 1 ≡ suc i = omega arith in
    subst (λ k. k ≤ get_or xs k 0) same (omega (arith, before, step))

-- what the item of this number has
pub told_of : {X : Type 0} (g : X → ℕ) (xs : List X) (k : ℕ) (x : X) → slice_get xs k ≡ Some x → option_map_or g (slice_get xs k) 0 ≡ g x
told_of g xs k x there = ap (λ o. option_map_or g o 0) there

-- the sum of the first i of the numbers, of which each has at most 2 ^ 84
pub record Weighing (f : Function) (g : (ℕ → Bool) → ℕ → ℕ) (numbers : List ℕ) (cost i : ℕ) : Type 0 where
  pub sum : (reached : ℕ → Bool) → AreReached f reached → cost ≡ sum_by (g reached) (take i numbers)
  pub small : cost ≤ i * 2 ^ 84
  pub few : i ≤ 2 ^ 32

pub Weighing-start : (f : Function) (g : (ℕ → Bool) → ℕ → ℕ) (numbers : List ℕ) → Weighing f g numbers 0 0
Weighing-start f g numbers = record { sum = λ reached told. refl; small = omega arith; few = omega arith }

pub Weighing-more : (f : Function) (g : (ℕ → Bool) → ℕ → ℕ) (numbers : List ℕ) (cost i w : ℕ) → IsStrictlyIncreasing numbers → i < length numbers → get_or numbers i 0 < 2 ^ 32 → w ≤ 2 ^ 84 → ((reached : ℕ → Bool) → AreReached f reached → w ≡ g reached (get_or numbers i 0)) → Weighing f g numbers cost i → Weighing f g numbers (cost + w) (i + 1)
Weighing-more f g numbers cost i w up lt range light is s =
    let le : i ≤ get_or numbers i 0 = index_le numbers up i lt in
    let small : cost ≤ i * 2 ^ 84 = s.small in
    record {
      sum = λ reached told. ap (λ n. n + w) (s.sum reached told) ∙ ap (λ n. sum_by (g reached) (take i numbers) + n) (is reached told)
          ∙ sym (ap (sum_by (g reached)) (take_more numbers i 0 lt) ∙ sum_by_push (g reached) (take i numbers) (get_or numbers i 0));
      small = omega (arith, small, light);
      few = omega (arith, le, range);
    }

pub Weighing-end : (f : Function) (g : (ℕ → Bool) → ℕ → ℕ) (numbers : List ℕ) (cost i : ℕ) → length numbers ≤ i → Weighing f g numbers cost i → (reached : ℕ → Bool) → AreReached f reached → cost ≡ sum_by (g reached) numbers
Weighing-end f g numbers cost i past s reached told = s.sum reached told ∙ ap (sum_by (g reached)) (take_all i numbers past)

pub Weighing-small : (f : Function) (g : (ℕ → Bool) → ℕ → ℕ) (numbers : List ℕ) (cost i : ℕ) → Weighing f g numbers cost i → cost < 2 ^ 117
Weighing-small f g numbers cost i s = omega (arith, s.small, s.few)
