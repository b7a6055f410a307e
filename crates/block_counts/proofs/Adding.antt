-- What enters blocks, while the counts of slots are added block by block.
use Rattle.std.proofs.Common.{◌≡◌, ◌<◌, ◌≤◌, ◌+◌, ◌^◌, ◌==◌, cond, ℕ, zero, Bool, List, ◌++◌, Some, All, length, take, drop, get_or, set, replicate, slice_get, sum, refl, sym, ap, ◌∙◌, subst, arith, ⊎_elim}
use Rattle.std.proofs.lemmas.Bool.{cases_eq}
use Rattle.std.proofs.lemmas.Bool.Decides.{nat_tests}
use Rattle.std.proofs.lemmas.List.{append-nil, drop_all, take_all, get_or-replicate, length-replicate, get_or-set_same, get_or-set_other, length-set}
use Rattle.std.proofs.lemmas.List.Elements.{All-get_or, All-weaker}
use Rattle.std.proofs.lemmas.List.Sums.{sum_by-take-drop}
use Rattle.std.proofs.lemmas.Option.{get_or_from_slice_get, slice_get_within}
use Rattle.ir_types.specs.declared.syntax.Block.{Block}
use Rattle.ir_types.specs.declared.syntax.Function.{Function}
use Rattle.flow_graph.specs.Slots.{slots_of}
use Rattle.flow_graph.specs.Paths.{AreReached}
use Rattle.point_graph.specs.Numbers.{KeepsRules}
use Rattle.profile.specs.declared.counts.FnCounts.{FnCounts}
use Rattle.profile.specs.Counts.{HasSlots, IsUnreachedZero, entering, total}
use Rattle.profile.specs.Sums.{into}
use Rattle.profile.specs.Text.{width}
use Rattle.profile.proofs.Summed.{into_more, sum_left, some_of}
use Rattle.profile.proofs.Balancing.{CountingBlocks, counting_start, counting_blocks, counting_end, front_fits}

-- what was written to all elements of a vector
pub written_back : (items new : List ℕ) (len : ℕ) → len ≡ length items → length new ≡ length items → take len (new ++ drop (length new) items) ≡ new
written_back items new len n m =
    ap (λ l. take len (new ++ l)) (drop_all (length new) items (omega (arith, m))) ∙ ap (take len) (append-nil new) ∙ take_all len new (omega (arith, n, m))

-- ---- one count more

here : (t b n : ℕ) → t ≡ b → cond (t == b) n 0 ≡ n
here t b n e = grind (arith, nat_tests)

elsewhere : (t b n : ℕ) → (t ≡ b → ⊥) → cond (t == b) n 0 ≡ 0
elsewhere t b n e = grind (arith, nat_tests)

pub set_more : (sums : List ℕ) (t n b : ℕ) → t < length sums → get_or (set sums t (get_or sums t 0 + n)) b 0 ≡ get_or sums b 0 + cond (t == b) n 0
set_more sums t n b inside =
    ⊎_elim
    (λ (same : t ≡ b). let z = here t b n same in
    ap (λ k. get_or (set sums t (get_or sums t 0 + n)) k 0) (sym same) ∙ get_or-set_same sums t (get_or sums t 0 + n) 0 inside ∙ ap (λ k. get_or sums k 0 + n) same ∙ (let q : get_or sums b 0 + n ≡ get_or sums b 0 + cond (t == b) n 0 = omega (arith, z) in q))
    (λ (other : t ≡ b → ⊥). let z = elsewhere t b n other in
    get_or-set_other sums t b (get_or sums t 0 + n) 0 (λ e. other (sym e)) ∙ (let q : get_or sums b 0 ≡ get_or sums b 0 + cond (t == b) n 0 = omega (arith, z) in q))
    (cases_eq t b)

-- ---- the slots of a terminator

-- the counts of the first i slots are added
pub record AddingSlots (ts cs start sums : List ℕ) (i : ℕ) : Type 0 where
  pub len : length sums ≡ length start
  pub is : (b : ℕ) → b < length start → get_or sums b 0 ≡ get_or start b 0 + into b (take i ts) (take i cs)
  pub room : (b : ℕ) → b < length start → get_or sums b 0 + sum (drop i cs) < 2 ^ 64

pub no_slots : (ts cs start : List ℕ) → ((b : ℕ) → b < length start → get_or start b 0 + sum cs < 2 ^ 64) → AddingSlots ts cs start start 0
no_slots ts cs start room = record { len = refl; is = λ b lt. omega arith; room = room }

pub slot_target : (ts : List ℕ) (n i t : ℕ) → slice_get ts i ≡ Some t → All (λ u. u < n) ts → t < n
slot_target ts n i t there all = subst (λ u. u < n) (get_or_from_slice_get ts i t t there) (All-get_or (λ u. u < n) ts i t (slice_get_within ts i t there) all)

module _ (ts cs start sums : List ℕ) (i t n : ℕ) (there : slice_get ts i ≡ Some t) (inside : i < length cs) (read : n ≡ get_or cs i n) (target : t < length start) (s : AddingSlots ts cs start sums i) where
  pub slot_fits : get_or sums t 0 + n < 2 ^ 64
  slot_fits = let r = s.room t target in omega (arith, r, sum_left cs i n inside read)

  pub one_slot : (new : List ℕ) → new ≡ set sums t (get_or sums t 0 + n) → AddingSlots ts cs start new (i + 1)
  one_slot new e =
      let in_sums : t < length sums = let l = s.len in omega (arith, target, l) in
      let change : (b : ℕ) → get_or new b 0 ≡ get_or sums b 0 + cond (t == b) n 0 = λ b. ap (λ l. get_or l b 0) e ∙ set_more sums t n b in_sums in
      record {
        len = ap length e ∙ length-set sums t (get_or sums t 0 + n) ∙ s.len;
        is = λ b lt. (let old = s.is b lt in let step = change b in omega (arith, old, step, into_more b ts cs i t n there inside read));
        room = λ b lt. (let before = s.room b lt in let step = change b in omega (arith, before, step, sum_left cs i n inside read, some_of (t == b) n));
      }

-- ---- the blocks of a function

-- the counts of the slots of the first i blocks are added
pub record Entering (f : Function) (c : FnCounts) (sums : List ℕ) (blocks : List Block) (rest : List ℕ) (i : ℕ) : Type 0 where
  pub len : length sums ≡ length f.blocks
  pub each : (b : ℕ) → b < length f.blocks → CountingBlocks f c b (get_or sums b 0) blocks rest i

pub entries : (f : Function) (c : FnCounts) (n : ℕ) (sums : List ℕ) (blocks : List Block) (rest : List ℕ) → 0 < length f.blocks → blocks ≡ f.blocks → rest ≡ c.slots → HasSlots f c → n ≡ length f.blocks → sums ≡ set (replicate n 0) 0 c.entry → Entering f c sums blocks rest 0
entries f c n sums blocks rest defined same r slots count e = record {
  len = ap length e ∙ length-set (replicate n 0) 0 c.entry ∙ length-replicate n 0 ∙ count;
  each = λ b lt. counting_start f c b (get_or sums b 0) blocks rest same r (ap (λ l. get_or l b 0) e ∙ at b (omega (arith, lt, count))) slots;
}
  where
    at : (b : ℕ) → b < n → get_or (set (replicate n 0) 0 c.entry) b 0 ≡ cond (b == 0) c.entry 0
    at b lt =
        ⊎_elim
        (λ (same : b ≡ 0). ap (λ k. get_or (set (replicate n 0) 0 c.entry) k 0) same ∙ get_or-set_same (replicate n 0) 0 c.entry 0 (let l : length (replicate n zero) ≡ n = length-replicate n zero in omega (arith, l, defined, count)) ∙ sym (here b 0 c.entry same))
        (λ (other : b ≡ 0 → ⊥). get_or-set_other (replicate n 0) 0 b c.entry 0 other ∙ get_or-replicate n b 0 0 lt ∙ sym (elsewhere b 0 c.entry other))
        (cases_eq b 0)

module _ (f : Function) (c : FnCounts) (sums : List ℕ) (blocks : List Block) (rest : List ℕ) (i : ℕ) (x : Block) (inside : i < length blocks) (read : x ≡ get_or blocks i x) (s : Entering f c sums blocks rest i) where
  module _ (defined : 0 < length f.blocks) where
    first : CountingBlocks f c 0 (get_or sums 0 0) blocks rest i
    first = s.each 0 defined

    pub block_front : width x ≤ length rest
    block_front = front_fits blocks i x rest inside read first.len

    pub block_targets : KeepsRules f → All (λ t. t < length sums) (slots_of x.term)
    block_targets keeps =
        let same = first.same in
        let in_f : i < length f.blocks = omega (arith, inside, ap length same) in
        let is : x ≡ get_or f.blocks i x = read ∙ ap (λ l. get_or l i x) same in
        let ends = (keeps.rules.blocks i x in_f).targets_exist in
        subst (λ (y : Block). All (λ t. t < length sums) (slots_of y.term)) (sym is)
        (All-weaker (λ t. (0 < t) × (t < length f.blocks)) (λ t. t < length sums) (λ t h. let l = s.len in let k = h.1 in omega (arith, l, k)) (slots_of (get_or f.blocks i x).term) ends)

  pub block_room : total c < 2 ^ 64 → (b : ℕ) → b < length sums → get_or sums b 0 + sum (take (width x) rest) < 2 ^ 64
  block_room small b lt =
      let in_f : b < length f.blocks = let l = s.len in omega (arith, lt, l) in
      let at = (s.each b in_f).small in
      omega (arith, at, small, sum_by-take-drop (λ (n : ℕ). n) rest (width x))

  pub one_block : (new own later : List ℕ) → later ≡ drop (width x) rest → own ≡ take (width x) rest → length new ≡ length sums → ((b : ℕ) → b < length sums → get_or new b 0 ≡ get_or sums b 0 + into b (slots_of x.term) own) → Entering f c new blocks later (i + 1)
  one_block new own later l o len change = record {
    len = len ∙ s.len;
    each = λ b lt.
        let in_sums : b < length sums = let n = s.len in omega (arith, lt, n) in
        subst (λ n. CountingBlocks f c b n blocks later (i + 1)) (sym (change b in_sums))
        (counting_blocks f c b (get_or sums b 0) (into b (slots_of x.term) own) blocks rest later i x inside read l (ap (into b (slots_of x.term)) o) (s.each b lt));
  }

pub all_entered : (f : Function) (c : FnCounts) (sums : List ℕ) (blocks : List Block) (rest : List ℕ) (i : ℕ) → length blocks ≤ i → IsUnreachedZero f c → Entering f c sums blocks rest i → (reached : ℕ → Bool) → AreReached f reached → (b : ℕ) → b < length f.blocks → get_or sums b 0 ≡ entering reached f c b
all_entered f c sums blocks rest i end none s reached told b lt = counting_end f c b (get_or sums b 0) blocks rest i end none (s.each b lt) reached told
