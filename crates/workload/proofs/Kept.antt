-- The counts are accepted: round by round as much leaves as enters.
use Rattle.std.proofs.Common.{◌≡◌, ◌≢◌, ℕ, zero, suc, ◌+◌, ◌-◌, ◌*◌, ◌<◌, ◌≤◌, ◌==◌, ◌&&◌, not, Bool, true, false, cond, List, ◌∷◌, length, sum, sum_by, refl, sym, ap, ◌∙◌, arith, inl, inr}
use Rattle.std.specs.Option.{option_map_or}
use Rattle.ir_types.specs.declared.syntax.Block.{Block}
use Rattle.std.specs.List.{flat_map, range_with_len, zip}
use Rattle.std.proofs.lemmas.Bool.{cases_eq, cases_lt, false≢true}
use Rattle.std.proofs.lemmas.List.Sums.{sum_by-cons}
use Rattle.flow_graph.specs.Slots.{slots_from}
use Rattle.profile.specs.Counts.{HasSlots, IsBalanced, IsUnreachedZero, IsAccepted, goes_on, is_return}
use Rattle.workload.specs.Workload.{left_count, round_counts, main_function, main_counts, workload_program, workload_counts}
use Rattle.workload.proofs.Tails.{tail}
use Rattle.workload.proofs.Reaching.{all_met, at_end}

-- ---- the slots with their counts

abbrev counts_tail : ℕ → ℕ → List ℕ
counts_tail a k = flat_map round_counts (range_with_len a k)

-- of the rounds from a on, whose first block has number b
abbrev slots_tail : ℕ → ℕ → ℕ → List ((ℕ × ℕ) × ℕ)
slots_tail b a k = zip (slots_from b (tail a k)) (counts_tail a k)

length_counts : (a k : ℕ) → length (counts_tail a k) ≡ 5 * k
length_counts a zero = refl
length_counts a (suc k) = omega (arith, length_counts (a + 1) k)

length_slots : (b a k : ℕ) → length (slots_from b (tail a k)) ≡ 5 * k
length_slots b a zero = refl
length_slots b a (suc k) = omega (arith, length_slots (b + 1 + 1 + 1 + 1) (a + 1) k)

-- ---- what one slot adds

-- a count, where the block is this one
ind : ℕ → ℕ → ℕ → ℕ
ind x c v = cond (x == c) v 0

abbrev enters : (ℕ → Bool) → ℕ → (ℕ × ℕ) × ℕ → ℕ
enters reached c s = cond (reached s.0.0 && (s.0.1 == c)) s.1 0

abbrev leaves : ℕ → (ℕ × ℕ) × ℕ → ℕ
leaves c s = cond (s.0.0 == c) s.1 0

enters_is : (reached : ℕ → Bool) (c x y v y' : ℕ) → reached x ≡ true → y ≡ y' → enters reached c ((x, y), v) ≡ ind y' c v
unfolding ind
enters_is reached c x y v y' r e = ap (λ t. cond (t && (y == c)) v 0) r ∙ ap (λ z. cond (z == c) v 0) e

leaves_is : (c x y v x' : ℕ) → x ≡ x' → leaves c ((x, y), v) ≡ ind x' c v
unfolding ind
leaves_is c x y v x' e = ap (λ z. cond (z == c) v 0) e

ind_both : (x c v w : ℕ) → v + w ≡ 100 → ind x c v + ind x c w ≡ ind x c 100
unfolding ind
ind_both x c v w e = go (x == c)
  where
    go : (t : Bool) → cond t v 0 + cond t w 0 ≡ cond t 100 0
    go true = e
    go false = refl

ind_other : (x c v : ℕ) → x ≢ c → ind x c v ≡ 0
unfolding ind
ind_other x c v ne = elim (cases_eq x c) [
  | inl same ↦ absurd (ne same)
  | inr other ↦ grind arith
]

ind_turned : (c : ℕ) → cond (c == 0) 100 0 ≡ ind 0 c 100
unfolding ind
ind_turned zero = refl
ind_turned (suc c) =
    let e : (suc c == 0) ≡ false = grind arith in
    ap (λ t. cond t 100 0) e ∙ sym (ind_other 0 (suc c) 100 (λ same. omega (arith, same)))

halves : (a : ℕ) → left_count a + (100 - left_count a) ≡ 100
halves a = omega arith

-- ---- round by round

enters_round : (reached : ℕ → Bool) (c b a k : ℕ) → b ≡ 4 * a + 1 → ((x : ℕ) → x < 4 * a + 5 → reached x ≡ true) →
    sum_by (enters reached c) (slots_tail b a (suc k)) ≡ ind (4 * a + 2) c (left_count a) + (ind (4 * a + 3) c (100 - left_count a) + (ind (4 * a + 4) c 100 + (ind (4 * a + 5) c 100 + sum_by (enters reached c) (slots_tail (b + 1 + 1 + 1 + 1) (a + 1) k))))
enters_round reached c b a k e all =
    let f = enters reached c in
    let l = left_count a in
    let r = 100 - left_count a in
    let later = slots_tail (b + 1 + 1 + 1 + 1) (a + 1) k in
    let at5 = sum_by-cons f ((b + 1 + 1 + 1, 4 * a + 5), 100) later in
    let at4 = sum_by-cons f ((b + 1 + 1, 4 * a + 4), r) (((b + 1 + 1 + 1, 4 * a + 5), 100) ∷ later) in
    let at3 = sum_by-cons f ((b + 1, 4 * a + 4), l) (((b + 1 + 1, 4 * a + 4), r) ∷ ((b + 1 + 1 + 1, 4 * a + 5), 100) ∷ later) in
    let at2 = sum_by-cons f ((b, 4 * a + 3), r) (((b + 1, 4 * a + 4), l) ∷ ((b + 1 + 1, 4 * a + 4), r) ∷ ((b + 1 + 1 + 1, 4 * a + 5), 100) ∷ later) in
    let at1 = sum_by-cons f ((b, 4 * a + 2), l) (((b, 4 * a + 3), r) ∷ ((b + 1, 4 * a + 4), l) ∷ ((b + 1 + 1, 4 * a + 4), r) ∷ ((b + 1 + 1 + 1, 4 * a + 5), 100) ∷ later) in
    omega (
      arith,
      at1,
      at2,
      at3,
      at4,
      at5,
      enters_is reached c b (4 * a + 2) l (4 * a + 2) (all b (omega (arith, e))) refl,
      enters_is reached c b (4 * a + 3) r (4 * a + 3) (all b (omega (arith, e))) refl,
      enters_is reached c (b + 1) (4 * a + 4) l (4 * a + 4) (all (b + 1) (omega (arith, e))) refl,
      enters_is reached c (b + 1 + 1) (4 * a + 4) r (4 * a + 4) (all (b + 1 + 1) (omega (arith, e))) refl,
      enters_is reached c (b + 1 + 1 + 1) (4 * a + 5) 100 (4 * a + 5) (all (b + 1 + 1 + 1) (omega (arith, e))) refl,
      ind_both (4 * a + 4) c l r (halves a),
    )

leaves_round : (c b a k : ℕ) → b ≡ 4 * a + 1 →
    sum_by (leaves c) (slots_tail b a (suc k)) ≡ ind (4 * a + 1) c 100 + (ind (4 * a + 2) c (left_count a) + (ind (4 * a + 3) c (100 - left_count a) + (ind (4 * a + 4) c 100 + sum_by (leaves c) (slots_tail (b + 1 + 1 + 1 + 1) (a + 1) k))))
leaves_round c b a k e =
    let f = leaves c in
    let l = left_count a in
    let r = 100 - left_count a in
    let later = slots_tail (b + 1 + 1 + 1 + 1) (a + 1) k in
    let at5 = sum_by-cons f ((b + 1 + 1 + 1, 4 * a + 5), 100) later in
    let at4 = sum_by-cons f ((b + 1 + 1, 4 * a + 4), r) (((b + 1 + 1 + 1, 4 * a + 5), 100) ∷ later) in
    let at3 = sum_by-cons f ((b + 1, 4 * a + 4), l) (((b + 1 + 1, 4 * a + 4), r) ∷ ((b + 1 + 1 + 1, 4 * a + 5), 100) ∷ later) in
    let at2 = sum_by-cons f ((b, 4 * a + 3), r) (((b + 1, 4 * a + 4), l) ∷ ((b + 1 + 1, 4 * a + 4), r) ∷ ((b + 1 + 1 + 1, 4 * a + 5), 100) ∷ later) in
    let at1 = sum_by-cons f ((b, 4 * a + 2), l) (((b, 4 * a + 3), r) ∷ ((b + 1, 4 * a + 4), l) ∷ ((b + 1 + 1, 4 * a + 4), r) ∷ ((b + 1 + 1 + 1, 4 * a + 5), 100) ∷ later) in
    omega (
      arith,
      at1,
      at2,
      at3,
      at4,
      at5,
      leaves_is c b (4 * a + 2) l (4 * a + 1) e,
      leaves_is c b (4 * a + 3) r (4 * a + 1) e,
      leaves_is c (b + 1) (4 * a + 4) l (4 * a + 2) (omega (arith, e)),
      leaves_is c (b + 1 + 1) (4 * a + 4) r (4 * a + 3) (omega (arith, e)),
      leaves_is c (b + 1 + 1 + 1) (4 * a + 5) 100 (4 * a + 4) (omega (arith, e)),
      ind_both (4 * a + 1) c l r (halves a),
    )

-- what enters a block and the first of these rounds is what leaves the block and the last of them
kept : (reached : ℕ → Bool) (c b a k : ℕ) → b ≡ 4 * a + 1 → ((x : ℕ) → x < 4 * (a + k) + 1 → reached x ≡ true) →
    sum_by (enters reached c) (slots_tail b a k) + ind (4 * a + 1) c 100 ≡ sum_by (leaves c) (slots_tail b a k) + ind (4 * (a + k) + 1) c 100
kept reached c b a zero e all = let same : 4 * a + 1 ≡ 4 * (a + 0) + 1 = omega arith in ap (λ x. 0 + ind x c 100) same
kept reached c b a (suc k) e all =
    let later = kept reached c (b + 1 + 1 + 1 + 1) (a + 1) k (omega (arith, e)) (λ x lt. all x (omega arith)) in
    let start : 4 * (a + 1) + 1 ≡ 4 * a + 5 = omega arith in
    let last : 4 * (a + 1 + k) + 1 ≡ 4 * (a + suc k) + 1 = omega arith in
    omega (
      arith,
      later,
      enters_round reached c b a k e (λ x lt. all x (omega arith)),
      leaves_round c b a k e,
      ap (λ x. ind x c 100) start,
      ap (λ x. ind x c 100) last,
    )

-- nothing leaves a block behind these rounds
none_leaves : (c b a k : ℕ) → b ≡ 4 * a + 1 → 4 * (a + k) + 1 ≤ c → sum_by (leaves c) (slots_tail b a k) ≡ 0
none_leaves c b a zero e le = refl
none_leaves c b a (suc k) e le =
    omega (
      arith,
      leaves_round c b a k e,
      ind_other (4 * a + 1) c 100 (λ same. omega (arith, same)),
      ind_other (4 * a + 2) c (left_count a) (λ same. omega (arith, same)),
      ind_other (4 * a + 3) c (100 - left_count a) (λ same. omega (arith, same)),
      ind_other (4 * a + 4) c 100 (λ same. omega (arith, same)),
      none_leaves c (b + 1 + 1 + 1 + 1) (a + 1) k (omega (arith, e)) (omega arith),
    )

sum_counts : (a k : ℕ) → sum (counts_tail a k) ≡ 300 * k
sum_counts a zero = refl
sum_counts a (suc k) =
    let l = left_count a in
    let r = 100 - left_count a in
    let later = counts_tail (a + 1) k in
    omega (
      arith,
      sum_by-cons (λ (x : ℕ). x) 100 later,
      sum_by-cons (λ (x : ℕ). x) r (100 ∷ later),
      sum_by-cons (λ (x : ℕ). x) l (r ∷ 100 ∷ later),
      sum_by-cons (λ (x : ℕ). x) r (l ∷ r ∷ 100 ∷ later),
      sum_by-cons (λ (x : ℕ). x) l (r ∷ l ∷ r ∷ 100 ∷ later),
      halves a,
      sum_counts (a + 1) k,
    )

-- ---- the function

not_last : (n c : ℕ) → goes_on (main_function n) c ≡ true → 4 * n + 1 ≢ c
not_last n c goes same =
    let stops : goes_on (main_function n) c ≡ false = ap (λ o. option_map_or (λ (x : Block). not (is_return x.term)) o false) (at_end n c (sym same)) in
    false≢true (sym stops ∙ goes)

has_slots : (n : ℕ) → HasSlots (main_function n) (main_counts n)
has_slots n = omega (arith, length_counts 0 n, length_slots 1 0 n)

balanced : (n : ℕ) → IsBalanced (main_function n) (main_counts n)
balanced n reached are c met goes =
    let all : (x : ℕ) → x < 4 * n + 2 → reached x ≡ true = λ x lt. (are x).1 (all_met n x lt) in
    let f = enters reached c in
    let rest = slots_tail 1 0 n in
    omega (
      arith,
      ind_turned c,
      sum_by-cons f ((0, 1), 100) rest,
      enters_is reached c 0 1 100 1 (all 0 (omega arith)) refl,
      sum_by-cons (leaves c) ((0, 1), 100) rest,
      leaves_is c 0 1 100 0 refl,
      kept reached c 1 0 n refl (λ x lt. all x (omega arith)),
      ind_other (4 * (0 + n) + 1) c 100 (λ same. not_last n c goes (omega (arith, same))),
    )

unreached : (n : ℕ) → IsUnreachedZero (main_function n) (main_counts n)
unreached n c never = elim (cases_lt c (4 * n + 2)) [
  | inl inside ↦ absurd (never (all_met n c inside))
  | inr past ↦ omega (
    arith,
    sum_by-cons (leaves c) ((0, 1), 100) (slots_tail 1 0 n),
    leaves_is c 0 1 100 0 refl,
    ind_other 0 c 100 (λ same. omega (arith, same)),
    none_leaves c 1 0 n refl (omega arith),
  )
]

pub accepted : (n : ℕ) → n ≤ 10000 → IsAccepted (workload_program n) (workload_counts n)
accepted n le = record {
  functions = (record { slots = has_slots n; balanced = balanced n; unreached = unreached n }, tt);
  total = omega (arith, sum_by-cons (λ (x : ℕ). x) 100 (counts_tail 0 n), sum_counts 0 n);
}
