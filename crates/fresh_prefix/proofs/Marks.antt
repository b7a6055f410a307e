-- Marks of listed numbers, and the first that is missing.
use Rattle.std.proofs.Common.{◌≡◌, ℕ, zero, suc, ◌<◌, ◌≤◌, ◌+◌, not, Bool, true, false, cond, if◌then◌else◌, List, [], ◌∷◌, ◌++◌, Option, Some, None, IsSome, length, get_or, set, take, replicate, refl, sym, ◌∙◌, subst, ap, ⊎_elim, Contains, arith, get_or-set_same, get_or-set_other, length-set}
use Rattle.std.specs.Prelude.{position, nat_lt}
use Rattle.std.specs.List.{position_or_len}
use Rattle.std.specs.Option.{SomeIff}
use Rattle.std.proofs.lemmas.List.{get_or-replicate, length-replicate, length_push, take_more}
use Rattle.std.proofs.lemmas.List.Elements.{Contains-append_left, Contains-push, Contains-push_cases}
use Rattle.std.proofs.lemmas.List.Quantifiers.{position-Some}
use Rattle.std.proofs.lemmas.List.Sums.{sum_by-cons, sum_by-set, fails_before_first}
use Rattle.std.proofs.lemmas.Bool.{cases_eq, true≢false, not-true, not-false, ltb-false}
use Rattle.fresh_prefix.specs.Missing.{AreMarks, IsLeastMissing, set_count}

abbrev bit_count : Bool → ℕ
bit_count bit = if bit then 1 else 0

no_member : (x : ℕ) → ¬ Contains [] x
no_member x c = let h : c.0 < 0 = c.1 in absurd (omega arith)

none_set : (n : ℕ) → set_count (replicate n false) ≡ 0
none_set zero = refl
none_set (suc n) = sum_by-cons bit_count false (replicate n false) ∙ ap (λ m. 0 + m) (none_set n)

pub AreMarks-start : (n : ℕ) (bits : List Bool) → bits ≡ replicate n false → AreMarks n [] bits
AreMarks-start n bits e = record {
  len = ap length e ∙ length-replicate n false;
  bits_are = λ k h. (
    λ w. let p : false ≡ true = sym (get_or-replicate n k false false h) ∙ (sym (ap (λ m. get_or m k false) e) ∙ w) in cc,
    λ c. absurd (no_member k c),
  );
  few = omega (arith, ap set_count e, none_set n);
}

AreMarks-set : (n : ℕ) (numbers : List ℕ) (bits : List Bool) (e : ℕ) → e < n → AreMarks n numbers bits → AreMarks n (numbers ++ e ∷ []) (set bits e true)
AreMarks-set n numbers bits e h m =
    let within : e < length bits = let l : length bits ≡ n = m.len in omega arith in
    record {
      len = length-set bits e true ∙ m.len;
      bits_are = λ k hk. ⊎_elim
          (λ (q : k ≡ e). (
            λ w. subst (λ x. Contains (numbers ++ e ∷ []) x) (sym q) (Contains-push numbers e),
            λ c. subst (λ x. get_or (set bits e true) x false ≡ true) (sym q) (get_or-set_same bits e true false within),
          ))
          (λ (ne : k ≡ e → ⊥). (
            λ w. Contains-append_left numbers (e ∷ []) k ((m.bits_are k hk).0 (sym (get_or-set_other bits e k true false ne) ∙ w)),
            λ c. get_or-set_other bits e k true false ne ∙ (m.bits_are k hk).1 (⊎_elim (λ (i : Contains numbers k). i) (λ (q : e ≡ k). absurd (ne (sym q))) (Contains-push_cases numbers e k c)),
          ))
          (cases_eq k e);
      few = omega (arith, sum_by-set bit_count bits e true false within, m.few, length_push numbers e);
    }

AreMarks-skip : (n : ℕ) (numbers : List ℕ) (bits : List Bool) (e : ℕ) → n ≤ e → AreMarks n numbers bits → AreMarks n (numbers ++ e ∷ []) bits
AreMarks-skip n numbers bits e past m = record {
  len = m.len;
  bits_are = λ k hk. (
    λ w. Contains-append_left numbers (e ∷ []) k ((m.bits_are k hk).0 w),
    λ c. (m.bits_are k hk).1 (⊎_elim (λ (i : Contains numbers k). i) (λ (q : e ≡ k). absurd (omega (arith, q, past, hk))) (Contains-push_cases numbers e k c)),
  );
  few = omega (arith, m.few, length_push numbers e);
}

module _ (n : ℕ) (numbers : List ℕ) (bits : List Bool) (i : ℕ) (h : i < length numbers) (m : AreMarks n (take i numbers) bits) where
  pub AreMarks-more : get_or numbers i 0 < n → AreMarks n (take (i + 1) numbers) (set bits (get_or numbers i 0) true)
  AreMarks-more k = subst (λ xs. AreMarks n xs (set bits (get_or numbers i 0) true)) (sym (take_more numbers i 0 h)) (AreMarks-set n (take i numbers) bits (get_or numbers i 0) k m)

  pub AreMarks-other : n ≤ get_or numbers i 0 → AreMarks n (take (i + 1) numbers) bits
  AreMarks-other k = subst (λ xs. AreMarks n xs bits) (sym (take_more numbers i 0 h)) (AreMarks-skip n (take i numbers) bits (get_or numbers i 0) k m)

-- ---- the first clear one

full_count : (bits : List Bool) → ((k : ℕ) → k < length bits → get_or bits k false ≡ true) → set_count bits ≡ length bits
full_count [] all = refl
full_count (bit ∷ bits) all =
    let rest : set_count bits ≡ length bits = full_count bits (λ k lt. all (suc k) (omega (arith, lt))) in
    let first : bit_count bit ≡ 1 = ap bit_count (all 0 (omega arith)) in
    omega (arith, sum_by-cons bit_count bit bits, first, rest)

all_set : (bits : List Bool) → position (λ mark. not mark) bits ≡ None → (k : ℕ) → k < length bits → get_or bits k false ≡ true
all_set bits none k lt =
    let past = by (nat_lt (position_or_len (λ mark. not mark) bits) (length bits)) refl none in
    not-false (get_or bits k false) (fails_before_first (λ mark. not mark) bits k false (omega (arith, past, lt)))
  where
    by : (q : Bool) → nat_lt (position_or_len (λ mark. not mark) bits) (length bits) ≡ q → cond q (Some (position_or_len (λ mark. not mark) bits)) None ≡ None → length bits ≤ position_or_len (λ mark. not mark) bits
    by true is e = absurd cc
    by false is e = ltb-false (position_or_len (λ mark. not mark) bits) (length bits) is

module _ (n : ℕ) (numbers : List ℕ) (bits : List Bool) (are : AreMarks n numbers bits) where
  -- one is clear, since there are more marks than numbers
  pub some_clear : n ≡ length numbers + 1 → position (λ mark. not mark) bits ≡ None → ⊥
  some_clear more none = omega (arith, full_count bits (all_set bits none), are.len, are.few, more)

  pub least_is : (j : ℕ) → position (λ mark. not mark) bits ≡ Some j → IsLeastMissing numbers j
  least_is j at =
      let found = position-Some (λ mark. not mark) bits j false at in
      let inside : j < n = omega (arith, found.0, are.len) in
      record {
        missing = λ c. true≢false (sym ((are.bits_are j inside).1 c) ∙ not-true (get_or bits j false) found.1);
        least = λ i lt. (are.bits_are i (omega (arith, lt, inside))).0 (not-false (get_or bits i false) (found.2 i lt));
      }

pub is_some_of : (r : Option ℕ) → (r ≡ None → ⊥) → IsSome r
is_some_of None some = absurd (some refl)
is_some_of (Some x) some = refl

-- what a checked sum is
pub sum_is : (r : Option ℕ) (P : Type 0) (v x : ℕ) → SomeIff r P v → r ≡ Some x → x ≡ v
sum_is None P v x h e = absurd cc
sum_is (Some y) P v x h e = let same : y ≡ x = cc in sym same ∙ h.1
