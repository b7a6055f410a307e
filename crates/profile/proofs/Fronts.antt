-- Numbers at the front of a text, as they are written and read.
use Rattle.std.proofs.Common.{◌≡◌, ◌≢◌, ℕ, suc, ◌+◌, ◌^◌, ◌<◌, ◌&&◌, ◌||◌, ◌==◌, nat_lt, not, Bool, true, false, cond, List, [], ◌∷◌, ◌++◌, Option, None, Some, length, take, drop, get_or, refl, sym, ap, subst, ◌∙◌, inl, inr, arith}
use Rattle.std.specs.Option.{option_map}
use Rattle.std.specs.List.{list_all, prefix_len}
use Rattle.std.specs.Int.{IsInRange}
use Rattle.std.specs.Fmt.{decimal}
use Rattle.std.specs.Str.Parse.{digits_value}
use Rattle.std.proofs.lemmas.Fmt.{decimal_is_IsNumeral, decimal_digit, first_decimal, decimal-digits_value}
use Rattle.std.proofs.lemmas.Str.Parse.{IsDigitsTest, IsNumeralModel, numerals_by_value}
use Rattle.std.proofs.lemmas.List.{take_at, drop_at, take-append-drop, length-append}
use Rattle.std.proofs.lemmas.Bool.{cases_eq, cases_Bool, eqb-true, lt-ltb}
use Rattle.std.proofs.lemmas.Option.{same_Some}
use Rattle.ir_types.specs.Bytes.{heads, is_digit}
use Rattle.ir_types.proofs.Decimals.{decimal_some, decimal_digits}
use Rattle.profile.specs.Forms.{is_numeral, number_of, front_digits, front_number}

-- ---- tests

pub both : (a b : Bool) → a && b ≡ true → (a ≡ true) × (b ≡ true)
both true b e = (refl, e)
both false b e = absurd cc

digit_range : (b : ℕ) → is_digit b ≡ true → IsInRange 48 57 b
digit_range b e = grind arith

range_digit : (b : ℕ) → IsInRange 48 57 b → is_digit b ≡ true
range_digit b h = grind arith

-- ---- runs of digits

run_len : (run more : List ℕ) → list_all is_digit run ≡ true → heads is_digit more ≡ false → prefix_len is_digit (run ++ more) ≡ length run
run_len [] [] all e = refl
run_len [] (m ∷ more) all e = rw e refl
run_len (b ∷ bs) more all e = let a = both (is_digit b) (list_all is_digit bs) all in rw (a.0, run_len bs more a.1 e) (omega arith)

run_all : (bs : List ℕ) → list_all is_digit (take (prefix_len is_digit bs) bs) ≡ true
run_all [] = refl
run_all (b ∷ bs) = elim (cases_Bool (is_digit b)) [
  | inl yes' ↦ rw yes' (rw (add_one (prefix_len is_digit bs)) (rw yes' (run_all bs)))
  | inr no' ↦ rw no' refl
]
  where
    add_one : (n : ℕ) → 1 + n ≡ suc n
    add_one n = omega arith

run_stops : (bs : List ℕ) → heads is_digit (drop (prefix_len is_digit bs) bs) ≡ false
run_stops [] = refl
run_stops (b ∷ bs) = elim (cases_Bool (is_digit b)) [
  | inl yes' ↦ rw yes' (rw (add_one (prefix_len is_digit bs)) (run_stops bs))
  | inr no' ↦ rw no' no'
]
  where
    add_one : (n : ℕ) → 1 + n ≡ suc n
    add_one n = omega arith

-- ---- numerals

digits_test : IsDigitsTest (λ ds. list_all is_digit ds ≡ true)
digits_test = record {
  empty = refl;
  parts = λ c cs h. (let a = both (is_digit c) (list_all is_digit cs) h in (digit_range c a.0, a.1));
  more = λ c cs h k. rw (range_digit c h) k;
}

model : IsNumeralModel (λ ds. list_all is_digit ds ≡ true) (digits_value 10)
model = numerals_by_value (λ ds. list_all is_digit ds ≡ true) digits_test

-- a first byte that is greater than 48
first_large : (ds : List ℕ) → 48 < get_or ds 0 0 → heads (λ b. b == 48) ds ≡ false
first_large [] h = refl
first_large (b ∷ bs) h = grind arith

some_length : (ds : List ℕ) → 0 < length ds → length ds == 0 ≡ false
some_length ds h = grind arith

decimal_numeral : (n : ℕ) → n < 2 ^ 64 → is_numeral (decimal n) ≡ true
decimal_numeral n lt = elim (cases_eq n 0) [
  | inl zero' ↦ (let e : decimal n ≡ 48 ∷ [] = ap decimal zero' ∙ decimal_digit 0 (omega arith) in rw e refl)
  | inr more ↦ rw (some_length (decimal n) (decimal_some n), first_large (decimal n) (first_decimal n (omega arith) lt)) (or_true (length (decimal n) == 1))
]
  where
    or_true : (b : Bool) → b || true ≡ true
    or_true true = refl
    or_true false = refl

pub number_of_decimal : (n : ℕ) → n < 2 ^ 64 → number_of (decimal n) ≡ Some n
unfolding number_of
number_of_decimal n lt =
    let value : digits_value 10 (decimal n) ≡ n = (decimal_is_IsNumeral n lt).1 in
    rw (decimal_numeral n lt, value, lt-ltb n (2 ^ 64) lt) refl

single : (ds : List ℕ) → length ds == 1 || not (heads (λ b. b == 48) ds) ≡ true → get_or ds 0 0 ≡ 48 → length ds ≡ 1
single [] h z = absurd (omega (arith, z))
single (b ∷ bs) h z = go (length (b ∷ bs) == 1) refl h
  where
    go : (r : Bool) → length (b ∷ bs) == 1 ≡ r → r || not (b == 48) ≡ true → length (b ∷ bs) ≡ 1
    go true p h = eqb-true (length (b ∷ bs)) 1 p
    go false p h = absurd (let f : not (48 == 48) ≡ true = subst (λ x. not (x == 48) ≡ true) z h in cc)

-- digits that are read as a number are its decimal digits
pub decimal_number_of : (ds : List ℕ) (n : ℕ) → list_all is_digit ds ≡ true → number_of ds ≡ Some n → (ds ≡ decimal n) × (n < 2 ^ 64)
unfolding number_of
decimal_number_of ds n all e = go (is_numeral ds) (nat_lt (digits_value 10 ds) (2 ^ 64)) refl refl e
  where
    go : (p q : Bool) → is_numeral ds ≡ p → nat_lt (digits_value 10 ds) (2 ^ 64) ≡ q → cond (p && q) (Some (digits_value 10 ds)) None ≡ Some n → (ds ≡ decimal n) × (n < 2 ^ 64)
    go true true p q e =
        let same : digits_value 10 ds ≡ n = same_Some (digits_value 10 ds) n e in
        let parts = both (not (length ds == 0)) (length ds == 1 || not (heads (λ b. b == 48) ds)) p in
        let small : digits_value 10 ds < 2 ^ 64 = grind arith in
        let some : 0 < length ds = grind arith in
        (sym (ap decimal (sym same) ∙ decimal-digits_value model ds all some (single ds parts.1) small), omega arith)
    go true false p q e = absurd cc
    go false q p r e = absurd cc

-- ---- at the front

pub front_decimal : (n : ℕ) (rest : List ℕ) → n < 2 ^ 64 → heads is_digit rest ≡ false → front_number (32 ∷ (decimal n ++ rest)) ≡ Some (n, rest)
unfolding front_number front_digits
front_decimal n rest lt stop =
    let len = run_len (decimal n) rest (decimal_digits n) stop in
    rw (len, take_at (decimal n) rest (length (decimal n)) refl, drop_at (decimal n) rest (length (decimal n)) refl, number_of_decimal n lt) refl

pub record IsFront (bytes : List ℕ) (n : ℕ) (rest : List ℕ) : Type 0 where
  pub text : bytes ≡ 32 ∷ (decimal n ++ rest)
  pub small : n < 2 ^ 64
  pub stop : heads is_digit rest ≡ false

pub front_is : (bytes : List ℕ) (n : ℕ) (rest : List ℕ) → front_number bytes ≡ Some (n, rest) → IsFront bytes n rest
unfolding front_number front_digits
front_is [] n rest e = absurd cc
front_is (b ∷ bs) n rest e = go (b == 32) refl e
  where
    k : ℕ
    k = prefix_len is_digit bs

    found : (o : Option ℕ) → number_of (take (prefix_len is_digit bs) bs) ≡ o → b ≡ 32 → option_map {U = ℕ × List ℕ} (λ n. (n, drop (prefix_len is_digit bs) bs)) o ≡ Some (n, rest) → IsFront (b ∷ bs) n rest
    found None o space e = absurd cc
    found (Some m) o space e =
        let pair : (m, drop (prefix_len is_digit bs) bs) ≡ (n, rest) = same_Some (m, drop (prefix_len is_digit bs) bs) (n, rest) e in
        let same : m ≡ n = ap (λ (p : ℕ × List ℕ). p.0) pair in
        let small : n < 2 ^ 64 = subst (λ x. x < 2 ^ 64) same (decimal_number_of (take (prefix_len is_digit bs) bs) m (run_all bs) o).1 in
        let behind : drop (prefix_len is_digit bs) bs ≡ rest = ap (λ (p : ℕ × List ℕ). p.1) pair in
        let d = decimal_number_of (take (prefix_len is_digit bs) bs) m (run_all bs) o in
        record {
          text = ap (λ x. x ∷ bs) space ∙ ap (λ l. 32 ∷ l) (sym (take-append-drop (prefix_len is_digit bs) bs) ∙ ap (λ l. l ++ drop (prefix_len is_digit bs) bs) (d.0 ∙ ap decimal same) ∙ ap (λ l. decimal n ++ l) behind);
          small = small;
          stop = ap (heads is_digit) (sym behind) ∙ run_stops bs;
        }

    go : (r : Bool) → b == 32 ≡ r → cond r (option_map {U = ℕ × List ℕ} (λ n. (n, drop (prefix_len is_digit bs) bs)) (number_of (take (prefix_len is_digit bs) bs))) None ≡ Some (n, rest) → IsFront (b ∷ bs) n rest
    go true p e = found (number_of (take (prefix_len is_digit bs) bs)) refl (eqb-true b 32 p) e
    go false p e = absurd cc

-- no number stands before a line feed
pub front_feed : (rest : List ℕ) → front_number (10 ∷ rest) ≡ None
unfolding front_number
front_feed rest = refl

pub front_shorter : (bytes : List ℕ) (n : ℕ) (rest : List ℕ) → front_number bytes ≡ Some (n, rest) → length rest < length bytes
front_shorter bytes n rest e =
    let f = front_is bytes n rest e in
    omega (arith, ap length f.text, length-append (decimal n) rest)

-- behind a space, and where none stands
pub front_behind : (bytes rest : List ℕ) → bytes ≡ 32 ∷ rest → front_number bytes ≡ front_digits rest
unfolding front_number
front_behind bytes rest e = ap front_number e

pub front_none : (bytes : List ℕ) → ((rest : List ℕ) → bytes ≢ 32 ∷ rest) → front_number bytes ≡ None
unfolding front_number
front_none [] h = refl
front_none (b ∷ bs) h = elim (cases_Bool (b == 32)) [
  | inl space ↦ absurd (h bs (ap (λ x. x ∷ bs) (eqb-true b 32 space)))
  | inr other ↦ rw other refl
]
