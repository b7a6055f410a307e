-- The numbers of prefixes, and their texts.
use Rattle.std.proofs.Common.{◌≡◌, ℕ, zero, suc, ◌+◌, ◌-◌, ◌*◌, ◌<◌, ◌≤◌, ◌^◌, ◌==◌, ◌↔◌, min, Bool, true, false, cond, List, [], ◌∷◌, ◌++◌, length, get_or, take, drop, Some, None, codes, decimal, refl, sym, ap, ◌∙◌, arith, ◌⊎◌, ⊎_elim}
use Rattle.std.specs.Prelude.{position, if◌then◌else◌, nat_lt}
use Rattle.std.specs.List.{list_all, position_or_len}
use Rattle.std.specs.Str.Parse.{digits_value}
use Rattle.std.proofs.lemmas.Bool.{cases_eq, ne_eqb, eq-eqb, eqb-true, cond-false, and_parts, true≢false, ltb-false}
use Rattle.std.proofs.lemmas.Fmt.{decimal_is_IsNumeral, decimal_nonempty}
use Rattle.std.proofs.lemmas.List.{append_assoc, take-append-drop, take_at, drop_more, length-append, get_or_append_left}
use Rattle.std.proofs.Math.Seq.{get_or-append_seam}
use Rattle.std.proofs.lemmas.List.Quantifiers.{position-Some}
use Rattle.std.proofs.lemmas.List.Sums.{fails_before_first}
use Rattle.ir_types.specs.Bytes.{is_digit}
use Rattle.ir_types.specs.Names.{prefix, parts}
use Rattle.ir_types.specs.declared.name.Made.{Made}
use Rattle.ir_types.specs.declared.name.Name.TheVariants.{Text, Made as MadeName}
use Rattle.ir_types.proofs.Decimals.{decimal_digits}
use Rattle.fresh_prefix.specs.Prefixes.{BeginsWith, HasPrefix, number_text}

-- one digit more, cut off at the greatest number
pub one_digit_more : (value number product digit sum cap : ℕ) → number ≡ min value cap → product ≡ min (number * 10) cap → sum ≡ min (product + digit) cap → sum ≡ min (value * 10 + digit) cap
one_digit_more value number product digit sum cap e f g = omega arith

-- ---- the number between `pre` and the dot

decimal_value : (n : ℕ) → n < 2 ^ 32 → digits_value 10 (decimal n) ≡ n
decimal_value n lt = (decimal_is_IsNumeral n (omega (arith, lt))).1

text_some : (j : ℕ) → (j ≡ 0 → ⊥) → number_text j ≡ decimal j
text_some j ne = cond-false (j == 0) [] (decimal j) (ne_eqb j 0 ne)

text_zero : (j : ℕ) → j ≡ 0 → number_text j ≡ []
text_zero j e = ap number_text e

no_text : (word : List ℕ) → length word ≡ 0 → word ≡ []
no_text [] e = refl
no_text (b ∷ word) e = absurd (omega (arith, e))

-- what a text that isn't empty says of its number
record NumberIs (word : List ℕ) (j : ℕ) : Type 0 where
  some : 0 < j
  is : word ≡ decimal j
  value : digits_value 10 word ≡ j

number_is : (word : List ℕ) (j : ℕ) → (length word ≡ 0 → ⊥) → j < 2 ^ 32 → word ≡ number_text j → NumberIs word j
number_is word j some lt is = ⊎_elim
    (λ (z : j ≡ 0). absurd (some (ap length (is ∙ text_zero j z))))
    (λ (ne : j ≡ 0 → ⊥).
    let text : word ≡ decimal j = is ∙ text_some j ne in
    record { some = omega (arith, ne); is = text; value = ap (digits_value 10) text ∙ decimal_value j lt })
    (cases_eq j 0)

pub empty_is : (word : List ℕ) → length word ≡ 0 → (j : ℕ) → j < 2 ^ 32 → (Some 0 ≡ Some j) ↔ (word ≡ number_text j)
empty_is word none j lt = (
  λ e. let zero_is : 0 ≡ j = cc in no_text word none ∙ sym (text_zero j (sym zero_is)),
  λ e. ⊎_elim
      (λ (z : j ≡ 0). ap Some (sym z))
      (λ (ne : j ≡ 0 → ⊥). absurd (let some = decimal_nonempty j (omega (arith, lt)) in omega (arith, some, ap length (e ∙ text_some j ne), none)))
      (cases_eq j 0),
)

module _ (word : List ℕ) (number : ℕ) (read : number ≡ min (digits_value 10 word) (2 ^ 64 - 1)) (some : length word ≡ 0 → ⊥) (j : ℕ) (lt : j < 2 ^ 32) where
  same : word ≡ number_text j → (0 < j) × (word ≡ decimal j) × (number ≡ j)
  same is = let r = number_is word j some lt is in (r.some, r.is, omega (arith, read, r.value, lt))

  pub out_is : ((number ≡ 0) ⊎ (2 ^ 32 ≤ number)) → (None ≡ Some j) ↔ (word ≡ number_text j)
  out_is out = (
    λ e. absurd cc,
    λ e. let r = same e in absurd (⊎_elim (λ (z : number ≡ 0). let h = r.0 in let i = r.2 in omega (arith, z, h, i)) (λ (ge : 2 ^ 32 ≤ number). let i = r.2 in omega (arith, ge, lt, i)) out),
  )

  pub other_is : (word ≡ decimal number → ⊥) → (None ≡ Some j) ↔ (word ≡ number_text j)
  other_is other = (λ e. absurd cc, λ e. let r = same e in absurd (other (r.1 ∙ ap decimal (sym r.2))))

  pub some_is : (number ≡ 0 → ⊥) → word ≡ decimal number → (Some number ≡ Some j) ↔ (word ≡ number_text j)
  some_is ne is = (
    λ e. let one : number ≡ j = cc in is ∙ ap decimal one ∙ sym (text_some j (λ z. ne (one ∙ z))),
    λ e. let r = same e in ap Some r.2,
  )

-- ---- the first dot

all_at : (test : ℕ → Bool) (xs : List ℕ) → list_all test xs ≡ true → (k : ℕ) → k < length xs → test (get_or xs k 0) ≡ true
all_at test [] all k lt = absurd (omega (arith, lt))
all_at test (x ∷ xs) all zero lt = (and_parts (test x) (list_all test xs) all).0
all_at test (x ∷ xs) all (suc k) lt = all_at test xs (and_parts (test x) (list_all test xs) all).1 k (omega (arith, lt))

no_dot_in : (j : ℕ) (k : ℕ) → k < length (number_text j) → get_or (number_text j) k 0 ≡ 46 → ⊥
no_dot_in j k lt dot = ⊎_elim
    (λ (z : j ≡ 0). absurd (omega (arith, lt, ap length (text_zero j z))))
    (λ (ne : j ≡ 0 → ⊥).
    let inside : k < length (decimal j) = omega (arith, lt, ap length (text_some j ne)) in
    let digit : is_digit (get_or (decimal j) k 0) ≡ true = all_at is_digit (decimal j) (decimal_digits j) k inside in
    let value : get_or (decimal j) k 0 ≡ 46 = ap (λ l. get_or l k 0) (sym (text_some j ne)) ∙ dot in
    let no : false ≡ true = ap is_digit (sym value) ∙ digit in absurd (true≢false (sym no)))
    (cases_eq j 0)

-- the dot stands behind the text
dot_behind : (bytes : List ℕ) (j : ℕ) (rest : List ℕ) → bytes ≡ (number_text j ++ 46 ∷ []) ++ rest → (length (number_text j) < length bytes) × (get_or bytes (length (number_text j)) 0 ≡ 46)
dot_behind bytes j rest is =
    let split : bytes ≡ number_text j ++ 46 ∷ rest = is ∙ append_assoc (number_text j) (46 ∷ []) rest in (
      omega (arith, ap length split, length-append (number_text j) (46 ∷ rest)),
      ap (λ l. get_or l (length (number_text j)) 0) split ∙ get_or-append_seam (number_text j) 46 rest 0,
    )

pub dot_is : (bytes word : List ℕ) (dot j : ℕ) → position (λ byte. byte == 46) bytes ≡ Some dot → word ≡ take dot bytes → (word ≡ number_text j) ↔ BeginsWith bytes (number_text j ++ 46 ∷ [])
dot_is bytes word dot j at is =
    let found = position-Some (λ byte. byte == 46) bytes dot 0 at in
    let here : get_or bytes dot 0 ≡ 46 = eqb-true (get_or bytes dot 0) 46 found.1 in (
      λ e. record {
        rest = drop (dot + 1) bytes;
        is = sym (take-append-drop dot bytes)
            ∙ ap (λ l. take dot bytes ++ l) (drop_more bytes dot 0 found.0)
            ∙ ap (λ b. take dot bytes ++ b ∷ drop (dot + 1) bytes) here
            ∙ ap (λ l. l ++ 46 ∷ drop (dot + 1) bytes) (sym is ∙ e)
            ∙ sym (append_assoc (number_text j) (46 ∷ []) (drop (dot + 1) bytes));
      },
      λ b.
          let n = length (number_text j) in
          let behind = dot_behind bytes j b.rest b.is in
          let split : bytes ≡ number_text j ++ 46 ∷ b.rest = b.is ∙ append_assoc (number_text j) (46 ∷ []) b.rest in
          let not_less : dot < n → ⊥ = λ lt. no_dot_in j dot lt (sym (get_or_append_left (number_text j) (46 ∷ b.rest) 0 dot lt) ∙ ap (λ l. get_or l dot 0) (sym split) ∙ here) in
          let not_more : n < dot → ⊥ = λ lt. true≢false (sym (eq-eqb (get_or bytes n 0) 46 behind.1) ∙ found.2 n lt) in
          let same : n ≡ dot = omega (arith, not_less, not_more) in
          is ∙ ap (take dot) split ∙ take_at (number_text j) (46 ∷ b.rest) dot same,
    )

no_position : (bytes : List ℕ) → position (λ byte. byte == 46) bytes ≡ None → (k : ℕ) → k < length bytes → get_or bytes k 0 ≡ 46 → ⊥
no_position bytes none k lt dot =
    let n = position_or_len (λ byte. byte == 46) bytes in
    let past : length bytes ≤ n = by (nat_lt n (length bytes)) refl none in
    true≢false (sym (eq-eqb (get_or bytes k 0) 46 dot) ∙ fails_before_first (λ byte. byte == 46) bytes k 0 (omega (arith, past, lt)))
  where
    by : (q : Bool) → nat_lt (position_or_len (λ byte. byte == 46) bytes) (length bytes) ≡ q → cond q (Some (position_or_len (λ byte. byte == 46) bytes)) None ≡ None → length bytes ≤ position_or_len (λ byte. byte == 46) bytes
    by true is e = absurd cc
    by false is e = ltb-false (position_or_len (λ byte. byte == 46) bytes) (length bytes) is

pub no_dot_is : (bytes : List ℕ) (j : ℕ) → position (λ byte. byte == 46) bytes ≡ None → (None ≡ Some j) ↔ BeginsWith bytes (number_text j ++ 46 ∷ [])
no_dot_is bytes j none = (
  λ e. absurd cc,
  λ b. let behind = dot_behind bytes j b.rest b.is in absurd (no_position bytes none (length (number_text j)) behind.0 behind.1),
)

-- ---- the whole prefix

prefix_is : (j : ℕ) → prefix j ≡ 112 ∷ (114 ∷ (101 ∷ (number_text j ++ 46 ∷ [])))
prefix_is j = by (j == 0)
  where
    by : (q : Bool) → (if q then codes "pre." else (codes "pre" ++ decimal j ++ codes ".")) ≡ 112 ∷ (114 ∷ (101 ∷ ((if q then [] else decimal j) ++ 46 ∷ [])))
    by true = refl
    by false = refl

-- ---- names

one_text : (a b : List ℕ) → Text a ≡ Text b → a ≡ b
one_text a b e = cc

pub text_name_is : (bytes text : List ℕ) (j : ℕ) → bytes ≡ text → BeginsWith bytes (prefix j) ↔ HasPrefix j (Text text)
text_name_is bytes text j same = (
  λ b. record { rest = b.rest; is = ap Text (sym same ∙ b.is) },
  λ h. record { rest = h.rest; is = same ∙ one_text text (prefix j ++ h.rest) h.is },
)

-- the text of a number in front of a dot tells the number
one_number : (i j : ℕ) (a b : List ℕ) → i < 2 ^ 32 → j < 2 ^ 32 → prefix i ++ a ≡ prefix j ++ b → i ≡ j
one_number i j a b lt lt' same = by_text texts_same
  where
    bytes : (number_text i ++ 46 ∷ []) ++ a ≡ (number_text j ++ 46 ∷ []) ++ b
    bytes = ap (drop 3) (sym (ap (λ l. l ++ a) (prefix_is i)) ∙ same ∙ ap (λ l. l ++ b) (prefix_is j))

    texts_same : number_text i ≡ number_text j
    texts_same =
        let whole = (number_text i ++ 46 ∷ []) ++ a in
        let first = dot_behind whole i a refl in
        let second = dot_behind whole j b bytes in
        let split_i : whole ≡ number_text i ++ 46 ∷ a = append_assoc (number_text i) (46 ∷ []) a in
        let split_j : whole ≡ number_text j ++ 46 ∷ b = bytes ∙ append_assoc (number_text j) (46 ∷ []) b in
        let not_less : length (number_text i) < length (number_text j) → ⊥ = λ less.
        no_dot_in j (length (number_text i)) less (sym (get_or_append_left (number_text j) (46 ∷ b) 0 (length (number_text i)) less) ∙ ap (λ l. get_or l (length (number_text i)) 0) (sym split_j) ∙ first.1) in
        let not_more : length (number_text j) < length (number_text i) → ⊥ = λ more.
        no_dot_in i (length (number_text j)) more (sym (get_or_append_left (number_text i) (46 ∷ a) 0 (length (number_text j)) more) ∙ ap (λ l. get_or l (length (number_text j)) 0) (sym split_i) ∙ second.1) in
        let count : length (number_text i) ≡ length (number_text j) = omega (arith, not_less, not_more) in
        sym (take_at (number_text i) (46 ∷ a) (length (number_text j)) count) ∙ ap (take (length (number_text j))) (sym split_i ∙ split_j) ∙ take_at (number_text j) (46 ∷ b) (length (number_text j)) refl

    by_text : number_text i ≡ number_text j → i ≡ j
    by_text texts = ⊎_elim
        (λ (z : i ≡ 0). ⊎_elim
        (λ (z' : j ≡ 0). z ∙ sym z')
        (λ (ne : j ≡ 0 → ⊥). absurd (let some = decimal_nonempty j (omega (arith, lt')) in omega (arith, some, ap length (sym (text_zero i z) ∙ texts ∙ text_some j ne))))
        (cases_eq j 0))
        (λ (ne : i ≡ 0 → ⊥).
        let text : number_text i ≡ decimal i = text_some i ne in
        let some = decimal_nonempty i (omega (arith, lt)) in
        let filled : length (number_text i) ≡ 0 → ⊥ = λ z. omega (arith, some, z, ap length text) in
        let r = number_is (number_text i) j filled lt' texts in
        sym (decimal_value i lt) ∙ ap (digits_value 10) (sym text) ∙ r.value)
        (cases_eq i 0)

pub made_name_is : (i : ℕ) (what : Made) → i < 2 ^ 32 → (j : ℕ) → j < 2 ^ 32 → (Some i ≡ Some j) ↔ HasPrefix j (MadeName i what)
made_name_is i what lt j lt' = (
  λ e. let one : i ≡ j = cc in record { rest = parts what; is = ap (λ k. Text (prefix k ++ parts what)) one },
  λ h. ap Some (one_number i j (parts what) h.rest lt lt' (one_text (prefix i ++ parts what) (prefix j ++ h.rest) h.is)),
)
