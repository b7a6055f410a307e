-- Names and numbers as they are spelled and read.
use Rattle.std.proofs.Common.{◌≡◌, ℕ, suc, ℤ, pos, negsuc, ◌+◌, ◌-◌, ◌^◌, ◌<◌, ◌&&◌, ◌==◌, not, Bool, true, false, cond, List, [], ◌∷◌, ◌++◌, length, take, min, refl, sym, ap, subst, ◌∙◌, ◌⊎◌, inl, inr, arith, codes}
use Rattle.std.specs.List.{list_all}
use Rattle.std.specs.Fmt.{decimal, signed_decimal}
use Rattle.std.specs.Str.Parse.{digits_value}
use Rattle.std.proofs.lemmas.Fmt.{decimal_is_IsNumeral}
use Rattle.std.proofs.lemmas.List.{take_at, length-append}
use Rattle.std.proofs.lemmas.List.Folds.{list_all-append}
use Rattle.ir_types.proofs.Decimals.{decimal_some, decimal_digits, decimal_name_bytes}
use Rattle.ir_types.specs.Bytes.{heads, is_digit, is_name_byte, is_plain_name}
use Rattle.ir_types.specs.Names.{spelled, prefix, parts, IsSpellable, no_number, quoted_text, name_text}
use Rattle.ir_types.specs.declared.name.Made.{Made}
use Rattle.ir_types.specs.declared.name.Made.TheVariants.{Temp, Sum, Operand, Split}
use Rattle.ir_types.specs.declared.name.Name.{Name}
use Rattle.ir_types.specs.declared.name.Name.TheVariants.{Text, Number, Made as MadeName}
use Rattle.ir_types.specs.declared.tree.RawValue.TheVariants as values
use Rattle.ir_lexer.specs.Pieces.{is_number}
use Rattle.ir_lexer.specs.Texts.{IsRun, IsQuoted, IsName, IsText}
use Rattle.ir_lexer.specs.declared.token.TokenKind.TheVariants as kinds
use Rattle.ir_parser.specs.Words.{unquoted, name_of, number_of, literal, literal_of}

-- ---- lists of bytes

both : (a b : Bool) → a && b ≡ true → (a ≡ true) × (b ≡ true)
both true b e = (refl, e)
both false b e = absurd cc

-- a test of all fails where it fails of the first
first_fails : (test : ℕ → Bool) (b : ℕ) (bs : List ℕ) → test b ≡ false → list_all test (b ∷ bs) ≡ false
first_fails test b bs e = rw e refl

heads_first : (test : ℕ → Bool) (bytes : List ℕ) → 0 < length bytes → list_all test bytes ≡ true → heads test bytes ≡ true
heads_first test [] some all = absurd (omega arith)
heads_first test (b ∷ bs) some all = (both (test b) (list_all test bs) all).0

-- a digit or a name byte is no quote and no minus sign
other_than : (test : ℕ → Bool) (c : ℕ) → test c ≡ false → (bytes : List ℕ) → heads test bytes ≡ true → heads (λ b. b == c) bytes ≡ false
other_than test c fails [] e = refl
other_than test c fails (b ∷ bs) e = go (b == c) refl
  where
    same : b == c ≡ true → b ≡ c
    same h = grind arith

    go : (r : Bool) → b == c ≡ r → r ≡ false
    go true h = absurd (let x : test c ≡ true = subst (λ y. test y ≡ true) (same h) e in let f : true ≡ false = sym x ∙ fails in cc)
    go false h = refl

plain_first : (bytes : List ℕ) → is_plain_name bytes ≡ true → (0 < length bytes) × (heads is_digit bytes ≡ false) × (list_all is_name_byte bytes ≡ true)
plain_first [] e = absurd cc
plain_first (b ∷ bs) e =
    let one = both (not (length (b ∷ bs) == 0) && not (is_digit b)) (list_all is_name_byte (b ∷ bs)) e in
    let other = both (not (length (b ∷ bs) == 0)) (not (is_digit b)) one.0 in
    (omega arith, off (is_digit b) other.1, one.1)
  where
    off : (r : Bool) → not r ≡ true → r ≡ false
    off true e = absurd cc
    off false e = refl

some_bytes : (b : ℕ) (bs : List ℕ) → length (b ∷ bs) == 0 ≡ false
some_bytes b bs = grind arith

not_digits : (bytes : List ℕ) → 0 < length bytes → heads is_digit bytes ≡ false → list_all is_digit bytes ≡ false
not_digits [] some e = absurd (omega arith)
not_digits (b ∷ bs) some e = first_fails is_digit b bs e

-- ---- names

of_text : (bytes : List ℕ) → list_all is_digit bytes ≡ false → unquoted bytes ≡ bytes → name_of bytes ≡ Text bytes
of_text bytes e f = rw (e, f) refl

plain_back : (bytes : List ℕ) → is_plain_name bytes ≡ true → name_of bytes ≡ Text bytes
plain_back bytes e =
    let h = plain_first bytes e in
    let no_quote : heads (λ b. b == 34) bytes ≡ false = other_than is_name_byte 34 refl bytes (heads_first is_name_byte bytes h.0 h.2) in
    let same : unquoted bytes ≡ bytes = rw no_quote refl in
    of_text bytes (not_digits bytes h.0 h.1) same

quoted_back : (bytes : List ℕ) → name_of (34 ∷ (bytes ++ 34 ∷ [])) ≡ Text bytes
quoted_back bytes =
    let n : length (34 ∷ (bytes ++ 34 ∷ [])) - 2 ≡ length bytes = omega (arith, len) in
    ap Text (ap (λ k. take k (bytes ++ 34 ∷ [])) n ∙ take_at bytes (34 ∷ []) (length bytes) refl)
  where
    len : length (bytes ++ 34 ∷ []) ≡ length bytes + 1
    len = length-append bytes (34 ∷ [])

chosen : (b : Bool) (x y : List ℕ) (P : List ℕ → Type 0) → (b ≡ true → P x) → (b ≡ false → P y) → P (cond b x y)
chosen true x y P p q = p refl
chosen false x y P p q = q refl

pub text_back : (bytes : List ℕ) → name_of (quoted_text bytes) ≡ Text bytes
text_back bytes =
    let P : List ℕ → Type 0 = λ l. name_of l ≡ Text bytes in
    chosen (is_plain_name bytes) bytes (34 ∷ (bytes ++ 34 ∷ [])) P (plain_back bytes) (λ e. quoted_back bytes)

number_back : (n : ℕ) → n < no_number → name_of (decimal n) ≡ Number n
number_back n lt =
    let value : digits_value 10 (decimal n) ≡ n = (decimal_is_IsNumeral n (omega arith)).1 in
    let least : min n no_number ≡ n = omega arith in
    rw (decimal_digits n, value, least) refl

-- a made name is plain
prefix_plain : (j : ℕ) (rest : List ℕ) → list_all is_name_byte rest ≡ true → is_plain_name (prefix j ++ rest) ≡ true
prefix_plain j rest all =
    let P : List ℕ → Type 0 = λ l. is_plain_name (l ++ rest) ≡ true in
    chosen (j == 0) (codes "pre.") (codes "pre" ++ decimal j ++ codes ".") P
    (λ e. rw (some_bytes 112 (codes "re." ++ rest)) all) (λ e. rw (some_bytes 112 (codes "re" ++ ((decimal j ++ codes ".") ++ rest))) behind)
  where
    dotted : list_all is_name_byte (decimal j ++ codes ".") ≡ true
    dotted = list_all-append is_name_byte (decimal j) (codes ".") ∙ (rw (decimal_name_bytes j) refl)

    behind : list_all is_name_byte ((decimal j ++ codes ".") ++ rest) ≡ true
    behind = list_all-append is_name_byte (decimal j ++ codes ".") rest ∙ (rw (dotted, all) refl)

joined : (xs ys : List ℕ) → list_all is_name_byte xs ≡ true → list_all is_name_byte ys ≡ true → list_all is_name_byte (xs ++ ys) ≡ true
joined xs ys e f = list_all-append is_name_byte xs ys ∙ rw (e, f) refl

parts_name_bytes : (made : Made) → list_all is_name_byte (parts made) ≡ true
parts_name_bytes (Temp x) = decimal_name_bytes x
parts_name_bytes (Sum x p) = joined (decimal x ++ codes ".") (decimal p) (joined (decimal x) (codes ".") (decimal_name_bytes x) refl) (decimal_name_bytes p)
parts_name_bytes (Operand x p i) =
    joined (decimal x ++ codes "." ++ decimal p ++ codes ".") (decimal i)
    (joined (decimal x ++ codes "." ++ decimal p) (codes ".") (joined (decimal x ++ codes ".") (decimal p) (joined (decimal x) (codes ".") (decimal_name_bytes x) refl) (decimal_name_bytes p)) refl) (decimal_name_bytes i)
parts_name_bytes (Split p) = decimal_name_bytes p

made_plain : (j : ℕ) (made : Made) → is_plain_name (prefix j ++ parts made) ≡ true
made_plain j made = prefix_plain j (parts made) (parts_name_bytes made)

-- a name is read as it is spelled
pub name_back : (n : Name) → IsSpellable n → name_of (name_text n) ≡ spelled n
name_back (Text bytes) is = text_back bytes
name_back (Number n) is = number_back n is
name_back (MadeName j made) is = plain_back (prefix j ++ parts made) (made_plain j made)

-- before the colon of a label
pub label_back : (text : List ℕ) → take (length (text ++ 58 ∷ []) - 1) (text ++ 58 ∷ []) ≡ text
label_back text =
    let n : length (text ++ 58 ∷ []) - 1 ≡ length text = omega (arith, len) in
    ap (λ k. take k (text ++ 58 ∷ [])) n ∙ take_at text (58 ∷ []) (length text) refl
  where
    len : length (text ++ 58 ∷ []) ≡ length text + 1
    len = length-append text (58 ∷ [])

-- ---- texts of tokens

pub name_is : (n : Name) → IsSpellable n → IsName (name_text n)
name_is (Text bytes) is =
    chosen (is_plain_name bytes) bytes (34 ∷ (bytes ++ 34 ∷ [])) IsName (λ e. inr (inl e)) (λ e. inr (inr (record { name = bytes; is = (is.some, is.quotable); spelled = refl })))
name_is (Number n) is = inl (decimal_some n, decimal_digits n)
name_is (MadeName j made) is = inr (inl (made_plain j made))

pub run_or_quoted : (n : Name) → IsSpellable n → IsRun is_name_byte (name_text n) ⊎ IsQuoted (name_text n)
run_or_quoted (Text bytes) is =
    let P : List ℕ → Type 0 = λ l. IsRun is_name_byte l ⊎ IsQuoted l in
    chosen (is_plain_name bytes) bytes (34 ∷ (bytes ++ 34 ∷ [])) P
    (λ e. let h = plain_first bytes e in inl (h.0, h.2))
    (λ e. inr (record { name = bytes; is = (is.some, is.quotable); spelled = refl }))
run_or_quoted (Number n) is = inl (decimal_some n, decimal_name_bytes n)
run_or_quoted (MadeName j made) is = let h = plain_first (prefix j ++ parts made) (made_plain j made) in inl (h.0, h.2)

-- ---- numbers

digits_number : (bytes : List ℕ) → 0 < length bytes → list_all is_digit bytes ≡ true → is_number bytes ≡ true
digits_number [] some all = absurd (omega arith)
digits_number (b ∷ bs) some all = go (b == 45) refl
  where
    digit : is_digit b ≡ true
    digit = (both (is_digit b) (list_all is_digit bs) all).0

    same : b == 45 ≡ true → b ≡ 45
    same h = grind arith

    unsigned : b == 45 ≡ false → is_number (b ∷ bs) ≡ true
    unsigned e = rw (e, some_bytes b bs, all) refl

    go : (r : Bool) → b == 45 ≡ r → is_number (b ∷ bs) ≡ true
    go true h = absurd (let x : is_digit 45 ≡ true = subst (λ y. is_digit y ≡ true) (same h) digit in cc)
    go false h = unsigned h

minus_number : (bytes : List ℕ) → 0 < length bytes → list_all is_digit bytes ≡ true → is_number (45 ∷ bytes) ≡ true
minus_number [] some all = absurd (omega arith)
minus_number (b ∷ bs) some all = rw (some_bytes b bs) all

-- a number with its sign is a token
pub number_is : (z : ℤ) → IsText kinds.Number (signed_decimal z)
number_is (pos n) = ((decimal_some n, decimal_name_bytes n), digits_number (decimal n) (decimal_some n) (decimal_digits n))
number_is (negsuc n) = ((omega arith, decimal_name_bytes (suc n)), minus_number (decimal (suc n)) (decimal_some (suc n)) (decimal_digits (suc n)))

-- that is read as the number
pub literal_back : (z : ℤ) → literal_of z ≡ values.Number z → number_of (signed_decimal z) ≡ z → literal (signed_decimal z) ≡ values.Number z
literal_back z fits e = ap literal_of e ∙ fits

pub number_of_back : (n : ℕ) → n < 2 ^ 64 → number_of (signed_decimal (pos n)) ≡ pos n
number_of_back n lt =
    let value : digits_value 10 (decimal n) ≡ n = (decimal_is_IsNumeral n lt).1 in
    let no_sign : heads (λ b. b == 45) (decimal n) ≡ false = other_than is_digit 45 refl (decimal n) (heads_first is_digit (decimal n) (decimal_some n) (decimal_digits n)) in
    rw (no_sign, value) refl

pub negative_back : (n : ℕ) → suc n < 2 ^ 64 → number_of (signed_decimal (negsuc n)) ≡ negsuc n
negative_back n lt =
    let value : digits_value 10 (decimal (suc n)) ≡ suc n = (decimal_is_IsNumeral (suc n) lt).1 in
    rw value refl
