-- Decimal digits, of any number.
use Rattle.std.proofs.Common.{◌≡◌, ℕ, zero, suc, ◌/◌, ◌%◌, ◌<◌, Bool, true, false, cond, List, [], ◌∷◌, length, refl, arith, ◌==◌}
use Rattle.std.specs.Fmt.{digit_glyph, digits_onto, digits, decimal}
use Rattle.std.specs.List.{list_all}
use Rattle.ir_types.specs.Bytes.{is_digit, is_name_byte, is_quotable}

-- what holds of both members of a choice
chosen : (P : List ℕ → Type 0) (b : Bool) (x y : List ℕ) → P x → P y → P (cond b x y)
chosen P true x y p q = p
chosen P false x y p q = q

one_more : (test : ℕ → Bool) (d : ℕ) (acc : List ℕ) → test d ≡ true → list_all test acc ≡ true → list_all test (d ∷ acc) ≡ true
one_more test d acc e f = rw (e, f) refl

-- a test that holds of each glyph holds of all digits
onto : (test : ℕ → Bool) → ((d : ℕ) → d < 10 → test (digit_glyph false d) ≡ true) → (k n : ℕ) (acc : List ℕ) → list_all test acc ≡ true → list_all test (digits_onto k 10 false n acc) ≡ true
onto test glyph zero n acc all = all
onto test glyph (suc k) n acc all =
    let lt : n % 10 < 10 = omega arith in
    let more = one_more test (digit_glyph false (n % 10)) acc (glyph (n % 10) lt) all in
    let P : List ℕ → Type 0 = λ l. list_all test l ≡ true in
    chosen P (n / 10 == 0) (digit_glyph false (n % 10) ∷ acc) (digits_onto k 10 false (n / 10) (digit_glyph false (n % 10) ∷ acc)) more (onto test glyph k (n / 10) (digit_glyph false (n % 10) ∷ acc) more)

some_onto : (k n : ℕ) (acc : List ℕ) → 0 < length acc → 0 < length (digits_onto k 10 false n acc)
some_onto zero n acc some = some
some_onto (suc k) n acc some =
    let P : List ℕ → Type 0 = λ l. 0 < length l in
    chosen P (n / 10 == 0) (digit_glyph false (n % 10) ∷ acc) (digits_onto k 10 false (n / 10) (digit_glyph false (n % 10) ∷ acc)) (omega arith) (some_onto k (n / 10) (digit_glyph false (n % 10) ∷ acc) (omega arith))

pub decimal_all : (test : ℕ → Bool) → ((d : ℕ) → d < 10 → test (digit_glyph false d) ≡ true) → (n : ℕ) → list_all test (decimal n) ≡ true
unfolding digits
decimal_all test glyph n = onto test glyph 64 n [] refl

pub decimal_some : (n : ℕ) → 0 < length (decimal n)
unfolding digits
decimal_some n =
    let P : List ℕ → Type 0 = λ l. 0 < length l in
    chosen P (n / 10 == 0) (digit_glyph false (n % 10) ∷ []) (digits_onto 63 10 false (n / 10) (digit_glyph false (n % 10) ∷ [])) (omega arith) (some_onto 63 (n / 10) (digit_glyph false (n % 10) ∷ []) (omega arith))

-- a fact of ten numbers
ten : (P : ℕ → Type 0) → P 0 → P 1 → P 2 → P 3 → P 4 → P 5 → P 6 → P 7 → P 8 → P 9 → (d : ℕ) → d < 10 → P d
ten P a b c e f g h i j k zero lt = a
ten P a b c e f g h i j k (suc zero) lt = b
ten P a b c e f g h i j k (suc (suc zero)) lt = c
ten P a b c e f g h i j k (suc (suc (suc zero))) lt = e
ten P a b c e f g h i j k (suc (suc (suc (suc zero)))) lt = f
ten P a b c e f g h i j k (suc (suc (suc (suc (suc zero))))) lt = g
ten P a b c e f g h i j k (suc (suc (suc (suc (suc (suc zero)))))) lt = h
ten P a b c e f g h i j k (suc (suc (suc (suc (suc (suc (suc zero))))))) lt = i
ten P a b c e f g h i j k (suc (suc (suc (suc (suc (suc (suc (suc zero)))))))) lt = j
ten P a b c e f g h i j k (suc (suc (suc (suc (suc (suc (suc (suc (suc zero))))))))) lt = k
ten P a b c e f g h i j k (suc (suc (suc (suc (suc (suc (suc (suc (suc (suc d)))))))))) lt = absurd (omega arith)

pub decimal_digits : (n : ℕ) → list_all is_digit (decimal n) ≡ true
decimal_digits = decimal_all is_digit (ten (λ d. is_digit (digit_glyph false d) ≡ true) refl refl refl refl refl refl refl refl refl refl)

pub decimal_name_bytes : (n : ℕ) → list_all is_name_byte (decimal n) ≡ true
decimal_name_bytes = decimal_all is_name_byte (ten (λ d. is_name_byte (digit_glyph false d) ≡ true) refl refl refl refl refl refl refl refl refl refl)

pub decimal_quotable : (n : ℕ) → list_all is_quotable (decimal n) ≡ true
decimal_quotable = decimal_all is_quotable (ten (λ d. is_quotable (digit_glyph false d) ≡ true) refl refl refl refl refl refl refl refl refl refl)
