-- Made names of one prefix are spelled differently.
use Rattle.std.proofs.Common.{◌≡◌, ℕ, ◌<◌, ◌^◌, Bool, true, false, ◌&&◌, List, [], ◌∷◌, ◌++◌, refl, sym, ap, ◌∙◌, append_assoc, arith}
use Rattle.std.specs.List.{list_all}
use Rattle.std.specs.Fmt.{decimal}
use Rattle.std.specs.Str.Parse.{digits_value}
use Rattle.std.proofs.lemmas.Fmt.{decimal_is_IsNumeral}
use Rattle.std.proofs.lemmas.List.{append_cancel_left}
use Rattle.ir_types.specs.Bytes.{is_digit}
use Rattle.ir_types.specs.Names.{prefix, parts, spelled}
use Rattle.ir_types.specs.declared.name.Made.{Made}
use Rattle.ir_types.specs.declared.name.Made.TheVariants.{Temp, Sum, Operand, Split}
use Rattle.ir_types.specs.declared.name.Name.TheVariants.{Made as MadeName}
use Rattle.ir_types.proofs.Decimals.{decimal_digits}

-- its numbers are written in full
abbrev pub FitsMade : Made → Type 0
FitsMade (Temp x) = x < 2 ^ 64
FitsMade (Sum x p) = (x < 2 ^ 64) × (p < 2 ^ 64)
FitsMade (Operand x p i) = (x < 2 ^ 64) × (p < 2 ^ 64) × (i < 2 ^ 64)
FitsMade (Split p) = p < 2 ^ 64

abbrev Digits : List ℕ → Type 0
Digits l = list_all is_digit l ≡ true

first_true : (a b : Bool) → (a && b) ≡ true → a ≡ true
first_true true b e = refl
first_true false b e = absurd cc

second_true : (a b : Bool) → (a && b) ≡ true → b ≡ true
second_true true b e = e
second_true false b e = absurd cc

no_digit : (b x : ℕ) → is_digit b ≡ false → b ≡ x → is_digit x ≡ true → ⊥
no_digit b x none e digit = let both : false ≡ true = sym none ∙ ap is_digit e ∙ digit in cc

first_same : (x y : ℕ) (xs ys : List ℕ) → x ∷ xs ≡ y ∷ ys → x ≡ y
first_same x y xs ys e = cc

rest_same : (x y : ℕ) (xs ys : List ℕ) → x ∷ xs ≡ y ∷ ys → xs ≡ ys
rest_same x y xs ys e = cc

-- what stands before a point, and what behind it
cut : (a b u v : List ℕ) → Digits a → Digits b → a ++ 46 ∷ u ≡ b ++ 46 ∷ v → (a ≡ b) × (u ≡ v)
cut [] [] u v da db e = (refl, rest_same 46 46 u v e)
cut [] (y ∷ ys) u v da db e = absurd (no_digit 46 y refl (first_same 46 y u (ys ++ 46 ∷ v) e) (first_true (is_digit y) (list_all is_digit ys) db))
cut (x ∷ xs) [] u v da db e = absurd (no_digit 46 x refl (sym (first_same x 46 (xs ++ 46 ∷ u) v e)) (first_true (is_digit x) (list_all is_digit xs) da))
cut (x ∷ xs) (y ∷ ys) u v da db e =
    let rest = cut xs ys u v (second_true (is_digit x) (list_all is_digit xs) da) (second_true (is_digit y) (list_all is_digit ys) db) (rest_same x y (xs ++ 46 ∷ u) (ys ++ 46 ∷ v) e) in
    (ap (λ z. z ∷ xs) (first_same x y (xs ++ 46 ∷ u) (ys ++ 46 ∷ v) e) ∙ ap (λ l. y ∷ l) rest.0, rest.1)

-- digits alone have no point
no_point : (a b v : List ℕ) → Digits a → a ≡ b ++ 46 ∷ v → ⊥
no_point [] [] v da e = absurd cc
no_point [] (y ∷ ys) v da e = absurd cc
no_point (x ∷ xs) [] v da e = no_digit 46 x refl (sym (first_same x 46 xs v e)) (first_true (is_digit x) (list_all is_digit xs) da)
no_point (x ∷ xs) (y ∷ ys) v da e = no_point xs ys v (second_true (is_digit x) (list_all is_digit xs) da) (rest_same x y xs (ys ++ 46 ∷ v) e)

-- nor do they begin with a letter
no_letter : (a v : List ℕ) → Digits a → a ≡ 98 ∷ v → ⊥
no_letter [] v da e = absurd cc
no_letter (x ∷ xs) v da e = no_digit 98 x refl (sym (first_same x 98 xs v e)) (first_true (is_digit x) (list_all is_digit xs) da)

no_sign : (x : ℕ) → x ≡ 98 → x ≡ 46 → ⊥
no_sign x e e' = omega (arith, e, e')

no_letter_first : (a u v : List ℕ) → Digits a → a ++ 46 ∷ u ≡ 98 ∷ v → ⊥
no_letter_first [] u v da e = absurd (no_sign 46 (first_same 46 98 u v e) refl)
no_letter_first (x ∷ xs) u v da e = no_digit 98 x refl (sym (first_same x 98 (xs ++ 46 ∷ u) v e)) (first_true (is_digit x) (list_all is_digit xs) da)

same_decimal : (a b : ℕ) → a < 2 ^ 64 → b < 2 ^ 64 → decimal a ≡ decimal b → a ≡ b
same_decimal a b la lb e = sym (decimal_is_IsNumeral a la).1 ∙ ap (digits_value 10) e ∙ (decimal_is_IsNumeral b lb).1

-- the parts of a made name, from left to right
abbrev spelling : Made → List ℕ
spelling (Temp x) = decimal x
spelling (Sum x p) = decimal x ++ 46 ∷ decimal p
spelling (Operand x p i) = decimal x ++ 46 ∷ (decimal p ++ 46 ∷ decimal i)
spelling (Split p) = 98 ∷ 46 ∷ decimal p

spelling_is : (made : Made) → parts made ≡ spelling made
spelling_is (Temp x) = refl
spelling_is (Sum x p) = append_assoc (decimal x) (46 ∷ []) (decimal p)
spelling_is (Operand x p i) =
    append_assoc ((decimal x ++ 46 ∷ []) ++ decimal p) (46 ∷ []) (decimal i)
    ∙ append_assoc (decimal x ++ 46 ∷ []) (decimal p) (46 ∷ decimal i)
    ∙ append_assoc (decimal x) (46 ∷ []) (decimal p ++ 46 ∷ decimal i)
spelling_is (Split p) = refl

same_spelling : (a b : Made) → FitsMade a → FitsMade b → spelling a ≡ spelling b → a ≡ b
same_spelling (Temp x) (Temp y) fa fb e = ap (λ n. Temp n) (same_decimal x y fa fb e)
same_spelling (Temp x) (Sum y p) fa fb e = absurd (no_point (decimal x) (decimal y) (decimal p) (decimal_digits x) e)
same_spelling (Temp x) (Operand y p i) fa fb e = absurd (no_point (decimal x) (decimal y) (decimal p ++ 46 ∷ decimal i) (decimal_digits x) e)
same_spelling (Temp x) (Split p) fa fb e = absurd (no_letter (decimal x) (46 ∷ decimal p) (decimal_digits x) e)
same_spelling (Sum x p) (Temp y) fa fb e = absurd (no_point (decimal y) (decimal x) (decimal p) (decimal_digits y) (sym e))
same_spelling (Sum x p) (Sum y q) fa fb e =
    let both = cut (decimal x) (decimal y) (decimal p) (decimal q) (decimal_digits x) (decimal_digits y) e in
    ap (λ n. Sum n p) (same_decimal x y fa.0 fb.0 both.0) ∙ ap (λ n. Sum y n) (same_decimal p q fa.1 fb.1 both.1)
same_spelling (Sum x p) (Operand y q i) fa fb e =
    let both = cut (decimal x) (decimal y) (decimal p) (decimal q ++ 46 ∷ decimal i) (decimal_digits x) (decimal_digits y) e in
    absurd (no_point (decimal p) (decimal q) (decimal i) (decimal_digits p) both.1)
same_spelling (Sum x p) (Split q) fa fb e = absurd (no_letter_first (decimal x) (decimal p) (46 ∷ decimal q) (decimal_digits x) e)
same_spelling (Operand x p i) (Temp y) fa fb e = absurd (no_point (decimal y) (decimal x) (decimal p ++ 46 ∷ decimal i) (decimal_digits y) (sym e))
same_spelling (Operand x p i) (Sum y q) fa fb e =
    let both = cut (decimal x) (decimal y) (decimal p ++ 46 ∷ decimal i) (decimal q) (decimal_digits x) (decimal_digits y) e in
    absurd (no_point (decimal q) (decimal p) (decimal i) (decimal_digits q) (sym both.1))
same_spelling (Operand x p i) (Operand y q j) fa fb e =
    let both = cut (decimal x) (decimal y) (decimal p ++ 46 ∷ decimal i) (decimal q ++ 46 ∷ decimal j) (decimal_digits x) (decimal_digits y) e in
    let more = cut (decimal p) (decimal q) (decimal i) (decimal j) (decimal_digits p) (decimal_digits q) both.1 in
    ap (λ n. Operand n p i) (same_decimal x y fa.0 fb.0 both.0) ∙ ap (λ n. Operand y n i) (same_decimal p q fa.1 fb.1 more.0) ∙ ap (λ n. Operand y q n) (same_decimal i j fa.2 fb.2 more.1)
same_spelling (Operand x p i) (Split q) fa fb e = absurd (no_letter_first (decimal x) (decimal p ++ 46 ∷ decimal i) (46 ∷ decimal q) (decimal_digits x) e)
same_spelling (Split p) (Temp y) fa fb e = absurd (no_letter (decimal y) (46 ∷ decimal p) (decimal_digits y) (sym e))
same_spelling (Split p) (Sum y q) fa fb e = absurd (no_letter_first (decimal y) (decimal q) (46 ∷ decimal p) (decimal_digits y) (sym e))
same_spelling (Split p) (Operand y q i) fa fb e = absurd (no_letter_first (decimal y) (decimal q ++ 46 ∷ decimal i) (46 ∷ decimal p) (decimal_digits y) (sym e))
same_spelling (Split p) (Split q) fa fb e =
    ap (λ n. Split n) (same_decimal p q fa fb (rest_same 46 46 (decimal p) (decimal q) (rest_same 98 98 (46 ∷ decimal p) (46 ∷ decimal q) e)))

pub same_made : (j : ℕ) (a b : Made) → FitsMade a → FitsMade b → spelled (MadeName j a) ≡ spelled (MadeName j b) → a ≡ b
same_made j a b fa fb e =
    let texts : prefix j ++ parts a ≡ prefix j ++ parts b = cc in
    same_spelling a b fa fb (sym (spelling_is a) ∙ append_cancel_left (prefix j) (parts a) (parts b) texts ∙ spelling_is b)
