-- The names that tokens spell can be written.
use Rattle.std.proofs.Common.{◌≡◌, ℕ, ◌+◌, ◌-◌, ◌<◌, ◌&&◌, ◌||◌, ◌==◌, min, not, Bool, true, false, cond, List, [], ◌∷◌, ◌++◌, length, take, drop, refl, sym, ap, subst, ◌∙◌, ◌⊎◌, inl, inr, arith, codes}
use Rattle.std.specs.List.{list_all}
use Rattle.std.specs.Str.Parse.{digits_value}
use Rattle.std.specs.Char.{is_ascii_alphabetic}
use Rattle.std.proofs.lemmas.List.{take_at, length-append}
use Rattle.ir_types.specs.Bytes.{heads, is_one_of, is_digit, is_name_byte, is_quotable, is_plain_name}
use Rattle.ir_types.specs.Names.{IsNameText, no_number}
use Rattle.ir_types.specs.Written.{IsWritten}
use Rattle.ir_types.specs.declared.name.Name.TheVariants.{Text, Number}
use Rattle.ir_lexer.specs.Texts.{IsRun, IsQuoted, IsName, IsText}
use Rattle.ir_lexer.specs.declared.token.TokenKind.{TokenKind}
use Rattle.ir_lexer.specs.declared.token.TokenKind.TheVariants as kinds
use Rattle.ir_parser.specs.Words.{unquoted, name_of, local_name, global_name, label_name}
use Rattle.ir_parser.specs.Tokens.{place_of}

-- ---- names

pub both : (a b : Bool) → a && b ≡ true → (a ≡ true) × (b ≡ true)
both true b e = (refl, e)
both false b e = absurd cc

-- a test that implies another, byte by byte
implied : (p q : ℕ → Bool) → ((b : ℕ) → p b ≡ true → q b ≡ true) → (bytes : List ℕ) → list_all p bytes ≡ true → list_all q bytes ≡ true
implied p q to [] all = refl
implied p q to (b ∷ bs) all = let h = both (p b) (list_all p bs) all in rw (to b h.0, implied p q to bs h.1) refl

or_cases : (a b : Bool) → a || b ≡ true → (a ≡ true) ⊎ (b ≡ true)
or_cases true b e = inl refl
or_cases false b e = inr e

alphabetic_quotable : (b : ℕ) → is_ascii_alphabetic b ≡ true → is_quotable b ≡ true
alphabetic_quotable b e = grind arith

digit_quotable : (b : ℕ) → is_digit b ≡ true → is_quotable b ≡ true
digit_quotable b e = grind arith

sign_quotable : (b : ℕ) → is_one_of (codes "-$._") b ≡ true → is_quotable b ≡ true
sign_quotable b e = grind arith

name_byte_quotable : (b : ℕ) → is_name_byte b ≡ true → is_quotable b ≡ true
name_byte_quotable b e = by_cases (or_cases (is_ascii_alphabetic b || is_digit b) (is_one_of (codes "-$._") b) e)
  where
    by_first : (is_ascii_alphabetic b ≡ true) ⊎ (is_digit b ≡ true) → is_quotable b ≡ true
    by_first (inl h) = alphabetic_quotable b h
    by_first (inr h) = digit_quotable b h

    by_cases : (is_ascii_alphabetic b || is_digit b ≡ true) ⊎ (is_one_of (codes "-$._") b ≡ true) → is_quotable b ≡ true
    by_cases (inl h) = by_first (or_cases (is_ascii_alphabetic b) (is_digit b) h)
    by_cases (inr h) = sign_quotable b h

of_run : (bytes : List ℕ) → 0 < length bytes → list_all is_name_byte bytes ≡ true → IsNameText bytes
of_run bytes some all = record { some = some; quotable = implied is_name_byte is_quotable name_byte_quotable bytes all }

-- a run of name bytes has no quote at its front
no_quote : (bytes : List ℕ) → list_all is_name_byte bytes ≡ true → unquoted bytes ≡ bytes
no_quote [] all = refl
no_quote (b ∷ bs) all = go (b == 34) refl
  where
    same : b == 34 ≡ true → b ≡ 34
    same h = grind arith

    fails : b == 34 ≡ true → b == 34 ≡ false
    fails h = absurd (let x : is_name_byte 34 ≡ true = subst (λ y. is_name_byte y ≡ true) (same h) (both (is_name_byte b) (list_all is_name_byte bs) all).0 in cc)

    unquoted_is : b == 34 ≡ false → unquoted (b ∷ bs) ≡ b ∷ bs
    unquoted_is h = rw h refl

    go : (r : Bool) → b == 34 ≡ r → unquoted (b ∷ bs) ≡ b ∷ bs
    go true h = unquoted_is (fails h)
    go false h = unquoted_is h

either_name : (d : Bool) (n : ℕ) (text : List ℕ) → IsNameText text → IsWritten (cond d (Number n) (Text text))
either_name true n text is = tt
either_name false n text is = is

run_written : (bytes : List ℕ) → 0 < length bytes → list_all is_name_byte bytes ≡ true → IsWritten (name_of bytes)
run_written bytes some all =
    let P : List ℕ → Type 0 = IsNameText in
    either_name (list_all is_digit bytes) (min (digits_value 10 bytes) no_number) (unquoted bytes) (subst P (sym (no_quote bytes all)) (of_run bytes some all))

unquoted_is : (name : List ℕ) → unquoted (34 ∷ (name ++ 34 ∷ [])) ≡ name
unquoted_is name = let n : length (34 ∷ (name ++ 34 ∷ [])) - 2 ≡ length name = omega (arith, len) in ap (λ k. take k (name ++ 34 ∷ [])) n ∙ take_at name (34 ∷ []) (length name) refl
  where
    len : length (name ++ 34 ∷ []) ≡ length name + 1
    len = length-append name (34 ∷ [])

quoted_written : (bytes : List ℕ) → IsQuoted bytes → IsWritten (name_of bytes)
quoted_written bytes is = let P : List ℕ → Type 0 = λ l. IsWritten (name_of l) in subst P (sym is.spelled) (subst IsNameText (sym (unquoted_is is.name)) (record { some = is.is.0; quotable = is.is.1 }))

digit_name_byte : (b : ℕ) → is_digit b ≡ true → is_name_byte b ≡ true
digit_name_byte b e = grind arith

plain_run : (bytes : List ℕ) → is_plain_name bytes ≡ true → (0 < length bytes) × (list_all is_name_byte bytes ≡ true)
plain_run [] e = absurd cc
plain_run (b ∷ bs) e = (omega arith, (both (not (length (b ∷ bs) == 0) && not (heads is_digit (b ∷ bs))) (list_all is_name_byte (b ∷ bs)) e).1)

name_written : (bytes : List ℕ) → IsName bytes → IsWritten (name_of bytes)
name_written bytes (inl digits) = run_written bytes digits.0 (implied is_digit is_name_byte digit_name_byte bytes digits.1)
name_written bytes (inr (inl plain)) = let h = plain_run bytes plain in run_written bytes h.0 h.1
name_written bytes (inr (inr quoted)) = quoted_written bytes quoted

label_written : (bytes : List ℕ) → IsRun is_name_byte bytes ⊎ IsQuoted bytes → IsWritten (name_of bytes)
label_written bytes (inl run) = run_written bytes run.0 run.1
label_written bytes (inr quoted) = quoted_written bytes quoted

before_colon : (text : List ℕ) → take (length (text ++ 58 ∷ []) - 1) (text ++ 58 ∷ []) ≡ text
before_colon text = let n : length (text ++ 58 ∷ []) - 1 ≡ length text = omega (arith, len) in ap (λ k. take k (text ++ 58 ∷ [])) n ∙ take_at text (58 ∷ []) (length text) refl
  where
    len : length (text ++ 58 ∷ []) ≡ length text + 1
    len = length-append text (58 ∷ [])

-- ---- tokens

pub local_token : (k : TokenKind) (text : List ℕ) → place_of k == place_of kinds.Local ≡ true → IsText k text → IsWritten (local_name text)
local_token kinds.Local text e is = let P : List ℕ → Type 0 = λ l. IsWritten (local_name l) in subst P (sym is.spelled) (name_written is.name is.is)
local_token kinds.Global text e is = absurd cc
local_token kinds.Label text e is = absurd cc
local_token kinds.Number text e is = absurd cc
local_token kinds.Word text e is = absurd cc
local_token kinds.Hash text e is = absurd cc
local_token kinds.Bang text e is = absurd cc
local_token kinds.Punct text e is = absurd cc

pub label_token : (k : TokenKind) (text : List ℕ) → place_of k == place_of kinds.Label ≡ true → IsText k text → IsWritten (label_name text)
label_token kinds.Label text e is =
    let P : List ℕ → Type 0 = λ l. IsWritten (label_name l) in
    let Q : List ℕ → Type 0 = λ l. IsWritten (name_of l) in
    subst P (sym is.spelled) (subst Q (sym (before_colon is.name)) (label_written is.name is.is))
label_token kinds.Local text e is = absurd cc
label_token kinds.Global text e is = absurd cc
label_token kinds.Number text e is = absurd cc
label_token kinds.Word text e is = absurd cc
label_token kinds.Hash text e is = absurd cc
label_token kinds.Bang text e is = absurd cc
label_token kinds.Punct text e is = absurd cc

-- ---- globals

-- a name that isn't all digits, without its quotes
global_written : (bytes : List ℕ) → IsName bytes → list_all is_digit bytes ≡ false → IsNameText (unquoted bytes)
global_written bytes (inl digits) e = absurd (let a : list_all is_digit bytes ≡ true = digits.1 in let b : true ≡ false = sym a ∙ e in cc)
global_written bytes (inr (inl plain)) e = let h = plain_run bytes plain in let P : List ℕ → Type 0 = IsNameText in subst P (sym (no_quote bytes h.1)) (of_run bytes h.0 h.1)
global_written bytes (inr (inr quoted)) e = let P : List ℕ → Type 0 = λ l. IsNameText (unquoted l) in subst P (sym quoted.spelled) (subst IsNameText (sym (unquoted_is quoted.name)) (record { some = quoted.is.0; quotable = quoted.is.1 }))

not_false : (b : Bool) → not b ≡ true → b ≡ false
not_false true e = absurd cc
not_false false e = refl

pub global_token : (k : TokenKind) (text : List ℕ) → (place_of k == place_of kinds.Global) && not (list_all is_digit (drop 1 text)) ≡ true → IsText k text → IsNameText (global_name text)
global_token kinds.Global text e is = let h : list_all is_digit (drop 1 text) ≡ false = not_false _ e in let P : List ℕ → Type 0 = λ l. list_all is_digit (drop 1 l) ≡ false → IsNameText (global_name l) in subst P (sym is.spelled) (global_written is.name is.is) h
global_token kinds.Local text e is = absurd cc
global_token kinds.Label text e is = absurd cc
global_token kinds.Number text e is = absurd cc
global_token kinds.Word text e is = absurd cc
global_token kinds.Hash text e is = absurd cc
global_token kinds.Bang text e is = absurd cc
global_token kinds.Punct text e is = absurd cc
