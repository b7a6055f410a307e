-- One token at the front of a text is lexed as it was spelled.
use Rattle.std.proofs.Common.{◌≡◌, ℕ, ◌+◌, ◌<◌, Bool, true, false, cond, ◌&&◌, ◌||◌, nat_lt, List, [], ◌∷◌, ◌++◌, length, take, drop, refl, sym, ap, subst, ◌∙◌, arith, ◌==◌, ◌⊎◌, inl, inr, append_assoc, codes, not}
use Rattle.std.specs.List.{prefix_len, list_all}
use Rattle.std.specs.Char.{is_ascii_alphabetic}
use Rattle.std.proofs.lemmas.Bool.{lt-ltb}
use Rattle.std.proofs.lemmas.List.{take_at, drop_at, length-append}
use Rattle.ir_types.specs.Bytes.{heads, is_one_of, is_digit, is_name_byte, is_quotable}
use Rattle.ir_lexer.specs.declared.token.TokenKind.{TokenKind}
use Rattle.ir_lexer.specs.declared.token.TokenKind.TheVariants.{Local, Global, Label, Number, Word, Hash, Bang, Punct}
use Rattle.ir_lexer.specs.declared.pieces.Piece.{Piece}
use Rattle.ir_lexer.specs.declared.pieces.Piece.TheVariants.{Spelled, Bad}
use Rattle.ir_lexer.specs.Pieces.{is_mark, is_number, is_closed, quoted_len, is_dropped, name_piece, sign_piece, quoted_piece, run_piece, piece_of}
use Rattle.ir_lexer.specs.Texts.{IsRun, IsQuoted, IsName, IsLabel, IsMark, IsText, IsKept, Ends, is_dropped_word}
use Rattle.ir_lexer.proofs.Sized.{and_both}
use Rattle.ir_lexer.proofs.Bytes.{not_byte, not_blank, all_cons, run_len, one_of_fails, is_gap, run_dropped, first_dropped, and_false, fails}

-- ---- runs

-- a run of name bytes that begins no dropped line is read as a run
starts_run : (fresh : Bool) (b : ℕ) (bs : List ℕ) → is_name_byte b ≡ true → fresh && is_dropped (b ∷ bs) ≡ false → piece_of fresh (b ∷ bs) ≡ run_piece (b ∷ bs) (prefix_len is_name_byte (b ∷ bs))
unfolding piece_of
starts_run fresh b bs e dropped =
    let blank = not_blank is_name_byte b refl refl refl refl e in
    let semicolon = not_byte is_name_byte 59 b refl e in
    let percent = not_byte is_name_byte 37 b refl e in
    let at = not_byte is_name_byte 64 b refl e in
    let hash = not_byte is_name_byte 35 b refl e in
    let bang = not_byte is_name_byte 33 b refl e in
    let quote = not_byte is_name_byte 34 b refl e in
    rw (blank, dropped, semicolon, percent, at, hash, bang, quote, e) refl

run_is : (fresh : Bool) (b : ℕ) (bs more : List ℕ) → list_all is_name_byte (b ∷ bs) ≡ true → heads is_name_byte more ≡ false → is_dropped ((b ∷ bs) ++ more) ≡ false
    → piece_of fresh ((b ∷ bs) ++ more) ≡ run_piece ((b ∷ bs) ++ more) (length (b ∷ bs))
run_is fresh b bs more all ends kept =
    starts_run fresh b (bs ++ more) (all_cons is_name_byte b bs all).0 (and_false fresh (is_dropped ((b ∷ bs) ++ more)) kept)
    ∙ ap (run_piece ((b ∷ bs) ++ more)) (run_len is_name_byte (b ∷ bs) more all ends)

run_choice : (bytes behind run : List ℕ) (n : ℕ) → drop n bytes ≡ behind → take n bytes ≡ run → run_piece bytes n ≡ cond (heads (λ b. b == 58) behind) (Spelled Label (1 + n)) (cond (is_number run) (Spelled Number n) (Spelled Word n))
unfolding run_piece
run_choice bytes behind run n d t =
    ap (λ (l : List ℕ). cond (heads (λ b. b == 58) l) (Spelled Label (1 + n)) (cond (is_number (take n bytes)) (Spelled Number n) (Spelled Word n))) d
    ∙ ap (λ (l : List ℕ). cond (heads (λ b. b == 58) behind) (Spelled Label (1 + n)) (cond (is_number l) (Spelled Number n) (Spelled Word n))) t

run_at : (text more : List ℕ) → run_piece (text ++ more) (length text) ≡ cond (heads (λ b. b == 58) more) (Spelled Label (1 + length text)) (cond (is_number text) (Spelled Number (length text)) (Spelled Word (length text)))
run_at text more = run_choice (text ++ more) more text (length text) (drop_at text more (length text) refl) (take_at text more (length text) refl)

-- the token of this kind and length stands at the front of the text and what follows
abbrev pub IsLexed : Bool → TokenKind → List ℕ → List ℕ → Type 0
IsLexed fresh kind text more = (piece_of fresh (text ++ more) ≡ Spelled kind (length text)) × (0 < length text)

and_no : (r : Bool) → r && false ≡ false
and_no true = refl
and_no false = refl

-- what a number begins with
abbrev is_number_byte : ℕ → Bool
is_number_byte b = b == 45 || is_digit b

number_begins : (b : ℕ) (bs : List ℕ) → is_number (b ∷ bs) ≡ true → is_number_byte b ≡ true
number_begins b bs e = go (b == 45) e
  where
    go : (r : Bool) → not (length (cond r bs (b ∷ bs)) == 0) && list_all is_digit (cond r bs (b ∷ bs)) ≡ true → r || is_digit b ≡ true
    go true e = refl
    go false e = (all_cons is_digit b bs (and_both (not (length (b ∷ bs) == 0)) (list_all is_digit (b ∷ bs)) e).1).0

number_lexed : (fresh : Bool) (text more : List ℕ) → IsText Number text → Ends Number more → IsLexed fresh Number text more
number_lexed fresh [] more (run, is) ends = absurd (let l = run.0 in omega arith)
number_lexed fresh (b ∷ bs) more (run, is) ends =
    let kept = first_dropped is_number_byte b (bs ++ more) refl refl refl refl (number_begins b bs is) in
    (run_is fresh b bs more run.1 ends.0 kept ∙ run_at (b ∷ bs) more ∙ rw (ends.1, is) refl, run.0)

word_lexed : (fresh : Bool) (text more : List ℕ) → IsText Word text → IsKept Word text → Ends Word more → IsLexed fresh Word text more
word_lexed fresh [] more (run, is) word ends = absurd (let l = run.0 in omega arith)
word_lexed fresh (b ∷ bs) more (run, is) word ends =
    let kept : is_dropped ((b ∷ bs) ++ more) ≡ false = run_dropped b bs more run.1 ends.0 ∙ ap (λ r. r && heads is_gap more) word in
    (run_is fresh b bs more run.1 ends.0 kept ∙ run_at (b ∷ bs) more ∙ rw (ends.1, is) refl, run.0)

run_label : (fresh : Bool) (name more : List ℕ) → IsRun is_name_byte name → piece_of fresh (name ++ 58 ∷ more) ≡ Spelled Label (1 + length name)
run_label fresh [] more run = absurd (let l = run.0 in omega arith)
run_label fresh (b ∷ bs) more run =
    let kept : is_dropped ((b ∷ bs) ++ 58 ∷ more) ≡ false = run_dropped b bs (58 ∷ more) run.1 refl ∙ and_no (is_dropped_word (b ∷ bs)) in
    run_is fresh b bs (58 ∷ more) run.1 refl kept ∙ run_at (b ∷ bs) (58 ∷ more)

-- ---- quoted names

closed_at : (name more : List ℕ) → 0 < length name → is_closed (name ++ 34 ∷ more) (length name) ≡ true
closed_at name more some =
    ap (λ r. r && heads (λ b. b == 34) (drop (length name) (name ++ 34 ∷ more))) (lt-ltb 0 (length name) some)
    ∙ ap (heads (λ b. b == 34)) (drop_at name (34 ∷ more) (length name) refl)

named_at : (name more : List ℕ) → IsRun is_quotable name → quoted_len (34 ∷ (name ++ 34 ∷ more)) ≡ 2 + length name
named_at name more run =
    let len : prefix_len is_quotable (name ++ 34 ∷ more) ≡ length name = run_len is_quotable name (34 ∷ more) run.1 refl in
    ap (λ n. cond (is_closed (name ++ 34 ∷ more) n) (2 + n) 0) len ∙ ap (λ r. cond r (2 + length name) 0) (closed_at name more run.0)

pub quoted_at : (text more : List ℕ) → IsQuoted text → quoted_len (text ++ more) ≡ length text
quoted_at text more quoted =
    let name = quoted.name in
    let joined : text ++ more ≡ 34 ∷ (name ++ 34 ∷ more) = ap (λ (l : List ℕ). l ++ more) quoted.spelled ∙ ap (λ (l : List ℕ). 34 ∷ l) (append_assoc name (34 ∷ []) more) in
    let len : length text ≡ 2 + length name = ap length quoted.spelled ∙ omega (arith, length-append name (34 ∷ [])) in
    ap quoted_len joined ∙ named_at name more quoted.is ∙ sym len

quoted_some : (text : List ℕ) → IsQuoted text → 0 < length text
quoted_some text quoted = let len = ap length quoted.spelled in omega (arith, len)

quote_is : (fresh : Bool) (bytes : List ℕ) → piece_of fresh (34 ∷ bytes) ≡ quoted_piece (34 ∷ bytes) (quoted_len (34 ∷ bytes))
unfolding piece_of
quote_is true bytes = refl
quote_is false bytes = refl

starts_quoted : (fresh : Bool) (text more : List ℕ) → IsQuoted text → piece_of fresh (text ++ more) ≡ quoted_piece (text ++ more) (quoted_len (text ++ more))
starts_quoted fresh text more quoted =
    subst (λ (l : List ℕ). piece_of fresh (l ++ more) ≡ quoted_piece (l ++ more) (quoted_len (l ++ more))) (sym quoted.spelled) (quote_is fresh ((quoted.name ++ 34 ∷ []) ++ more))

quoted_choice : (bytes more : List ℕ) (n : ℕ) → 0 < n → drop n bytes ≡ 58 ∷ more → quoted_piece bytes n ≡ Spelled Label (1 + n)
unfolding quoted_piece
quoted_choice bytes more n some d =
    ap (λ r. cond (r && heads (λ b. b == 58) (drop n bytes)) (Spelled Label (1 + n)) Bad) (lt-ltb 0 n some)
    ∙ ap (λ (l : List ℕ). cond (heads (λ b. b == 58) l) (Spelled Label (1 + n)) Bad) d

quoted_label : (fresh : Bool) (name more : List ℕ) → IsQuoted name → piece_of fresh (name ++ 58 ∷ more) ≡ Spelled Label (1 + length name)
quoted_label fresh name more quoted =
    starts_quoted fresh name (58 ∷ more) quoted
    ∙ ap (quoted_piece (name ++ 58 ∷ more)) (quoted_at name (58 ∷ more) quoted)
    ∙ quoted_choice (name ++ 58 ∷ more) more (length name) (quoted_some name quoted) (drop_at name (58 ∷ more) (length name) refl)

name_label : (fresh : Bool) (name more : List ℕ) → IsRun is_name_byte name ⊎ IsQuoted name → piece_of fresh (name ++ 58 ∷ more) ≡ Spelled Label (1 + length name)
name_label fresh name more (inl run) = run_label fresh name more run
name_label fresh name more (inr quoted) = quoted_label fresh name more quoted

label_lexed : (fresh : Bool) (text more : List ℕ) → IsLabel text → IsLexed fresh Label text more
label_lexed fresh text more label =
    let name = label.name in
    let joined : text ++ more ≡ name ++ 58 ∷ more = ap (λ (l : List ℕ). l ++ more) label.spelled ∙ append_assoc name (58 ∷ []) more in
    let len : length text ≡ 1 + length name = ap length label.spelled ∙ omega (arith, length-append name (58 ∷ [])) in
    (ap (piece_of fresh) joined ∙ name_label fresh name more label.is ∙ ap (Spelled Label) (sym len), omega (arith, len))

-- ---- names behind a sign

or_right : (a b c : Bool) → b ≡ true → a || b || c ≡ true
or_right true b c e = refl
or_right false b c e = rw e refl

digit_ends : (more : List ℕ) → heads is_name_byte more ≡ false → heads is_digit more ≡ false
digit_ends [] e = refl
digit_ends (b ∷ bs) e = go (is_digit b) refl
  where
    go : (r : Bool) → is_digit b ≡ r → r ≡ false
    go true p = absurd (let f : true ≡ false = sym (or_right (is_ascii_alphabetic b) (is_digit b) (is_one_of (codes "-$._") b) p) ∙ e in cc)
    go false p = refl

second : (d n : Bool) (x y w : Piece) → d ≡ false → n ≡ true → cond d x (cond n y w) ≡ y
second d n x y w e f = rw (e, f) refl

name_is : (kind : TokenKind) (name more : List ℕ) → IsName name → heads is_name_byte more ≡ false → name_piece kind (name ++ more) ≡ Spelled kind (1 + length name)
unfolding name_piece
name_is kind [] more (inl run) ends = absurd (let l = run.0 in omega arith)
name_is kind (b ∷ bs) more (inl run) ends = rw (run_len is_digit (b ∷ bs) more run.1 (digit_ends more ends), (all_cons is_digit b bs run.1).0) refl
name_is kind [] more (inr (inl plain)) ends = absurd cc
name_is kind (b ∷ bs) more (inr (inl plain)) ends =
    let both = and_both (not (length (b ∷ bs) == 0) && not (is_digit b)) (list_all is_name_byte (b ∷ bs)) plain in
    let letter = fails (is_digit b) (and_both (not (length (b ∷ bs) == 0)) (not (is_digit b)) both.0).1 in
    second (is_digit b) (is_name_byte b) _ _ _ letter (all_cons is_name_byte b bs both.1).0 ∙ ap (λ n. Spelled kind (1 + n)) (run_len is_name_byte (b ∷ bs) more both.1 ends)
name_is kind name more (inr (inr quoted)) ends =
    subst (λ (l : List ℕ). cond (heads is_digit (l ++ more)) (Spelled kind (1 + prefix_len is_digit (l ++ more))) (cond (heads is_name_byte (l ++ more)) (Spelled kind (1 + prefix_len is_name_byte (l ++ more))) piece) ≡ piece) (sym quoted.spelled) refl
    ∙ ap (λ n. cond (nat_lt 0 n) (Spelled kind (1 + n)) Bad) (quoted_at name more quoted)
    ∙ ap (λ r. cond r (Spelled kind (1 + length name)) Bad) (lt-ltb 0 (length name) (quoted_some name quoted))
  where
    piece : Piece
    piece = cond (nat_lt 0 (quoted_len (name ++ more))) (Spelled kind (1 + quoted_len (name ++ more))) Bad

sign_is : (kind : TokenKind) (name more : List ℕ) → IsRun is_name_byte name → heads is_name_byte more ≡ false → sign_piece kind (name ++ more) ≡ Spelled kind (1 + length name)
unfolding sign_piece
sign_is kind [] more run ends = absurd (let l = run.0 in omega arith)
sign_is kind (b ∷ bs) more run ends = rw (run_len is_name_byte (b ∷ bs) more run.1 ends, (all_cons is_name_byte b bs run.1).0) refl

local_is : (fresh : Bool) (bytes : List ℕ) → piece_of fresh (37 ∷ bytes) ≡ name_piece Local bytes
unfolding piece_of
local_is true bytes = refl
local_is false bytes = refl

global_is : (fresh : Bool) (bytes : List ℕ) → piece_of fresh (64 ∷ bytes) ≡ name_piece Global bytes
unfolding piece_of
global_is true bytes = refl
global_is false bytes = refl

hash_is : (fresh : Bool) (bytes : List ℕ) → piece_of fresh (35 ∷ bytes) ≡ sign_piece Hash bytes
unfolding piece_of
hash_is true bytes = refl
hash_is false bytes = refl

signed_lexed : (fresh : Bool) (kind : TokenKind) (sign : ℕ) (name text more : List ℕ) → text ≡ sign ∷ name → piece_of fresh (sign ∷ (name ++ more)) ≡ Spelled kind (1 + length name) → IsLexed fresh kind text more
signed_lexed fresh kind sign name text more spelled piece =
    let len : length text ≡ 1 + length name = ap length spelled ∙ omega arith in
    (ap (λ (l : List ℕ). piece_of fresh (l ++ more)) spelled ∙ piece ∙ ap (Spelled kind) (sym len), omega (arith, len))

-- ---- marks

mark_is : (fresh : Bool) (b : ℕ) (more : List ℕ) → is_mark b ≡ true → piece_of fresh (b ∷ more) ≡ Spelled Punct 1
unfolding piece_of
mark_is fresh b more e =
    let blank = not_blank is_mark b refl refl refl refl e in
    let dropped = and_false fresh (is_dropped (b ∷ more)) (first_dropped is_mark b more refl refl refl refl e) in
    let semicolon = not_byte is_mark 59 b refl e in
    let percent = not_byte is_mark 37 b refl e in
    let at = not_byte is_mark 64 b refl e in
    let hash = not_byte is_mark 35 b refl e in
    let bang = not_byte is_mark 33 b refl e in
    let quote = not_byte is_mark 34 b refl e in
    let name : is_name_byte b ≡ false = one_of_fails is_name_byte (codes "=,(){}[]<>*") b refl e in
    rw (blank, dropped, semicolon, percent, at, hash, bang, quote, name, e) refl

mark_lexed : (fresh : Bool) (text more : List ℕ) → IsMark text → IsLexed fresh Punct text more
mark_lexed fresh text more mark = subst (λ (l : List ℕ). IsLexed fresh Punct l more) (sym mark.spelled) (mark_is fresh mark.mark more mark.is, omega arith)

-- ---- a token of any kind

pub is_lexed : (fresh : Bool) (kind : TokenKind) (text more : List ℕ) → IsText kind text → IsKept kind text → Ends kind more → IsLexed fresh kind text more
is_lexed fresh Local text more is kept ends = signed_lexed fresh Local 37 is.name text more is.spelled (local_is fresh (is.name ++ more) ∙ name_is Local is.name more is.is ends.0)
is_lexed fresh Global text more is kept ends = signed_lexed fresh Global 64 is.name text more is.spelled (global_is fresh (is.name ++ more) ∙ name_is Global is.name more is.is ends.0)
is_lexed fresh Label text more is kept ends = label_lexed fresh text more is
is_lexed fresh Number text more is kept ends = number_lexed fresh text more is ends
is_lexed fresh Word text more is kept ends = word_lexed fresh text more is kept ends
is_lexed fresh Hash text more is kept ends = signed_lexed fresh Hash 35 is.name text more is.spelled (hash_is fresh (is.name ++ more) ∙ sign_is Hash is.name more is.is ends.0)
is_lexed fresh Bang text more is kept ends = absurd kept
is_lexed fresh Punct text more is kept ends = mark_lexed fresh text more is
