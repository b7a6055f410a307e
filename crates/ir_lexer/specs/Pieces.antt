-- What stands at the front of a text: the longest token, or bytes that belong to none.
use Rattle.std.specs.Prelude.{◌<◌, ◌≤◌, ℕ, ◌+◌, ◌==◌, ◌&&◌, ◌||◌, nat_eq, nat_lt, not, Bool, List, [], ◌∷◌, length, take, drop, if◌then◌else◌, codes}
use Rattle.std.specs.List.{prefix_len, list_all, list_any, starts_with}
use Rattle.ir_types.specs.Bytes.{heads, is_one_of, is_blank, is_digit, is_name_byte, is_quotable}
use Rattle.ir_lexer.specs.declared.token.TokenKind.{TokenKind}
use Rattle.ir_lexer.specs.declared.token.TokenKind.TheVariants.{Local, Global, Label, Number, Word, Hash, Bang, Punct}
use Rattle.ir_lexer.specs.declared.pieces.Piece.{Piece}
use Rattle.ir_lexer.specs.declared.pieces.Piece.TheVariants.{Gap, Spelled, Bad}

abbrev pub is_mark : ℕ → Bool
is_mark b = is_one_of (codes "=,(){}[]<>*") b

-- no line feed
abbrev pub is_in_line : ℕ → Bool
is_in_line b = not (b == 10)

-- behind a minus sign, where one comes first
abbrev pub without_sign : List ℕ → List ℕ
without_sign [] = []
without_sign (b ∷ bs) = if b == 45 then bs else b ∷ bs

-- -?[0-9]+
abbrev pub is_number : List ℕ → Bool
is_number bytes = not (length (without_sign bytes) == 0) && list_all is_digit (without_sign bytes)

-- a quote stands behind n bytes, which are some
abbrev pub is_closed : List ℕ → ℕ → Bool
is_closed bytes n = nat_lt 0 n && heads (λ b. b == 34) (drop n bytes)

-- how many bytes the quoted name at the front has, quotes counted; 0 where there is none
abbrev pub quoted_len : List ℕ → ℕ
quoted_len [] = 0
quoted_len (b ∷ bs) = if b == 34 && is_closed bs (prefix_len is_quotable bs) then 2 + prefix_len is_quotable bs else 0

-- the words that begin a dropped line
abbrev pub dropped_words : List (List ℕ)
dropped_words = codes "source_filename" ∷ codes "target" ∷ codes "attributes" ∷ []

-- the bytes begin with the word and a space or tab
abbrev pub leads : List ℕ → List ℕ → Bool
leads bytes word = starts_with nat_eq bytes word && heads (λ b. b == 32 || b == 9) (drop (length word) bytes)

-- from here on, behind the blanks at its front, a line is dropped
abbrev pub is_dropped : List ℕ → Bool
is_dropped bytes = heads (λ b. b == 33) bytes || list_any (leads bytes) dropped_words

-- behind % or @: digits, or a plain name, or a quoted name
unfoldable pub name_piece : TokenKind → List ℕ → Piece
name_piece kind bytes =
    if heads is_digit bytes then Spelled kind (1 + prefix_len is_digit bytes)
    else (if heads is_name_byte bytes then Spelled kind (1 + prefix_len is_name_byte bytes)
    else (if nat_lt 0 (quoted_len bytes) then Spelled kind (1 + quoted_len bytes)
    else Bad))

-- behind # or !: name bytes
unfoldable pub sign_piece : TokenKind → List ℕ → Piece
sign_piece kind bytes = if heads is_name_byte bytes then Spelled kind (1 + prefix_len is_name_byte bytes) else Bad

-- a quoted name, which is a label where a colon follows
unfoldable pub quoted_piece : List ℕ → ℕ → Piece
quoted_piece bytes n = if nat_lt 0 n && heads (λ b. b == 58) (drop n bytes) then Spelled Label (1 + n) else Bad

-- n name bytes: a label where a colon follows
unfoldable pub run_piece : List ℕ → ℕ → Piece
run_piece bytes n =
    if heads (λ b. b == 58) (drop n bytes) then Spelled Label (1 + n)
    else (if is_number (take n bytes) then Spelled Number n
    else Spelled Word n)

-- `fresh` where only blanks stand before on the line
unfoldable pub piece_of : Bool → List ℕ → Piece
piece_of fresh [] = Bad
piece_of fresh (b ∷ bs) =
    if is_blank b then Gap 1
    else (if (fresh && is_dropped (b ∷ bs)) || b == 59 then Gap (prefix_len is_in_line (b ∷ bs))
    else (if b == 37 then name_piece Local bs
    else (if b == 64 then name_piece Global bs
    else (if b == 35 then sign_piece Hash bs
    else (if b == 33 then sign_piece Bang bs
    else (if b == 34 then quoted_piece (b ∷ bs) (quoted_len (b ∷ bs))
    else (if is_name_byte b then run_piece (b ∷ bs) (prefix_len is_name_byte (b ∷ bs))
    else (if is_mark b then Spelled Punct 1
    else Bad))))))))

-- a piece has a byte, and is within the bytes
abbrev pub IsSized : Piece → List ℕ → Type 0
IsSized (Gap n) bytes = (0 < n) × (n ≤ length bytes)
IsSized (Spelled kind n) bytes = (0 < n) × (n ≤ length bytes)
IsSized Bad bytes = Unit {0}
