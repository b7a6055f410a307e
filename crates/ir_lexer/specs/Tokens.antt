-- The tokens of a text, with the places where they stand.
use Rattle.std.specs.Prelude.{◌≡◌, ◌<◌, ◌≤◌, ℕ, zero, suc, ◌+◌, ◌-◌, ◌==◌, ◌&&◌, ◌||◌, true, List, [], ◌∷◌, length, take, drop, map, Result, Ok, Err, if◌then◌else◌}
use Rattle.ir_types.specs.Bytes.{is_blank}
use Rattle.ir_types.specs.declared.span.Span.{Span}
use Rattle.ir_lexer.specs.Lexeme.{Lexeme, lexeme}
use Rattle.ir_lexer.specs.declared.token.Token.{Token}
use Rattle.ir_lexer.specs.declared.lexing.Place.{Place}
use Rattle.ir_lexer.specs.declared.lexing.LexError.{LexError}
use Rattle.ir_lexer.specs.declared.lexing.LexError.TheVariants.{BadByte, NoMemory}
use Rattle.ir_lexer.specs.declared.pieces.Piece.{Piece}
use Rattle.ir_lexer.specs.declared.pieces.Piece.TheVariants.{Gap, Spelled, Bad}
use Rattle.ir_lexer.specs.Pieces.{piece_of}

-- the place behind a byte; a line's number is one more than the line feeds before it
abbrev pub past_byte : ℕ → Place → Place
past_byte b here = record {
  line = if b == 10 then here.line + 1 else here.line;
  offset = here.offset + 1;
  fresh = (b == 10) || (here.fresh && is_blank b);
}

-- the place behind these bytes
abbrev pub past : List ℕ → Place → Place
past [] here = here
past (b ∷ bs) here = past bs (past_byte b here)

-- the place of a text's first byte
abbrev pub start : Place
start = record { line = 1; offset = 0; fresh = true }

-- a byte that starts no token, and where it stands
pub record Wrong : Type 0 where
  pub span : Span
  pub byte : ℕ

abbrev pub Lexing : Type 0
Lexing = Result (List Lexeme) Wrong

abbrev pub with_first : Lexeme → Lexing → Lexing
with_first t (Ok ts) = Ok (t ∷ ts)
with_first t (Err wrong) = Err wrong

-- n bytes from here on
abbrev pub span_of : Place → ℕ → Span
span_of here n = record { line = here.line; start = here.offset; end = here.offset + n }

-- the empty span at the end of a text
abbrev pub end_of : List ℕ → Span
end_of bytes = span_of (past bytes start) 0

-- the token, where there is one, and what goes on behind so many bytes
abbrev pub on_piece : Piece → Place → ℕ → List ℕ → (ℕ → Lexing) → Lexing
on_piece (Gap n) here b bytes go = go n
on_piece (Spelled kind n) here b bytes go = with_first (record { kind = kind; text = take n bytes; span = span_of here n }) (go n)
on_piece Bad here b bytes go = Err (record { span = span_of here 1; byte = b })

-- the tokens behind n bytes that are passed over first
abbrev pub tokens_behind : Place → ℕ → List ℕ → Lexing
tokens_behind here n [] = Ok []
tokens_behind here (suc n) (b ∷ bs) = tokens_behind (past_byte b here) n bs
tokens_behind here zero (b ∷ bs) = on_piece (piece_of here.fresh (b ∷ bs)) here b (b ∷ bs) (λ n. tokens_behind (past_byte b here) (n - 1) bs)

-- the tokens of a text, or the first byte that starts none
unfoldable pub tokens_of : List ℕ → Lexing
tokens_of bytes = tokens_behind start 0 bytes

-- the tokens that were returned are these, unless memory ran out
abbrev pub GivesTokens : {V : Type 0} → (V → List Token) → Result V LexError → Lexing → Type 0
GivesTokens view (Ok ts) lexing = lexing ≡ Ok (map lexeme (view ts))
GivesTokens view (Err NoMemory) lexing = Unit {0}
GivesTokens view (Err (BadByte span byte)) lexing = lexing ≡ Err (record { span = span; byte = byte })

-- a token's text is the text's slice at its span
abbrev pub IsSliceOf : List ℕ → Lexeme → Type 0
IsSliceOf source t = (t.span.end ≤ length source) × (t.text ≡ take (t.span.end - t.span.start) (drop t.span.start source))

-- each token begins at this offset or later, and behind the one before it
abbrev pub IsOrderedFrom : ℕ → List Lexeme → Type 0
IsOrderedFrom offset [] = Unit {0}
IsOrderedFrom offset (t ∷ ts) = (offset ≤ t.span.start) × (t.span.start < t.span.end) × IsOrderedFrom t.span.end ts
