-- Worked rows: what the definitions answer on a text, by computation alone.
use Rattle.std.proofs.Common.{◌≡◌, ℕ, List, [], ◌∷◌, Ok, Err, refl, codes}
use Rattle.ir_lexer.specs.declared.token.TokenKind.{TokenKind}
use Rattle.ir_lexer.specs.declared.token.TokenKind.TheVariants.{Local, Label, Word, Hash}
use Rattle.ir_lexer.specs.Lexeme.{Lexeme}
use Rattle.ir_lexer.specs.Pieces.{name_piece, sign_piece, quoted_piece, run_piece, piece_of}
use Rattle.ir_lexer.specs.Tokens.{tokens_of}

abbrev at : TokenKind → List ℕ → ℕ → ℕ → ℕ → Lexeme
at kind text line start end = record { kind = kind; text = text; span = record { line = line; start = start; end = end } }

-- digits end where a letter follows, and a name that digits begin may still be a label
digits_end : tokens_of (codes "%5x 1a:") ≡ Ok (at Local (codes "%5") 1 0 2 ∷ at Word (codes "x") 1 2 3 ∷ at Label (codes "1a:") 1 4 7 ∷ [])
unfolding tokens_of piece_of name_piece sign_piece quoted_piece run_piece
digits_end = refl

-- a dropped line, a label that is none, and a comment
lines_dropped : tokens_of (codes " target x = ?\ntarget: #0;?\n!0") ≡ Ok (at Label (codes "target:") 2 14 21 ∷ at Hash (codes "#0") 2 22 24 ∷ [])
unfolding tokens_of piece_of name_piece sign_piece quoted_piece run_piece
lines_dropped = refl

-- an open quote is refused at its sign
open_quote : tokens_of (codes "(\n%\"a b") ≡ Err (record { span = record { line = 2; start = 2; end = 3 }; byte = 37 })
unfolding tokens_of piece_of name_piece sign_piece quoted_piece run_piece
open_quote = refl
