-- What the texts of tokens may be, and texts of tokens with blanks between them.
use Rattle.std.specs.Prelude.{◌≡◌, ℕ, ◌<◌, ◌==◌, ◌⊎◌, Bool, List, [], ◌∷◌, ◌++◌, IsTrue, IsFalse, length, map, Ok}
use Rattle.std.specs.List.{flat_map, list_all, list_any}
use Rattle.std.specs.Str.{bytes_eq}
use Rattle.ir_types.specs.Bytes.{heads, is_blank, is_digit, is_name_byte, is_quotable, is_plain_name}
use Rattle.ir_lexer.specs.declared.token.TokenKind.{TokenKind}
use Rattle.ir_lexer.specs.declared.token.TokenKind.TheVariants.{Local, Global, Label, Number, Word, Hash, Bang, Punct}
use Rattle.ir_lexer.specs.Lexeme.{Lexeme}
use Rattle.ir_lexer.specs.Pieces.{is_mark, is_number, dropped_words}
use Rattle.ir_lexer.specs.Tokens.{tokens_of}

-- at least one byte, and each of the class
abbrev pub IsRun : (ℕ → Bool) → List ℕ → Type 0
IsRun test text = (0 < length text) × IsTrue (list_all test text)

-- a quote, a run of bytes that may be quoted, and a quote
pub record IsQuoted (text : List ℕ) : Type 0 where
  pub name : List ℕ
  pub is : IsRun is_quotable name
  pub spelled : text ≡ 34 ∷ (name ++ 34 ∷ [])

-- digits, or a plain name, or a quoted name
abbrev pub IsName : List ℕ → Type 0
IsName text = IsRun is_digit text ⊎ (IsTrue (is_plain_name text) ⊎ IsQuoted text)

-- this byte, and such a text behind it
pub record IsSigned (sign : ℕ) (Is : List ℕ → Type 0) (text : List ℕ) : Type 0 where
  pub name : List ℕ
  pub is : Is name
  pub spelled : text ≡ sign ∷ name

-- name bytes or a quoted name, and a colon
pub record IsLabel (text : List ℕ) : Type 0 where
  pub name : List ℕ
  pub is : IsRun is_name_byte name ⊎ IsQuoted name
  pub spelled : text ≡ name ++ 58 ∷ []

-- one mark
pub record IsMark (text : List ℕ) : Type 0 where
  pub mark : ℕ
  pub is : IsTrue (is_mark mark)
  pub spelled : text ≡ mark ∷ []

-- the text is one that a token of the kind may have
abbrev pub IsText : TokenKind → List ℕ → Type 0
IsText Local text = IsSigned 37 IsName text
IsText Global text = IsSigned 64 IsName text
IsText Label text = IsLabel text
IsText Number text = IsRun is_name_byte text × IsTrue (is_number text)
IsText Word text = IsRun is_name_byte text × IsFalse (is_number text)
IsText Hash text = IsSigned 35 (IsRun is_name_byte) text
IsText Bang text = IsSigned 33 (IsRun is_name_byte) text
IsText Punct text = IsMark text

-- ---- texts of tokens

-- a token without its place
pub record Bare : Type 0 where
  pub kind : TokenKind
  pub text : List ℕ

abbrev pub bare : Lexeme → Bare
bare t = record { kind = t.kind; text = t.text }

-- a token, and the blanks behind it
abbrev pub Inked : Type 0
Inked = Bare × List ℕ

abbrev pub text_of : List Inked → List ℕ
text_of script = flat_map (λ i. i.0.text ++ i.1) script

abbrev pub is_dropped_word : List ℕ → Bool
is_dropped_word text = list_any (λ word. bytes_eq word text) dropped_words

-- the token begins no dropped line, wherever it stands
abbrev pub IsKept : TokenKind → List ℕ → Type 0
IsKept Bang text = ⊥
IsKept Word text = IsFalse (is_dropped_word text)
IsKept _ text = Unit {0}

-- what follows doesn't go on with the token; quoted names need less than this
abbrev pub Ends : TokenKind → List ℕ → Type 0
Ends Punct more = Unit {0}
Ends Label more = Unit {0}
Ends _ more = IsFalse (heads is_name_byte more) × IsFalse (heads (λ b. b == 58) more)

-- each token has a text of its kind, and ends where it is to end, with blanks behind it
abbrev pub IsParted : List Inked → Type 0
IsParted [] = Unit {0}
IsParted (i ∷ is) =
    IsText i.0.kind i.0.text × IsKept i.0.kind i.0.text × IsTrue (list_all is_blank i.1)
    × Ends i.0.kind (i.1 ++ text_of is) × IsParted is

-- the tokens of the text are those of the script
abbrev pub LexesBack : List Inked → Type 0
LexesBack script = (ts : List Lexeme) × (tokens_of (text_of script) ≡ Ok ts) × (map bare ts ≡ map (λ i. i.0) script)
