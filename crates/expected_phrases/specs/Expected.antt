-- What is expected at a stop, by what is tried there. A phrase that the reading looks for at a stop begins with a
-- single token, so it is tried there where such a token is tried.
use Rattle.std.specs.Prelude.{◌≡◌, ℕ, false, ◌⊎◌, List, [], ◌∷◌, ◌++◌, drop, IsTrue, codes}
use Rattle.std.specs.List.{list_all}
use Rattle.ir_types.specs.Bytes.{is_digit}
use Rattle.ir_lexer.specs.Lexeme.{Lexeme}
use Rattle.ir_lexer.specs.declared.token.TokenKind.{TokenKind}
use Rattle.ir_lexer.specs.declared.token.TokenKind.TheVariants as kinds
use Rattle.ir_parser.specs.Tokens.{is_spelled}
use Rattle.ir_parser.specs.Module.{module_text}
use Rattle.ir_parser.specs.Profile.{probe, GoesOn, IsTypeExpected, IsDeclareExpected, IsValueExpected, IsPointerExpected, is_in, is_closed_word, note_words, IsOutOfProfile}
use Rattle.expected_phrases.specs.Tried.{Tries}

-- A whole text comes to the tokens of stop behind those of front, and tries there a single token that t passes for.
abbrev pub IsTried : List Lexeme → List Lexeme → Lexeme → Type 0
IsTried front stop t = Tries module_text (front ++ stop) stop t

-- `i32` passes for a type alone.
abbrev pub IsTypeTried : List Lexeme → List Lexeme → Type 0
IsTypeTried front stop = IsTried front stop (probe kinds.Word (codes "i32"))

abbrev pub IsDeclareTried : List Lexeme → List Lexeme → Type 0
IsDeclareTried front stop = IsTried front stop (probe kinds.Word (codes "declare"))

-- A value can be `undef` or a local. The first value of a global can be `undef`, and no local.
abbrev pub IsValueTried : List Lexeme → List Lexeme → Type 0
IsValueTried front stop = IsTried front stop (probe kinds.Word (codes "undef")) × IsTried front stop (probe kinds.Local (codes "%x"))

-- Behind the `ptr` of an argument a local and an attribute are tried. So they are before a value, where `undef` is
-- tried too, and behind the type of a parameter, where a parenthesis is.
pub record IsPointerTried (front stop : List Lexeme) : Type 0 where
  pub local : IsTried front stop (probe kinds.Local (codes "%x"))
  pub attribute : IsTried front stop (probe kinds.Word (codes "noundef"))
  pub no_value : IsTried front stop (probe kinds.Word (codes "undef")) → ⊥
  pub no_end : IsTried front stop (probe kinds.Punct (codes ")")) → ⊥

-- What LLVM's language has at the stop and this grammar doesn't, by what is tried there: closed words and notes; `<`
-- and `*`, and a bracket or brace in the place of a type; a local in the place of `declare`; a global that has a
-- number, or stands in the place of a value or of the local behind a `ptr`.
abbrev pub IsOutAt : TokenKind → List Lexeme → List Lexeme → List ℕ → Type 0
IsOutAt kinds.Word front stop text = IsTrue (is_closed_word text)
IsOutAt kinds.Hash front stop text = IsTrue (is_in note_words text)
IsOutAt kinds.Punct front stop text =
    IsTrue (is_in (codes "<" ∷ codes "*" ∷ []) text)
    ⊎ (IsTrue (is_in (codes "[" ∷ codes "{" ∷ []) text) × IsTypeTried front stop)
IsOutAt kinds.Local front stop text = IsDeclareTried front stop
IsOutAt kinds.Global front stop text = IsTrue (list_all is_digit (drop 1 text)) ⊎ (IsValueTried front stop ⊎ IsPointerTried front stop)
IsOutAt _ front stop text = ⊥

-- The stop is out of the profile.
abbrev pub IsOut : List Lexeme → List Lexeme → Type 0
IsOut front [] = ⊥
IsOut front (t ∷ ts) = IsOutAt t.kind front (t ∷ ts) t.text

-- each holds where the other does
abbrev pub Same : Type 0 → Type 0 → Type 0
Same P Q = (P → Q) × (Q → P)

-- At this stop a token goes on exactly where it is tried, but for those that a phi looks at. So what is expected at
-- the stop is what is tried there.
pub record IsExpectedAsTried (front stop : List Lexeme) : Type 0 where
  pub tokens : (t : Lexeme) → is_spelled kinds.Punct (codes ",") t ≡ false → is_spelled kinds.Punct (codes "[") t ≡ false → Same (GoesOn front t) (IsTried front stop t)
  pub types : Same (IsTypeExpected front) (IsTypeTried front stop)
  pub declares : Same (IsDeclareExpected front) (IsDeclareTried front stop)
  pub values : Same (IsValueExpected front) (IsValueTried front stop)
  pub pointers : Same (IsPointerExpected front) (IsPointerTried front stop)
  pub profile : Same (IsOutOfProfile front stop) (IsOut front stop)
