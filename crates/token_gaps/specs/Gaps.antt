-- What stands between the tokens of a text: blanks, comments and dropped lines.
use Rattle.std.specs.Prelude.{◌≡◌, ℕ, ◌⊎◌, List, [], ◌∷◌, ◌++◌, length, IsTrue, IsFalse}
use Rattle.std.specs.List.{concat, list_all}
use Rattle.ir_types.specs.Bytes.{heads, is_blank}
use Rattle.ir_lexer.specs.Lexeme.{Lexeme}
use Rattle.ir_lexer.specs.Pieces.{is_in_line, is_dropped}

-- In each of these `front` is what stands before it in the text, from its first byte on, and `more` what stands behind.

-- whole lines, if any, and then only blanks
pub record IsLineStart (front : List ℕ) : Type 0 where
  pub lines : List ℕ
  pub blanks : List ℕ
  pub whole : (lines ≡ []) ⊎ ((earlier : List ℕ) × (lines ≡ earlier ++ 10 ∷ []))
  pub blank : IsTrue (list_all is_blank blanks)
  pub joined : front ≡ lines ++ blanks

-- bytes up to the end of their line: a line feed comes next, or nothing
pub record IsRestOfLine (text more : List ℕ) : Type 0 where
  pub in_line : IsTrue (list_all is_in_line text)
  pub ends : IsFalse (heads is_in_line more)

-- a semicolon and the rest of the line
pub record IsComment (text more : List ℕ) : Type 0 where
  pub words : List ℕ
  pub spelled : text ≡ 59 ∷ words
  pub rest : IsRestOfLine words more

-- a dropped line, from behind the blanks at its front
pub record IsDroppedLine (front text more : List ℕ) : Type 0 where
  pub starts : IsLineStart front
  pub marked : IsTrue (is_dropped text)
  pub rest : IsRestOfLine text more

-- blanks, a comment, or a dropped line
abbrev pub IsPassedOver : List ℕ → List ℕ → List ℕ → Type 0
IsPassedOver front text more = IsTrue (list_all is_blank text) ⊎ (IsComment text more ⊎ IsDroppedLine front text more)

-- each of the parts, which stand one behind the other, is passed over
abbrev pub ArePassedOver : List ℕ → List (List ℕ) → List ℕ → Type 0
ArePassedOver front [] more = Unit {0}
ArePassedOver front (text ∷ parts) more = IsPassedOver front text (concat parts ++ more) × ArePassedOver (front ++ text) parts more

-- blanks, comments and dropped lines, in any order and number
pub record IsGap (front gap more : List ℕ) : Type 0 where
  pub parts : List (List ℕ)
  pub joined : gap ≡ concat parts
  pub are : ArePassedOver front parts more

-- Behind front, the rest of the text is made of the texts of these tokens, each at its place, with a gap before each
-- and behind the last.
abbrev pub AreInGaps : List ℕ → List ℕ → List Lexeme → Type 0
AreInGaps front rest [] = IsGap front rest []
AreInGaps front rest (t ∷ ts) =
    (gap : List ℕ) × (more : List ℕ) × (rest ≡ gap ++ t.text ++ more)
    × (t.span.start ≡ length (front ++ gap)) × (t.span.end ≡ length (front ++ gap ++ t.text))
    × IsGap front gap (t.text ++ more) × AreInGaps (front ++ gap ++ t.text) more ts
