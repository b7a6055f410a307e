-- Numbers and lines at the front of a text.
use Rattle.std.specs.Prelude.{◌≡◌, ◌^◌, ℕ, ◌==◌, ◌&&◌, ◌||◌, nat_lt, not, Bool, List, [], ◌∷◌, ◌++◌, Option, None, Some, take, drop, length, if◌then◌else◌}
use Rattle.std.specs.Option.{option_map}
use Rattle.std.specs.List.{prefix_len}
use Rattle.std.specs.Str.Parse.{digits_value}
use Rattle.ir_types.specs.Bytes.{heads, is_digit}
use Rattle.profile.specs.declared.lines.Line.{Line}
use Rattle.profile.specs.Reading.{Fits}
use Rattle.profile.specs.Text.{word, numbers, line_text}

-- some digits, of which the first is 0 only where it is the only one
abbrev pub is_numeral : List ℕ → Bool
is_numeral ds = not (length ds == 0) && (length ds == 1 || not (heads (λ b. b == 48) ds))

-- the number that digits write, if they are a numeral of at most 2^64 - 1
unfoldable pub number_of : List ℕ → Option ℕ
number_of ds = if is_numeral ds && nat_lt (digits_value 10 ds) (2 ^ 64) then Some (digits_value 10 ds) else None

-- the number at the front, and what follows its digits
unfoldable pub front_digits : List ℕ → Option (ℕ × List ℕ)
front_digits bs = option_map (λ n. (n, drop (prefix_len is_digit bs) bs)) (number_of (take (prefix_len is_digit bs) bs))

-- the number behind a space at the front, and what follows its digits
unfoldable pub front_number : List ℕ → Option (ℕ × List ℕ)
front_number [] = None
front_number (b ∷ bs) = if b == 32 then front_digits bs else None

-- these numbers, each behind a space, lead from a text to what follows
abbrev pub Run : List ℕ → List ℕ → List ℕ → Type 0
Run bytes [] rest = bytes ≡ rest
Run bytes (n ∷ ns) rest = (mid : List ℕ) × (front_number bytes ≡ Some (n, mid)) × Run mid ns rest

-- a line with this word, of which the text has what is behind the word, is added to the lines
pub record AddsBehind (w bytes : List ℕ) (old new : List Line) (rest : List ℕ) : Type 0 where
  pub line : Line
  pub is_word : word line ≡ w
  pub run : Run bytes (numbers line) (10 ∷ rest)
  pub added : new ≡ old ++ line ∷ []

-- no line with this word stands there
abbrev pub NoneBehind : List ℕ → List ℕ → Type 0
NoneBehind w bytes = (l : Line) → word l ≡ w → (rest : List ℕ) → ¬ (Run bytes (numbers l) (10 ∷ rest))

-- the line at the front of the text is added to the lines
pub record AddsLine (bytes : List ℕ) (old new : List Line) (rest : List ℕ) : Type 0 where
  pub line : Line
  pub fits : Fits line
  pub text : bytes ≡ line_text line ++ rest
  pub added : new ≡ old ++ line ∷ []
