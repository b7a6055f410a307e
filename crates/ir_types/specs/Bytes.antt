-- The classes of bytes that names and tokens are made of.
use Rattle.std.specs.Prelude.{ℕ, ◌==◌, ◌&&◌, ◌||◌, nat_le, not, Bool, false, List, [], ◌∷◌, length, codes}
use Rattle.std.specs.List.{list_all, list_any}
use Rattle.std.specs.Char.{is_ascii_alphabetic}

abbrev pub is_one_of : List ℕ → ℕ → Bool
is_one_of bytes b = list_any (λ x. x == b) bytes

-- space, tab, carriage return and line feed
abbrev pub is_blank : ℕ → Bool
is_blank b = is_one_of (32 ∷ 9 ∷ 13 ∷ 10 ∷ []) b

abbrev pub is_digit : ℕ → Bool
is_digit b = nat_le 48 b && nat_le b 57

-- letters, digits and four signs
abbrev pub is_name_byte : ℕ → Bool
is_name_byte b = is_ascii_alphabetic b || is_digit b || is_one_of (codes "-$._") b

-- what may stand between quotes: from 0x20 to 0x7E, but no quote (34) and no backslash (92)
abbrev pub is_quotable : ℕ → Bool
is_quotable b = nat_le 32 b && nat_le b 126 && not (b == 34) && not (b == 92)

-- the first byte passes the test
abbrev pub heads : (ℕ → Bool) → List ℕ → Bool
heads test [] = false
heads test (b ∷ bs) = test b

-- a run of name bytes that doesn't begin with a digit
abbrev pub is_plain_name : List ℕ → Bool
is_plain_name bytes = not (length bytes == 0) && not (heads is_digit bytes) && list_all is_name_byte bytes
