-- What the text of a token names or counts.
use Rattle.std.specs.Prelude.{ℕ, zero, suc, ℤ, pos, negsuc, ◌-◌, ◌^◌, ◌==◌, min, nat_lt, List, length, take, drop, if◌then◌else◌}
use Rattle.std.specs.List.{list_all}
use Rattle.std.specs.Str.Parse.{digits_value}
use Rattle.ir_types.specs.Bytes.{heads, is_digit}
use Rattle.ir_types.specs.Names.{no_number}
use Rattle.ir_types.specs.declared.name.Name.{Name}
use Rattle.ir_types.specs.declared.name.Name.TheVariants.{Text, Number}
use Rattle.ir_types.specs.declared.tree.RawValue.{RawValue}
use Rattle.ir_types.specs.declared.tree.RawValue.TheVariants as value

-- what stands between quotes, where the bytes begin with one
abbrev pub unquoted : List ℕ → List ℕ
unquoted bytes = if heads (λ b. b == 34) bytes then take (length bytes - 2) (drop 1 bytes) else bytes

-- digits without quotes are a number, of which those above the last have one value; all else is a text
abbrev pub name_of : List ℕ → Name
name_of bytes = if list_all is_digit bytes then Number (min (digits_value 10 bytes) no_number) else Text (unquoted bytes)

-- behind the sigil
abbrev pub local_name : List ℕ → Name
local_name text = name_of (drop 1 text)

abbrev pub global_name : List ℕ → List ℕ
global_name text = unquoted (drop 1 text)

-- before the colon
abbrev pub label_name : List ℕ → Name
label_name text = name_of (take (length text - 1) text)

abbrev pub negated : ℕ → ℤ
negated zero = pos 0
negated (suc n) = negsuc n

-- the number that digits, maybe behind a minus sign, write
abbrev pub number_of : List ℕ → ℤ
number_of text = if heads (λ b. b == 45) text then negated (digits_value 10 (drop 1 text)) else pos (digits_value 10 text)

-- a number of 128 bits with a sign, or a wider one
abbrev pub literal_of : ℤ → RawValue
literal_of (pos n) = if nat_lt n (2 ^ 127) then value.Number (pos n) else value.Wide
literal_of (negsuc n) = if nat_lt n (2 ^ 127) then value.Number (negsuc n) else value.Wide

abbrev pub literal : List ℕ → RawValue
literal text = literal_of (number_of text)
