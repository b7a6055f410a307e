-- Names and how they are spelled.
use Rattle.std.specs.Prelude.{◌≡◌, ◌<◌, ◌^◌, ◌-◌, ℕ, List, [], ◌∷◌, ◌++◌, true, codes, length, if◌then◌else◌, ◌==◌}
use Rattle.std.specs.Fmt.{decimal}
use Rattle.std.specs.List.{list_all}
use Rattle.ir_types.specs.Bytes.{is_quotable, is_plain_name}
use Rattle.ir_types.specs.declared.name.Made.{Made}
use Rattle.ir_types.specs.declared.name.Made.TheVariants.{Temp, Sum, Operand, Split}
use Rattle.ir_types.specs.declared.name.Name.{Name}
use Rattle.ir_types.specs.declared.name.Name.TheVariants.{Text, Number, Made as MadeName}

-- `pre.`, or `pre`, a number and a dot
abbrev pub prefix : ℕ → List ℕ
prefix j = if j == 0 then codes "pre." else (codes "pre" ++ decimal j ++ codes ".")

-- what follows the prefix
abbrev pub parts : Made → List ℕ
parts (Temp x) = decimal x
parts (Sum x p) = decimal x ++ codes "." ++ decimal p
parts (Operand x p i) = decimal x ++ codes "." ++ decimal p ++ codes "." ++ decimal i
parts (Split p) = codes "b." ++ decimal p

-- a name as it is spelled, where a made name is a text; two names are the same where they are spelled the same
abbrev pub spelled : Name → Name
spelled (Text bytes) = Text bytes
spelled (Number n) = Number n
spelled (MadeName j made) = Text (prefix j ++ parts made)

-- a text that can be written as a name: at least one byte, and each may stand between quotes
pub record IsNameText (bytes : List ℕ) : Type 0 where
  pub some : 0 < length bytes
  pub quotable : list_all is_quotable bytes ≡ true

-- no name has this number, which stands for all above it
abbrev pub no_number : ℕ
no_number = 2 ^ 32 - 1

-- a name that a token can spell
abbrev pub IsSpellable : Name → Type 0
IsSpellable (Text bytes) = IsNameText bytes
IsSpellable (Number n) = n < no_number
IsSpellable (MadeName j made) = Unit {0}

-- a text between quotes where it is no plain name
abbrev pub quoted_text : List ℕ → List ℕ
quoted_text bytes = if is_plain_name bytes then bytes else (34 ∷ bytes ++ 34 ∷ [])

-- a name as the canonical text spells it, without its sigil
abbrev pub name_text : Name → List ℕ
name_text (Text bytes) = quoted_text bytes
name_text (Number n) = decimal n
name_text (MadeName j made) = prefix j ++ parts made
