-- What the names of a function, or of a tree, mean.
use Rattle.std.specs.Prelude.{ℕ, ◌+◌, ◌-◌, ◌^◌, ◌==◌, min, not, Bool, true, false, List, [], ◌∷◌, ◌++◌, Option, Some, None, is_some, if◌then◌else◌}
use Rattle.std.specs.Map.{lookup}
use Rattle.ir_types.specs.declared.span.At.{At}
use Rattle.ir_types.specs.declared.name.Name.{Name}
use Rattle.ir_types.specs.declared.name.Name.TheVariants.{Text, Number, Made}
use Rattle.ir_types.specs.contracts.name.NamePartialEq.TheImpl.{eq-value}
use Rattle.ir_types.specs.declared.rules.Rule.TheVariants.{Duplicate, BadNumber}
use Rattle.ir_types.specs.declared.rules.Problem.{Problem}
use Rattle.ir_types.specs.declared.rules.Meaning.{Meaning}
use Rattle.ir_types.specs.Problems.{◌>>◌, broken}

abbrev pub same_name : Name → Name → Bool
same_name = eq-value.it

-- names with what they mean, in text order, and the next number
pub record Defined : Type 0 where
  pub meanings : List (Name × Meaning)
  pub next : ℕ

abbrev pub nothing : Defined
nothing = record { meanings = []; next = 0 }

-- what a name means: the first definition holds
abbrev pub meaning_of : Defined → Name → Option Meaning
meaning_of d n = lookup (same_name n) d.meanings

abbrev pub is_number : Name → Bool
is_number (Text _) = false
is_number (Number _) = true
is_number (Made _ _) = false

-- a thing without a written name takes the next number
abbrev pub name_of : Defined → Option (At Name) → Name
name_of d None = Number d.next
name_of d (Some written) = written.item

-- the things that the numbers count: those with a written number or no written name
abbrev pub is_counted : Option (At Name) → Bool
is_counted None = true
is_counted (Some written) = is_number written.item

abbrev pub with_meaning : List (Name × Meaning) → Name → Meaning → List (Name × Meaning)
with_meaning ms n m = if is_some (lookup (same_name n) ms) then ms else (ms ++ (n, m) ∷ [])

-- one definition more; the next number stands still at the last
abbrev pub define : Defined → Option (At Name) → Meaning → Defined
define d written m = record {
  meanings = with_meaning d.meanings (name_of d written) m;
  next = if is_counted written then min (d.next + 1) (2 ^ 32 - 1) else d.next;
}

-- one definition more, where there is one
abbrev pub define_some : Defined → Option (At Name) → Option Meaning → Defined
define_some before written None = before
define_some before written (Some m) = define before written m

-- a written number that isn't the next
abbrev pub is_other_number : Defined → Name → Bool
is_other_number before (Number n) = not (n == before.next)
is_other_number before (Text _) = false
is_other_number before (Made _ _) = false

-- what is wrong with the written name of a definition, after these
abbrev pub name_problem : Defined → Option (At Name) → Option Problem
name_problem before None = None
name_problem before (Some n) =
    broken Duplicate n.span (is_some (meaning_of before n.item)) >> broken BadNumber n.span (is_other_number before n.item)

-- a name of the module, as the names of a function are written
abbrev pub symbol_name : At (List ℕ) → Option (At Name)
symbol_name n = Some (record { item = Text n.item; span = n.span })
