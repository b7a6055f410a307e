-- Names that begin with prefixes, and lists of the numbers of these.
use Rattle.std.specs.Prelude.{◌≡◌, ◌<◌, ◌^◌, ◌==◌, ◌↔◌, ◌⊎◌, ℕ, if◌then◌else◌, List, [], ◌++◌, Contains, decimal}
use Rattle.ir_types.specs.Names.{prefix, spelled}
use Rattle.ir_types.specs.declared.name.Name.{Name}
use Rattle.ir_types.specs.declared.name.Name.TheVariants.{Text}

-- what a prefix has between `pre` and the dot
abbrev pub number_text : ℕ → List ℕ
number_text j = if j == 0 then [] else decimal j

pub record BeginsWith (bytes front : List ℕ) : Type 0 where
  pub rest : List ℕ
  pub is : bytes ≡ front ++ rest

-- the name begins with the prefix, as it is spelled
pub record HasPrefix (j : ℕ) (name : Name) : Type 0 where
  pub rest : List ℕ
  pub is : spelled name ≡ Text (prefix j ++ rest)

-- one of the names does
pub record SomeHas (names : List Name) (j : ℕ) : Type 0 where
  pub name : Name
  pub among : Contains names name
  pub has : HasPrefix j name

-- the list has grown by exactly the numbers of the names' prefixes, as far as they are below 2^32
abbrev pub Extends : List Name → List ℕ → List ℕ → Type 0
Extends names old new = (j : ℕ) → j < 2 ^ 32 → Contains new j ↔ (Contains old j ⊎ SomeHas names j)
