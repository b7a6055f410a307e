-- The points at which the expressions of a table occur.
use Rattle.std.specs.Prelude.{◌≡◌, ◌≢◌, ◌↔◌, ◌++◌, ◌∷◌, ℕ, ◌<◌, List, [], Option, Some, Contains, length, slice_get, slice_index_or}
use Rattle.std.specs.List.Sorted.{IsStrictlyIncreasing}
use Rattle.expressions.specs.Kept.{Kept}

-- the points at which the expression x occurs, ascending
pub record ArePlacesOf (occurring : List (Option ℕ)) (x : ℕ) (places : List ℕ) : Type 0 where
  pub ascending : IsStrictlyIncreasing places
  pub exact : (i : ℕ) → Contains places i ↔ (slice_get occurring i ≡ Some (Some x))

-- for each of the first n expressions the points at which it occurs
pub record AreListed (n : ℕ) (occurring : List (Option ℕ)) (lists : List (List ℕ)) : Type 0 where
  pub count : length lists ≡ n
  pub each : (x : ℕ) → x < n → ArePlacesOf occurring x (slice_index_or lists x [])

-- for each expression of the table the points at which it occurs
abbrev pub AreOccurrences : Kept → List (List ℕ) → Type 0
AreOccurrences t lists = AreListed (length t.exprs) t.occurring lists

-- the list of x has the point added, where there is one; the others stay
pub record AddsPlace (occurs : Option ℕ) (point : ℕ) (old new : List (List ℕ)) : Type 0 where
  pub same_count : length new ≡ length old
  pub added : (x : ℕ) → x < length old → occurs ≡ Some x → slice_index_or new x [] ≡ slice_index_or old x [] ++ point ∷ []
  pub others : (x : ℕ) → (occurs ≢ Some x) → slice_index_or new x [] ≡ slice_index_or old x []
