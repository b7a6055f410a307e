-- The least number that a list doesn't have.
use Rattle.std.specs.Prelude.{◌≡◌, ◌<◌, ◌≤◌, ◌↔◌, ℕ, Bool, true, false, if◌then◌else◌, List, Contains, length, slice_index_or, sum_by}

pub record IsLeastMissing (numbers : List ℕ) (j : ℕ) : Type 0 where
  pub missing : ¬ Contains numbers j
  pub least : (i : ℕ) → i < j → Contains numbers i

-- how many bits are set
abbrev pub set_count : List Bool → ℕ
set_count bits = sum_by (λ bit. if bit then 1 else 0) bits

-- exactly the listed ones of n bits are set, and they aren't more than the numbers
pub record AreMarks (n : ℕ) (numbers : List ℕ) (bits : List Bool) : Type 0 where
  pub len : length bits ≡ n
  pub bits_are : (k : ℕ) → k < n → (slice_index_or bits k false ≡ true) ↔ Contains numbers k
  pub few : set_count bits ≤ length numbers
