-- The names of a round.
use Rattle.std.specs.Prelude.{ℕ, List, [], ◌++◌, codes}
use Rattle.std.specs.Fmt.{decimal}
use Rattle.workload.specs.declared.naming.RoundNames.{RoundNames}

-- a letter, the number of the round, and what stands behind: nothing for a block, a dot and a letter for a result in it
abbrev pub name_bytes : List ℕ → ℕ → List ℕ → List ℕ
name_bytes letter j part = letter ++ (decimal j ++ part)

abbrev pub round_names : ℕ → RoundNames
round_names j = record {
  start = name_bytes (codes "s") j [];
  start_value = name_bytes (codes "s") j (codes ".a");
  start_test = name_bytes (codes "s") j (codes ".c");
  left = name_bytes (codes "l") j [];
  left_value = name_bytes (codes "l") j (codes ".a");
  left_sum = name_bytes (codes "l") j (codes ".v");
  right = name_bytes (codes "r") j [];
  join = name_bytes (codes "j") j [];
  join_value = name_bytes (codes "j") j (codes ".a");
  join_sum = name_bytes (codes "j") j (codes ".v");
}
