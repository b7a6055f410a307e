-- The blocks of a function from a round on.
use Rattle.std.proofs.Common.{◌≡◌, ℕ, zero, suc, ◌+◌, ◌*◌, List, [], ◌∷◌, ◌++◌, length, sum_by, refl, arith}
use Rattle.std.specs.List.{flat_map, range_with_len}
use Rattle.std.proofs.lemmas.List.Sums.{sum_by-cons}
use Rattle.ir_types.specs.declared.syntax.Block.{Block}
use Rattle.workload.specs.Workload.{start, left, right, join, end, round_blocks}

-- the blocks of k rounds, of which the first is round a, and the end
abbrev pub tail : ℕ → ℕ → List Block
tail a k = flat_map round_blocks (range_with_len a k) ++ end ∷ []

pub length_tail : (a k : ℕ) → length (tail a k) ≡ 4 * k + 1
length_tail a zero = refl
length_tail a (suc k) = omega (arith, length_tail (a + 1) k)

-- what the blocks of each round sum to
pub sum_tail : (f : Block → ℕ) (w : ℕ) → ((j : ℕ) → f (start j) + (f (left j) + (f (right j) + f (join j))) ≡ w) → (a k : ℕ) → sum_by f (tail a k) ≡ k * w + f end
sum_tail f w each a zero = omega (arith, sum_by-cons f end [])
sum_tail f w each a (suc k) =
    let rest = tail (a + 1) k in
    omega (
      arith,
      sum_by-cons f (start a) (left a ∷ right a ∷ join a ∷ rest),
      sum_by-cons f (left a) (right a ∷ join a ∷ rest),
      sum_by-cons f (right a) (join a ∷ rest),
      sum_by-cons f (join a) rest,
      each a,
      sum_tail f w each (a + 1) k,
    )
