-- The names of a workload are texts, so it is what is read back.
use Rattle.std.proofs.Common.{◌≡◌, ℕ, zero, suc, ◌+◌, List, [], ◌∷◌, map, refl, ap}
use Rattle.ir_types.specs.Program.{Program}
use Rattle.ir_types.specs.Same.{plain, plain_block}
use Rattle.ir_types.specs.declared.syntax.Block.{Block}
use Rattle.workload.specs.Workload.{start, left, right, join, entry, main_function, workload_program}
use Rattle.workload.proofs.Tails.{tail}

plain_tail : (a k : ℕ) → map plain_block (tail a k) ≡ tail a k
plain_tail a zero = refl
plain_tail a (suc k) = ap (λ (l : List Block). start a ∷ left a ∷ right a ∷ join a ∷ l) (plain_tail (a + 1) k)

with_blocks : ℕ → List Block → Program
with_blocks n blocks = record { globals = []; functions = record (main_function n) { blocks = entry ∷ blocks } ∷ [] }

pub plain_is : (n : ℕ) → plain (workload_program n) ≡ workload_program n
unfolding with_blocks
plain_is n = ap (with_blocks n) (plain_tail 0 n)
