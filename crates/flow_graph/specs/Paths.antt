-- Paths over the blocks of a function.
use Rattle.std.specs.Prelude.{◌≡◌, ◌<◌, ◌↔◌, ℕ, Bool, false, IsTrue, Some, List, [], ◌∷◌, length, slice_index_or}
use Rattle.ir_types.specs.declared.syntax.Function.{Function}
use Rattle.flow_graph.specs.Slots.{next_block}

-- slots of these numbers, one after another, lead from block b to block c
abbrev pub IsPath : Function → ℕ → List ℕ → ℕ → Type 0
IsPath f b [] c = b ≡ c
IsPath f b (slot ∷ path) c = (next : ℕ) × (next_block f b slot ≡ Some next) × IsPath f next path c

-- some path from the entry meets the block
pub record IsReached (f : Function) (b : ℕ) : Type 0 where
  pub inside : b < length f.blocks
  pub path : List ℕ
  pub leads : IsPath f 0 path b

-- the test tells the reached blocks
abbrev pub AreReached : Function → (ℕ → Bool) → Type 0
AreReached f test = (b : ℕ) → IsTrue (test b) ↔ IsReached f b

-- a list of marks as a test
abbrev pub is_marked : List Bool → ℕ → Bool
is_marked marks b = slice_index_or marks b false
