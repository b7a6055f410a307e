-- Sums over slots with their counts.
use Rattle.std.specs.Prelude.{◌≡◌, ◌≢◌, ◌<◌, ◌==◌, ◌&&◌, ℕ, Bool, List, IsTrue, sum_by, slice_index, if◌then◌else◌}
use Rattle.std.specs.List.{zip}
use Rattle.ir_types.specs.declared.syntax.Function.{Function}
use Rattle.profile.specs.declared.counts.FnCounts.{FnCounts}
use Rattle.profile.specs.declared.reading.ProfileError.{ProfileError}
use Rattle.profile.specs.declared.reading.ProfileError.TheVariants.{Unbalanced, Unreached, NoMemory}
use Rattle.profile.specs.Counts.{leaving, goes_on}
use Rattle.profile.specs.Reading.{IsFirstUnbalanced, IsFirstUnreached}

-- the counts of the slots that lead to a block, of slots that lead to these blocks
abbrev pub into : ℕ → List ℕ → List ℕ → ℕ
into b targets counts = sum_by (λ s. if s.0 == b then s.1 else 0) (zip targets counts)

-- the counts of the slots that lead to a block from blocks that the test tells
abbrev pub entered : (ℕ → Bool) → ℕ → List ((ℕ × ℕ) × ℕ) → ℕ
entered test b slots = sum_by (λ s. if test s.0.0 && (s.0.1 == b) then s.1 else 0) slots

-- the counts of the slots of a block
abbrev pub left : ℕ → List ((ℕ × ℕ) × ℕ) → ℕ
left b slots = sum_by (λ s. if s.0.0 == b then s.1 else 0) slots

-- of the blocks that the test tells and that don't end by `ret` this one is the first whose sum isn't what leaves it
pub record DiffersFirst (f : Function) (c : FnCounts) (test : ℕ → Bool) (sums : List ℕ) (b in' out : ℕ) : Type 0 where
  pub here : IsTrue (test b) × IsTrue (goes_on f b)
  pub is : (in' ≡ slice_index sums b) × (out ≡ leaving f c b)
  pub differ : in' ≢ out
  pub first : (a : ℕ) → a < b → IsTrue (test a) → IsTrue (goes_on f a) → slice_index sums a ≡ leaving f c a

-- why the counts of the function of this number are refused
abbrev pub TellsUnbalanced : Function → FnCounts → ℕ → ProfileError → Type 0
TellsUnbalanced f c number (Unbalanced k b in' out) = (k ≡ number) × IsFirstUnbalanced f c b in' out
TellsUnbalanced f c number NoMemory = Unit {0}
TellsUnbalanced f c number _ = ⊥

abbrev pub TellsUnreached : Function → FnCounts → ℕ → ProfileError → Type 0
TellsUnreached f c number (Unreached k b) = (k ≡ number) × IsFirstUnreached f c b
TellsUnreached f c number NoMemory = Unit {0}
TellsUnreached f c number _ = ⊥
