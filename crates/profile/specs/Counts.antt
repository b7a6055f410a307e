-- Counts of a module, and which of them are accepted.
use Rattle.std.specs.Prelude.{◌≡◌, ◌<◌, ◌+◌, ◌^◌, ℕ, ◌==◌, ◌&&◌, not, Bool, true, false, List, IsTrue, length, filter, sum, sum_by, slice_get, if◌then◌else◌}
use Rattle.std.specs.List.{AllZip, zip}
use Rattle.std.specs.Option.{option_map_or}
use Rattle.ir_types.specs.Rules.{is_nil}
use Rattle.ir_types.specs.Program.{Program}
use Rattle.ir_types.specs.declared.syntax.Terminator.{Terminator}
use Rattle.ir_types.specs.declared.syntax.Terminator.TheVariants.{Return}
use Rattle.ir_types.specs.declared.syntax.Function.{Function}
use Rattle.flow_graph.specs.Slots.{slots}
use Rattle.flow_graph.specs.Paths.{IsReached, AreReached}
use Rattle.profile.specs.declared.counts.FnCounts.{FnCounts}

-- a function that has blocks; others are declarations
abbrev pub is_defined : Function → Bool
is_defined f = not (is_nil f.blocks)

-- the functions that have blocks, in text order
abbrev pub defined : Program → List Function
defined m = filter is_defined m.functions

-- ---- the shape

-- there is one count for each slot
abbrev pub HasSlots : Function → FnCounts → Type 0
HasSlots f c = length c.slots ≡ length (slots f)

-- there are counts for each defined function
abbrev pub HasShape : Program → List FnCounts → Type 0
HasShape m counts = AllZip HasSlots (defined m) counts

-- the slots of a function, each (from which block, to which block) with its count
abbrev pub counted : Function → FnCounts → List ((ℕ × ℕ) × ℕ)
counted f c = zip (slots f) c.slots

-- ---- the balance

-- what enters a block: the slots to it from blocks that the test tells, and for the entry block the entries of the function
abbrev pub entering : (ℕ → Bool) → Function → FnCounts → ℕ → ℕ
entering reached f c b = (if b == 0 then c.entry else 0) + sum_by (λ s. if reached s.0.0 && (s.0.1 == b) then s.1 else 0) (counted f c)

-- what leaves a block: its slots
abbrev pub leaving : Function → FnCounts → ℕ → ℕ
leaving f c b = sum_by (λ s. if s.0.0 == b then s.1 else 0) (counted f c)

abbrev pub is_return : Terminator → Bool
is_return (Return _) = true
is_return _ = false

-- there is such a block, and it doesn't end by `ret`
abbrev pub goes_on : Function → ℕ → Bool
goes_on f b = option_map_or (λ x. not (is_return x.term)) (slice_get f.blocks b) false

-- as much leaves as enters, at each reached block that doesn't end by `ret`
abbrev pub IsBalanced : Function → FnCounts → Type 0
IsBalanced f c = (reached : ℕ → Bool) → AreReached f reached → (b : ℕ) → IsTrue (reached b) → IsTrue (goes_on f b) → entering reached f c b ≡ leaving f c b

-- nothing leaves a block that is not reached
abbrev pub IsUnreachedZero : Function → FnCounts → Type 0
IsUnreachedZero f c = (b : ℕ) → ¬ (IsReached f b) → leaving f c b ≡ 0

-- ---- what is accepted

-- counts of a function
pub record AreCounts (f : Function) (c : FnCounts) : Type 0 where
  pub slots : HasSlots f c
  pub balanced : IsBalanced f c
  pub unreached : IsUnreachedZero f c

-- all counts of a function together
abbrev pub total : FnCounts → ℕ
total c = c.entry + sum c.slots

pub record IsAccepted (m : Program) (counts : List FnCounts) : Type 0 where
  pub functions : AllZip AreCounts (defined m) counts
  pub total : sum_by total counts < 2 ^ 62
