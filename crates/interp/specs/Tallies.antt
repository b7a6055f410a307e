-- Where the counts of slots stand, and which events are counted.
use Rattle.std.specs.Prelude.{◌≡◌, ℕ, ◌+◌, ◌<◌, true, List, [], ◌∷◌, Some, slice_get, sum_by}
use Rattle.ir_types.specs.Program.{Program}
use Rattle.ir_types.specs.Limits.{slot_count}
use Rattle.ir_types.specs.declared.syntax.Block.{Block}
use Rattle.ir_types.specs.declared.syntax.Function.{Function}
use Rattle.machines.specs.declared.events.Event.{Event}
use Rattle.machines.specs.declared.events.Event.TheVariants.{Took, Entered}
use Rattle.ir_machine.specs.Same.{is_defined}

-- how many slots stand before each of these blocks, with n before the first
abbrev pub starts_from : ℕ → List Block → List ℕ
starts_from n [] = []
starts_from n (b ∷ blocks) = n ∷ starts_from (n + slot_count b.term) blocks

abbrev pub slots_in : List Block → ℕ
slots_in blocks = sum_by (λ b. slot_count b.term) blocks

-- the module has this slot
pub record HasSlot (m : Program) (i b s : ℕ) : Type 0 where
  pub function : Function
  pub function_there : slice_get m.functions i ≡ Some function
  pub block : Block
  pub block_there : slice_get function.blocks b ≡ Some block
  pub inside : s < slot_count block.term

-- the module defines this function
pub record HasFunction (m : Program) (i : ℕ) : Type 0 where
  pub function : Function
  pub there : slice_get m.functions i ≡ Some function
  pub defined : is_defined function.blocks ≡ true

-- the slot that is taken, or the function that is entered, is one of the module
abbrev pub IsEventOf : Program → Event → Type 0
IsEventOf m (Took i b s) = HasSlot m i b s
IsEventOf m (Entered i) = HasFunction m i
IsEventOf m _ = Unit {0}
