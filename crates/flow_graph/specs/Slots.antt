-- The slots by which blocks lead to blocks.
use Rattle.std.specs.Prelude.{ℕ, ◌+◌, List, [], ◌∷◌, ◌++◌, Option, map, slice_get, option_and_then}
use Rattle.ir_types.specs.WellFormed.{targets}
use Rattle.ir_types.specs.declared.syntax.Terminator.{Terminator}
use Rattle.ir_types.specs.declared.syntax.Block.{Block}
use Rattle.ir_types.specs.declared.syntax.Function.{Function}

-- the block that each slot of a terminator leads to: of a jump its target, of a branch the block of 1 and the block of 0,
-- of a switch the default and the cases
abbrev pub slots_of : Terminator → List ℕ
slots_of term = targets term

-- the block that a slot of block b leads to
abbrev pub next_block : Function → ℕ → ℕ → Option ℕ
next_block f b slot = option_and_then (λ x. slice_get (slots_of x.term) slot) (slice_get f.blocks b)

-- the slots of these blocks, of which the first is block b: from which block each leads, and to which
abbrev pub slots_from : ℕ → List Block → List (ℕ × ℕ)
slots_from b [] = []
slots_from b (x ∷ xs) = map (λ t. (b, t)) (slots_of x.term) ++ slots_from (b + 1) xs

-- the slots of a function, over its blocks in text order and the slots of each in order
abbrev pub slots : Function → List (ℕ × ℕ)
slots f = slots_from 0 f.blocks
