-- How much is left to count.
use Rattle.std.specs.Prelude.{ℕ, ◌+◌, List, [], ◌∷◌, length}
use Rattle.ir_types.specs.declared.tree.RawBlock.{RawBlock}

-- how many blocks and instructions there are
unfoldable pub blocks_size : List RawBlock → ℕ
blocks_size [] = 0
blocks_size (b ∷ bs) = 1 + length b.instrs + blocks_size bs
