-- What is asked of a block, and what its new text is.
use Rattle.std.specs.Prelude.{◌≡◌, ℕ, List, length, map}
use Rattle.std.specs.List.{range_with_len}
use Rattle.ir_types.specs.declared.syntax.Instr.{Instr}
use Rattle.ir_types.specs.declared.syntax.Block.{Block}
use Rattle.ir_types.specs.declared.syntax.Function.{Function}
use Rattle.point_graph.specs.Graph.{Edge}
use Rattle.applied.specs.Applied.{Plan, groups}
use Rattle.applied.specs.Built.{number_of, text_from}
use Rattle.block_text.specs.declared.text.NewText.{NewText}

-- the new text of the block b of a function, with the new number of each of its instructions
pub record IsNewText (plan : Plan) (f : Function) (b : ℕ) (block : Block) (new : NewText) : Type 0 where
  pub instrs : new.instrs ≡ text_from plan.naming plan.moves (length f.vars) b block 0 block.instrs
  pub numbers : new.numbers ≡ map (number_of plan.naming plan.moves (length f.vars) b block) (range_with_len 0 (length block.instrs))

-- the groups of an edge, as the whole text of a block
abbrev pub IsGroups : Plan → Function → Edge → List Instr → Type 0
IsGroups plan f edge instrs = instrs ≡ groups plan.naming 0 (length f.vars) edge plan.moves
