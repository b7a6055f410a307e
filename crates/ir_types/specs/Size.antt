-- How many items the lists of a tree have together.
use Rattle.std.specs.Prelude.{ℕ, ◌+◌, length, sum_by}
use Rattle.ir_types.specs.declared.tree.RawKind.{RawKind}
use Rattle.ir_types.specs.declared.tree.RawKind.TheVariants.{Call, Phi}
use Rattle.ir_types.specs.declared.tree.RawTerm.{RawTerm}
use Rattle.ir_types.specs.declared.tree.RawTerm.TheVariants.{Switch}
use Rattle.ir_types.specs.declared.tree.RawBlock.{RawBlock}
use Rattle.ir_types.specs.declared.tree.RawFunction.{RawFunction}
use Rattle.ir_types.specs.declared.tree.Raw.{Raw}

-- arguments of a call or pairs of a phi
abbrev pub kind_items : RawKind → ℕ
kind_items (Call _ _ arguments) = length arguments
kind_items (Phi _ pairs) = length pairs
kind_items _ = 0

-- cases of a switch
abbrev pub term_items : RawTerm → ℕ
term_items (Switch _ _ _ cases) = length cases
term_items _ = 0

-- instructions, and what they and the terminator have
abbrev pub block_items : RawBlock → ℕ
block_items b = length b.instrs + sum_by (λ x. kind_items x.kind) b.instrs + term_items b.term

-- parameters, blocks, and what the blocks have
abbrev pub function_items : RawFunction → ℕ
function_items f = length f.params + length f.blocks + sum_by block_items f.blocks

-- functions, globals, and what the functions have
abbrev pub items : Raw → ℕ
items raw = length raw.functions + length raw.globals + sum_by function_items raw.functions
