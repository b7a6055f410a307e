-- The applied module as a function: one place after another.
use Rattle.std.specs.Prelude.{ℕ, Bool, zero, suc, ◌+◌, if◌then◌else◌, List, [], ◌∷◌, ◌++◌, length, slice_get}
use Rattle.ir_types.specs.Program.{Program}
use Rattle.ir_types.specs.WellFormed.{targets}
use Rattle.ir_types.specs.declared.syntax.Instr.{Instr}
use Rattle.ir_types.specs.declared.syntax.Terminator.{Terminator}
use Rattle.ir_types.specs.declared.syntax.Block.{Block}
use Rattle.ir_types.specs.declared.syntax.Function.{Function}
use Rattle.point_graph.specs.Graph.{Place, Slot}
use Rattle.applied.specs.Motion.{Move}
use Rattle.applied.specs.Applied.{Naming, Plan, groups_along, edges_before, copied, stores, has_groups, Layout, new_term, splits_before, is_single, splits_at, split_block, temporaries}

-- where what belongs to a place of the block begins, and where its instruction stands
abbrev pub start_of : Naming → List Move → ℕ → ℕ → Block → ℕ → ℕ
start_of naming moves vars b block zero = 0
start_of naming moves vars b block (suc k) =
    let n = start_of naming moves vars b block k in
    let number = n + length (groups_along naming n vars (edges_before b k block) moves) in suc number + length (stores vars number b k moves)

abbrev pub number_of : Naming → List Move → ℕ → ℕ → Block → ℕ → ℕ
number_of naming moves vars b block k =
    let n = start_of naming moves vars b block k in n + length (groups_along naming n vars (edges_before b k block) moves)

-- the new text from the place k on
abbrev pub text_from : Naming → List Move → ℕ → ℕ → Block → ℕ → List Instr → List Instr
text_from naming moves vars b block k [] = groups_along naming (start_of naming moves vars b block k) vars (edges_before b k block) moves
text_from naming moves vars b block k (instr ∷ instrs) =
    groups_along naming (start_of naming moves vars b block k) vars (edges_before b k block) moves
    ++ ((copied vars (number_of naming moves vars b block) (Place b k) instr moves ∷ stores vars (number_of naming moves vars b block k) b k moves)
    ++ text_from naming moves vars b block (suc k) instrs)

abbrev pub new_block : Naming → List Move → ℕ → Layout → ℕ → Block → Block
new_block naming moves vars layout b block = record {
  name = block.name;
  instrs = text_from naming moves vars b block 0 block.instrs;
  term = new_term (number_of naming moves vars b block) layout b block.term moves;
}

-- the block that splits a slot, if there is one
abbrev pub split_one : Naming → List Move → ℕ → Layout → ℕ → Bool → ℕ → ℕ → List Block
split_one naming moves vars layout b single slot target =
    if single then [] else (if has_groups (Slot b slot) moves then split_block naming vars (Slot b slot) (layout.home target) moves ∷ [] else [])

-- the blocks that split the slots from this one on, which lead to these blocks
abbrev pub splits_from : Naming → List Move → ℕ → Layout → ℕ → Bool → ℕ → List ℕ → List Block
splits_from naming moves vars layout b single slot [] = []
splits_from naming moves vars layout b single slot (target ∷ rest) =
    split_one naming moves vars layout b single slot target ++ splits_from naming moves vars layout b single (suc slot) rest

-- the blocks that split the slots of a terminator
abbrev pub split_blocks : Naming → List Move → ℕ → Layout → ℕ → Terminator → List Block
split_blocks naming moves vars layout b term = splits_from naming moves vars layout b (is_single term) 0 (targets term)

abbrev pub new_blocks : Naming → List Move → ℕ → Layout → ℕ → List Block → List Block
new_blocks naming moves vars layout b [] = []
new_blocks naming moves vars layout b (block ∷ blocks) =
    new_block naming moves vars layout b block
    ∷ (split_blocks naming moves vars layout b block.term ++ new_blocks naming moves vars layout (suc b) blocks)

-- how many new blocks stand before the block j
abbrev pub home_from : List Move → ℕ → List Block → ℕ → ℕ
home_from moves b blocks zero = 0
home_from moves b [] (suc j) = 0
home_from moves b (block ∷ blocks) (suc j) = suc (splits_before b (length (targets block.term)) block.term moves) + home_from moves (suc b) blocks j

abbrev pub layout_of : List Move → List Block → Layout
layout_of moves blocks = record {
  home = home_from moves 0 blocks;
  split = λ b slot. suc (home_from moves 0 blocks b) + splits_at moves b slot (slice_get blocks b);
}

abbrev pub applied_function : Plan → Function → Function
applied_function plan function = record function {
  vars = function.vars ++ temporaries plan.naming plan.moves;
  blocks = new_blocks plan.naming plan.moves (length function.vars) (layout_of plan.moves function.blocks) 0 function.blocks;
}

abbrev pub applied_from : (ℕ → Plan) → ℕ → List Function → List Function
applied_from plans i [] = []
applied_from plans i (function ∷ functions) = applied_function (plans i) function ∷ applied_from plans (suc i) functions

-- the module to which the placements were applied
abbrev pub applied : Program → (ℕ → Plan) → Program
applied m plans = record m { functions = applied_from plans 0 m.functions }
