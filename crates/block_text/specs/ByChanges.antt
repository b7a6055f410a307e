-- The new text of a block by the changes alone, with no plan: what the code makes.
use Rattle.std.specs.Prelude.{◌≡◌, ℕ, zero, suc, ◌+◌, ◌^◌, ◌<◌, List, [], ◌∷◌, ◌++◌, Some, All, length, map, slice_get}
use Rattle.std.specs.List.{range_with_len}
use Rattle.std.specs.Option.{option_map_or}
use Rattle.ir_types.specs.declared.name.Made.TheVariants.{Sum, Operand as MadeOperand}
use Rattle.ir_types.specs.declared.name.Name.TheVariants.{Made}
use Rattle.ir_types.specs.declared.syntax.Operand.{Operand}
use Rattle.ir_types.specs.declared.syntax.Operand.TheVariants.{Const, Param, Reg}
use Rattle.ir_types.specs.declared.syntax.Kind.{Kind}
use Rattle.ir_types.specs.declared.syntax.Kind.TheVariants.{Load, Store, Compute, Call}
use Rattle.ir_types.specs.declared.syntax.Instr.{Instr}
use Rattle.ir_types.specs.declared.syntax.Block.{Block}
use Rattle.ir_types.specs.declared.syntax.Function.{Function}
use Rattle.point_graph.specs.Graph.{Edge}
use Rattle.expressions.specs.declared.syntax.Arg.{Arg}
use Rattle.expressions.specs.declared.syntax.Expr.{Expr}
use Rattle.applied.specs.Applied.{arg_load, arg_operands, store_to, edges_before}
use Rattle.changes.specs.declared.lists.Action.{Action}
use Rattle.changes.specs.declared.lists.Action.TheVariants.{Stays, Loads, Stores}
use Rattle.changes.specs.declared.lists.Changes.{Changes}
use Rattle.block_text.specs.declared.text.NewText.{NewText}
use Rattle.changes.specs.Changed.{inserted_on, number_of_edge, action_of, acted, added}

-- the expressions and the changes of a function, and the number of its first temporary as a variable
pub record Given : Type 0 where
  pub exprs : List Expr
  pub changes : Changes
  pub vars : ℕ

abbrev pub given : Function → List Expr → Changes → Given
given f exprs c = record { exprs = exprs; changes = c; vars = length f.vars }

-- ---- groups

-- the loads of the operands of the expression x on the edge p, from the operand i on
abbrev pub loads : ℕ → ℕ → ℕ → ℕ → List Arg → List Instr
loads prefix x p i [] = []
loads prefix x p i (arg ∷ args) = arg_load (Made prefix (MadeOperand x p i)) arg ++ loads prefix x p (suc i) args

-- the group of the expression x on the edge p, which begins at n and stores to this variable
abbrev pub expr_group : ℕ → ℕ → ℕ → ℕ → ℕ → Expr → List Instr
expr_group prefix p n variable x e =
    let here = loads prefix x p 0 e.args in
    let operation : Instr = record { result = Some (Made prefix (Sum x p)); kind = Compute e.op (arg_operands n e.args) } in
    here ++ operation ∷ store_to (n + length here) variable ∷ []

-- the group of a temporary
abbrev pub temp_group : Given → ℕ → ℕ → ℕ → List Instr
temp_group g p n j =
    option_map_or (λ x. option_map_or (λ e. expr_group g.changes.prefix p n (g.vars + j) x e) (slice_get g.exprs x) []) (slice_get g.changes.temps j) []

abbrev pub temp_groups : Given → ℕ → ℕ → List ℕ → List Instr
temp_groups g p n [] = []
temp_groups g p n (j ∷ js) = let here = temp_group g p n j in here ++ temp_groups g p (n + length here) js

-- the groups of an edge
abbrev pub edge_groups : Given → ℕ → Edge → List Instr
edge_groups g n edge = temp_groups g (number_of_edge g.changes edge) n (inserted_on g.changes edge)

-- the groups of one edge and then those of the next
abbrev pub along : Given → ℕ → List Edge → List Instr
along g n [] = []
along g n (edge ∷ edges) = let here = edge_groups g n edge in here ++ along g (n + length here) edges

-- ---- blocks

-- the groups before the place k of the block b, which begin at n
abbrev pub before : Given → ℕ → Block → ℕ → ℕ → List Instr
before g b block k n = along g n (edges_before b k block)

-- where what belongs to a place begins, and where its instruction stands
abbrev pub start : Given → ℕ → Block → ℕ → ℕ
start g b block zero = 0
start g b block (suc k) =
    let n = start g b block k in
    let number = n + length (before g b block k n) in suc number + length (added (action_of g.changes b k) g.vars number)

abbrev pub number : Given → ℕ → Block → ℕ → ℕ
number g b block k = let n = start g b block k in n + length (before g b block k n)

-- the instruction of the place k, and the store behind it if there is one
abbrev pub copies : Given → ℕ → Block → ℕ → Instr → List Instr
copies g b block k instr =
    acted (action_of g.changes b k) g.vars (number g b block) instr ∷ added (action_of g.changes b k) g.vars (number g b block k)

-- the text from the place k on
abbrev pub text : Given → ℕ → Block → ℕ → List Instr → List Instr
text g b block k [] = before g b block k (start g b block k)
text g b block k (instr ∷ instrs) =
    before g b block k (start g b block k) ++ (copies g b block k instr ++ text g b block (suc k) instrs)

-- the new text of the block, with the new number of each of its instructions
pub record IsText (g : Given) (b : ℕ) (block : Block) (new : NewText) : Type 0 where
  pub instrs : new.instrs ≡ text g b block 0 block.instrs
  pub numbers : new.numbers ≡ map (number g b block) (range_with_len 0 (length block.instrs))

-- ---- bounds

-- each temporary that the changes name is there, with an expression, and the numbers of variables and edges have 32 bits
pub record AreBounded (g : Given) : Type 0 where
  pub few : g.vars + length g.changes.temps < 2 ^ 32
  pub exprs_there : All (λ x. x < length g.exprs) g.changes.temps
  pub inserted_there : (edge : Edge) → All (λ j. j < length g.changes.temps) (inserted_on g.changes edge)
  pub loaded_there : (b k j : ℕ) → action_of g.changes b k ≡ Loads j → j < length g.changes.temps
  pub stored_there : (b k j : ℕ) → action_of g.changes b k ≡ Stores j → j < length g.changes.temps
  pub numbers_small : (edge : Edge) → 0 < length (inserted_on g.changes edge) → number_of_edge g.changes edge < 2 ^ 32

-- the temporary of an action is there
abbrev pub TempThere : Given → Action → Type 0
TempThere g Stays = Unit {0}
TempThere g (Loads j) = j < length g.changes.temps
TempThere g (Stores j) = j < length g.changes.temps

-- the operand is no register from n on
abbrev pub IsBelow : ℕ → Operand → Type 0
IsBelow n (Const value) = Unit {0}
IsBelow n (Param p) = Unit {0}
IsBelow n (Reg r) = r < n

abbrev pub AreBelow : ℕ → Kind → Type 0
AreBelow n (Load v) = Unit {0}
AreBelow n (Store operand v) = IsBelow n operand
AreBelow n (Compute op operands) = All (IsBelow n) operands
AreBelow n (Call callee operands) = All (IsBelow n) operands
