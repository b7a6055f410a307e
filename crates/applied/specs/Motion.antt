-- The expressions of a function, and what a placement of one asks of all paths.
use Rattle.std.specs.Prelude.{◌≡◌, ◌≢◌, ◌↔◌, ◌⊎◌, ℕ, zero, suc, ◌<◌, Bool, true, false, List, [], ◌∷◌, ◌++◌, Option, Some, None, Result, All, map, slice_get, slice_index}
use Rattle.std.specs.List.{AllZip}
use Rattle.mc_num.specs.Value.{value_of, traps_at}
use Rattle.mc_num.specs.declared.op.Trap.{Trap}
use Rattle.ir_types.specs.Program.{Program}
use Rattle.flow_graph.specs.Slots.{slots_of}
use Rattle.expressions.specs.declared.syntax.Arg.{Arg}
use Rattle.expressions.specs.declared.syntax.Arg.TheVariants.{Const as ConstArg, Param as ParamArg, Var as VarArg}
use Rattle.expressions.specs.declared.syntax.Expr.{Expr}
use Rattle.expressions.specs.Expressions.{constant_operand, expr_traps}
use Rattle.point_graph.specs.Graph.{Point, Start, Place, Edge, Joins, Hop, IsPath, IsReached}
use Rattle.ir_types.specs.declared.syntax.Operand.{Operand}
use Rattle.ir_types.specs.declared.syntax.Operand.TheVariants.{Const, Param, Reg}
use Rattle.ir_types.specs.declared.syntax.Variable.{Variable}
use Rattle.ir_types.specs.declared.syntax.Variable.TheVariants.{Local, Global}
use Rattle.ir_types.specs.declared.syntax.Kind.{Kind}
use Rattle.ir_types.specs.declared.syntax.Kind.TheVariants.{Load, Store, Compute, Call}
use Rattle.ir_types.specs.declared.syntax.Instr.{Instr}
use Rattle.ir_types.specs.declared.syntax.Terminator.{Terminator}
use Rattle.ir_types.specs.declared.syntax.Terminator.TheVariants.{Return, Jump, Branch, Switch, Unreachable}
use Rattle.ir_types.specs.declared.syntax.Block.{Block}
use Rattle.ir_types.specs.declared.syntax.Function.{Function}
use Rattle.ir_machine.specs.Step.{Globals, variable_in, blocks_of}
use Rattle.ir_machine.specs.Same.{is_defined}
use Rattle.ir_machine.specs.declared.frame.Frame.{Frame}

-- where a slot leads
abbrev pub slot_target : Terminator → ℕ → Option ℕ
slot_target term slot = slice_get (slots_of term) slot

-- ---- expressions

-- the value of an operand
abbrev pub arg_in : Globals → Frame → Arg → ℕ
arg_in globals frame (ConstArg value) = value
arg_in globals frame (ParamArg p) = slice_index frame.arguments p
arg_in globals frame (VarArg variable) = variable_in globals frame variable

-- the expression's value over the variables and the parameters, or its trap
abbrev pub expr_in : Globals → Frame → Expr → Result ℕ Trap
expr_in globals frame e = value_of e.op (map (arg_in globals frame) e.args)

-- the function of this number has blocks
abbrev pub defined_in : Program → ℕ → Bool
defined_in m i = is_defined (blocks_of (slice_get m.functions i))

-- the instruction stores to the variable, or calls a defined function, which may store to a global
abbrev pub ChangesVariable : Program → Kind → Variable → Type 0
ChangesVariable m (Load _) variable = ⊥
ChangesVariable m (Store _ other) variable = other ≡ variable
ChangesVariable m (Compute _ _) variable = ⊥
ChangesVariable m (Call callee _) (Local _) = ⊥
ChangesVariable m (Call callee _) (Global _) = defined_in m callee ≡ true

-- between the two places nothing may change the variable
abbrev pub NoChange : Program → List Instr → Variable → ℕ → ℕ → Type 0
NoChange m instrs variable from to =
    (k : ℕ) (instr : Instr) → from < k → k < to → slice_get instrs k ≡ Some instr → ¬ ChangesVariable m instr.kind variable

-- an earlier load of the variable gave the register, and nothing may have changed the variable since
pub record IsLoaded (m : Program) (instrs : List Instr) (k register : ℕ) (variable : Variable) : Type 0 where
  pub earlier : register < k
  pub instr : Instr
  pub there : slice_get instrs register ≡ Some instr
  pub load : instr.kind ≡ Load variable
  pub kept : NoChange m instrs variable register k

-- the operand of the instruction k reads this argument
abbrev pub IsArg : Program → List Instr → ℕ → Operand → Arg → Type 0
IsArg m instrs k (Const value) (ConstArg c) = value ≡ c
IsArg m instrs k (Param p) (ParamArg q) = p ≡ q
IsArg m instrs k (Reg register) (VarArg variable) = IsLoaded m instrs k register variable
IsArg m instrs k operand arg = ⊥

-- the expression occurs at the place
pub record OccursIn (m : Program) (function : Function) (e : Expr) (b k : ℕ) : Type 0 where
  pub block : Block
  pub block_there : slice_get function.blocks b ≡ Some block
  pub instr : Instr
  pub here : slice_get block.instrs k ≡ Some instr
  pub operands : List Operand
  pub computes : instr.kind ≡ Compute e.op operands
  pub are_args : AllZip (IsArg m block.instrs k) operands e.args

abbrev pub Occurs : Program → Function → Expr → Point → Type 0
Occurs m function e (Place b k) = OccursIn m function e b k
Occurs m function e point = ⊥

-- the instruction may change one of the operands
abbrev pub ChangesArg : Program → Kind → Arg → Type 0
ChangesArg m kind (ConstArg _) = ⊥
ChangesArg m kind (ParamArg _) = ⊥
ChangesArg m kind (VarArg variable) = ChangesVariable m kind variable

abbrev pub ChangesSome : Program → Kind → List Arg → Type 0
ChangesSome m kind [] = ⊥
ChangesSome m kind (arg ∷ args) = ChangesArg m kind arg ⊎ ChangesSome m kind args

-- the place is an instruction that may change an operand
pub record KillsIn (m : Program) (function : Function) (e : Expr) (b k : ℕ) : Type 0 where
  pub block : Block
  pub block_there : slice_get function.blocks b ≡ Some block
  pub instr : Instr
  pub here : slice_get block.instrs k ≡ Some instr
  pub changes : ChangesSome m instr.kind e.args

abbrev pub Kills : Program → Function → Expr → Point → Type 0
Kills m function e (Place b k) = KillsIn m function e b k
Kills m function e point = ⊥

-- a call, an operation that can trap, a return and an unreachable bar
abbrev pub KindBars : Kind → Type 0
KindBars (Load _) = ⊥
KindBars (Store _ _) = ⊥
KindBars (Compute op operands) = traps_at op (constant_operand (slice_get operands 1)) ≡ true
KindBars (Call _ _) = Unit {0}

abbrev pub TermBars : Terminator → Type 0
TermBars (Return _) = Unit {0}
TermBars (Jump _) = ⊥
TermBars (Branch _ _ _) = ⊥
TermBars (Switch _ _ _ _) = ⊥
TermBars Unreachable = Unit {0}

abbrev pub PlaceBars : Option Instr → Terminator → Type 0
PlaceBars (Some instr) term = KindBars instr.kind
PlaceBars None term = TermBars term

pub record BarsIn (function : Function) (b k : ℕ) : Type 0 where
  pub block : Block
  pub block_there : slice_get function.blocks b ≡ Some block
  pub bars : PlaceBars (slice_get block.instrs k) block.term

abbrev pub Bars : Function → Point → Type 0
Bars function (Place b k) = BarsIn function b k
Bars function point = ⊥

-- ---- placements

-- what becomes of an expression, which has this number in its function's table: the edges where it is inserted, its
-- occurrences that are kept and that are deleted, and the points where its temporary is live
pub record Move : Type 0 where
  pub number : ℕ
  pub expr : Expr
  pub inserted : Edge → Bool
  pub kept : Point → Bool
  pub deleted : Point → Bool
  pub live : Point → Bool

-- what a path meets
pub data Met : Type 0 where
  at_point : Point → Met
  on_edge : Edge → Met

-- what a path meets, in its order, its last point not counted
abbrev pub met : List Hop → List Met
met [] = []
met (hop ∷ path) = at_point hop.from ∷ on_edge hop.edge ∷ met path

-- an inserted edge and a kept occurrence write
abbrev pub Writes : Move → Met → Type 0
Writes move (at_point v) = move.kept v ≡ true
Writes move (on_edge edge) = move.inserted edge ≡ true

abbrev pub KillsMet : Program → Function → Expr → Met → Type 0
KillsMet m function e (at_point v) = Kills m function e v
KillsMet m function e (on_edge edge) = ⊥

-- the path reaches its last point valid: some write on it has no kill after it
pub record IsValid (m : Program) (function : Function) (move : Move) (path : List Hop) : Type 0 where
  pub before : List Met
  pub write : Met
  pub after : List Met
  pub split : met path ≡ before ++ write ∷ after
  pub writes : Writes move write
  pub unkilled : All (λ n. ¬ KillsMet m function move.expr n) after

-- every path from Start to a deleted occurrence reaches it valid
abbrev pub IsCorrect : Program → Function → Move → Type 0
IsCorrect m function move =
    (v : Point) (path : List Hop) → move.deleted v ≡ true → IsPath function Start path v → IsValid m function move path

-- some path from v meets a deleted occurrence with no write before it
pub record IsLive (function : Function) (move : Move) (v : Point) : Type 0 where
  pub path : List Hop
  pub occurrence : Point
  pub leads : IsPath function v path occurrence
  pub deleted : move.deleted occurrence ≡ true
  pub unwritten : All (λ n. ¬ Writes move n) (met path)

-- an edge leaves v, and all edges that leave it lead to points with P
pub record LeadsAllTo (function : Function) (P : Point → Type 0) (v : Point) : Type 0 where
  pub edge : Edge
  pub to : Point
  pub leaves : Joins function edge v to
  pub all : (edge : Edge) (w : Point) → Joins function edge v w → P w

-- on each way from v an occurrence comes within k edges, with no kill and no bar before it
abbrev pub IsInevitableWithin : Program → Function → Expr → ℕ → Point → Type 0
IsInevitableWithin m function e zero v = (v ≢ Start) × Occurs m function e v
IsInevitableWithin m function e (suc k) v =
    (v ≢ Start)
    × (Occurs m function e v ⊎ ((¬ Kills m function e v) × (¬ Bars function v) × LeadsAllTo function (λ w. IsInevitableWithin m function e k w) v))

abbrev pub IsInevitable : Program → Function → Expr → Point → Type 0
IsInevitable m function e v = (k : ℕ) × IsInevitableWithin m function e k v

-- each inserted edge leads to an inevitable point
abbrev pub IsSafe : Program → Function → Move → Type 0
IsSafe m function move =
    (edge : Edge) (u v : Point) → Joins function edge u v → move.inserted edge ≡ true → IsInevitable m function move.expr v

-- a correct placement of an expression of the function on the reached points and edges, safe where the expression can trap
pub record IsMove (m : Program) (function : Function) (move : Move) : Type 0 where
  pub found_at : Point
  pub found : Occurs m function move.expr found_at
  pub inserted_is : (edge : Edge) → move.inserted edge ≡ true → (u : Point) × (w : Point) × Joins function edge u w × IsReached function u
  pub kept_is : (v : Point) → move.kept v ≡ true → IsReached function v × Occurs m function move.expr v
  pub deleted_is : (v : Point) → (move.deleted v ≡ true) ↔ (IsReached function v × Occurs m function move.expr v × (move.kept v ≡ false))
  pub live_is : (v : Point) → IsReached function v → (move.live v ≡ true) ↔ IsLive function move v
  pub correct : IsCorrect m function move
  pub safe : expr_traps move.expr ≡ true → IsSafe m function move
