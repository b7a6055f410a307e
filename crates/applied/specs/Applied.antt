-- What stands at each place of the module to which placements were applied.
use Rattle.std.specs.Prelude.{◌≡◌, ◌≢◌, ◌⊎◌, ℕ, zero, suc, ◌+◌, ◌^◌, ◌<◌, ◌≤◌, Bool, true, false, if◌then◌else◌, List, [], ◌∷◌, ◌++◌, Option, Some, None, All, AllPairs, Contains, length, map, slice_get}
use Rattle.mc_num.specs.Op.{result_width}
use Rattle.mc_num.specs.declared.op.Width.{Width}
use Rattle.ir_types.specs.Program.{Program}
use Rattle.ir_types.specs.Names.{prefix, spelled}
use Rattle.ir_types.specs.WellFormed.{targets, names}
use Rattle.ir_types.specs.declared.name.Made.{Made}
use Rattle.ir_types.specs.declared.name.Made.TheVariants.{Temp, Sum, Operand as MadeOperand, Split}
use Rattle.ir_types.specs.declared.name.Name.{Name}
use Rattle.ir_types.specs.declared.name.Name.TheVariants.{Text, Made as MadeName}
use Rattle.ir_types.specs.declared.syntax.Operand.{Operand}
use Rattle.ir_types.specs.declared.syntax.Operand.TheVariants.{Const, Param, Reg}
use Rattle.ir_types.specs.declared.syntax.Variable.TheVariants.{Local}
use Rattle.ir_types.specs.declared.syntax.Kind.TheVariants.{Load, Store, Compute}
use Rattle.ir_types.specs.declared.syntax.Instr.{Instr}
use Rattle.ir_types.specs.declared.syntax.Terminator.{Terminator}
use Rattle.ir_types.specs.declared.syntax.Terminator.TheVariants.{Return, Jump, Branch, Switch, Unreachable}
use Rattle.ir_types.specs.declared.syntax.Block.{Block}
use Rattle.ir_types.specs.declared.syntax.Function.{Function}
use Rattle.applied.specs.Renamed.{renamed, renamed_kind, renamed_option}
use Rattle.point_graph.specs.Graph.{Point, Place, Edge, Entry, Inside, Slot}
use Rattle.expressions.specs.declared.syntax.Arg.{Arg}
use Rattle.expressions.specs.declared.syntax.Arg.TheVariants.{Const as ConstArg, Param as ParamArg, Var as VarArg}
use Rattle.applied.specs.Motion.{slot_target, Move, IsMove}

-- ---- names

-- the number of the prefix of made names, and the numbers of edges in them
pub record Naming : Type 0 where
  pub prefix : ℕ
  pub edge_number : Edge → ℕ

abbrev pub made : Naming → Made → Name
made naming what = MadeName naming.prefix what

-- what is done to a function: the expressions of which something is inserted or deleted
pub record Plan : Type 0 where
  pub naming : Naming
  pub moves : List Move

-- no name of the function begins with the prefix
abbrev pub IsUnused : Function → ℕ → Type 0
IsUnused function j = All (λ name. (rest : List ℕ) → spelled name ≢ Text (prefix j ++ rest)) (names function)

-- the first prefix that no name begins with
pub record IsFreshPrefix (function : Function) (j : ℕ) : Type 0 where
  pub unused : IsUnused function j
  pub least : (i : ℕ) → i < j → ¬ IsUnused function i

-- ---- groups

-- these instructions stand at this place
abbrev pub StandsAt : List Instr → ℕ → List Instr → Type 0
StandsAt instrs n [] = Unit {0}
StandsAt instrs n (instr ∷ rest) = (slice_get instrs n ≡ Some instr) × StandsAt instrs (suc n) rest

-- the load of an operand that is a variable
abbrev pub arg_load : Name → Arg → List Instr
arg_load name (ConstArg _) = []
arg_load name (ParamArg _) = []
arg_load name (VarArg variable) = record { result = Some name; kind = Load variable } ∷ []

-- the loads of the operands of the expression x on the edge p, from the operand i on
abbrev pub arg_loads : Naming → ℕ → ℕ → ℕ → List Arg → List Instr
arg_loads naming x p i [] = []
arg_loads naming x p i (arg ∷ args) =
    arg_load (made naming (MadeOperand x p i)) arg ++ arg_loads naming x p (suc i) args

-- how many instructions load an operand
abbrev pub load_count : Arg → ℕ
load_count (ConstArg _) = 0
load_count (ParamArg _) = 0
load_count (VarArg _) = 1

-- the operand itself, where its load stands at n
abbrev pub arg_operand : ℕ → Arg → Operand
arg_operand n (ConstArg value) = Const value
arg_operand n (ParamArg p) = Param p
arg_operand n (VarArg _) = Reg n

-- the operands, where their loads stand from n on
abbrev pub arg_operands : ℕ → List Arg → List Operand
arg_operands n [] = []
arg_operands n (arg ∷ args) = arg_operand n arg ∷ arg_operands (n + load_count arg) args

-- a store of a register to a temporary
abbrev pub store_to : ℕ → ℕ → Instr
store_to register temp = record { result = None; kind = Store (Reg register) (Local temp) }

-- the group of an expression at the place n: loads, the operation, and a store to the temporary
abbrev pub group : Naming → Edge → ℕ → ℕ → Move → List Instr
group naming edge n temp move =
    let p = naming.edge_number edge in
    let loads = arg_loads naming move.number p 0 move.expr.args in
    let operation : Instr = record {
      result = Some (made naming (Sum move.number p));
      kind = Compute move.expr.op (arg_operands n move.expr.args);
    } in
    loads ++ operation ∷ store_to (n + length loads) temp ∷ []

-- the groups of an edge, the first temporary being temp
abbrev pub groups : Naming → ℕ → ℕ → Edge → List Move → List Instr
groups naming n temp edge [] = []
groups naming n temp edge (move ∷ moves) =
    let here = if move.inserted edge then group naming edge n temp move else [] in
    here ++ groups naming (n + length here) (suc temp) edge moves

-- the groups of one edge and then those of the next
abbrev pub groups_along : Naming → ℕ → ℕ → List Edge → List Move → List Instr
groups_along naming n temp [] moves = []
groups_along naming n temp (edge ∷ edges) moves =
    let here = groups naming n temp edge moves in here ++ groups_along naming (n + length here) temp edges moves

-- the place 0 of the entry block has the groups of the edge from Start before its own
abbrev pub entering : ℕ → ℕ → List Edge
entering zero zero = Entry ∷ []
entering k b = []

-- one slot leads on
abbrev pub is_one : List ℕ → Bool
is_one [] = false
is_one (target ∷ []) = true
is_one (target ∷ other ∷ rest) = false

-- the terminator has one slot
abbrev pub is_single : Terminator → Bool
is_single term = is_one (targets term)

-- the terminator of a block with one slot has the groups of the slot before it
abbrev pub leaving : ℕ → Option Instr → Terminator → List Edge
leaving b None term = if is_single term then Slot b 0 ∷ [] else []
leaving b (Some instr) term = []

-- the edges whose groups stand before the place k of the block b
abbrev pub edges_before : ℕ → ℕ → Block → List Edge
edges_before b k block = entering k b ++ Inside b k ∷ leaving b (slice_get block.instrs k) block.term

-- ---- instructions

-- a deleted occurrence is a load of its temporary; anything else is as it was
abbrev pub copied : ℕ → (ℕ → ℕ) → Point → Instr → List Move → Instr
copied temp number v instr [] = record { result = instr.result; kind = renamed_kind number instr.kind }
copied temp number v instr (move ∷ moves) =
    if move.deleted v then record { result = instr.result; kind = Load (Local temp) } else copied (suc temp) number v instr moves

-- the temporary is stored behind the place k: the occurrence is kept and the temporary is live just after it
abbrev pub is_stored : Move → ℕ → ℕ → Bool
is_stored move b k =
    if move.kept (Place b k) then (if move.inserted (Inside b (suc k)) then false else move.live (Place b (suc k))) else false

-- the stores behind the place k, whose result is the register n
abbrev pub stores : ℕ → ℕ → ℕ → ℕ → List Move → List Instr
stores temp n b k [] = []
stores temp n b k (move ∷ moves) = (if is_stored move b k then store_to n temp ∷ [] else []) ++ stores (suc temp) n b k moves

-- ---- blocks

-- some expression is inserted on the edge
abbrev pub has_groups : Edge → List Move → Bool
has_groups edge [] = false
has_groups edge (move ∷ moves) = if move.inserted edge then true else has_groups edge moves

-- where the blocks of a function stand in the new one, and where the split blocks of their slots stand
pub record Layout : Type 0 where
  pub home : ℕ → ℕ
  pub split : ℕ → ℕ → ℕ

abbrev pub new_target : Layout → ℕ → ℕ → ℕ → List Move → ℕ
new_target layout b slot target moves = if has_groups (Slot b slot) moves then layout.split b slot else layout.home target

abbrev pub new_cases : Layout → ℕ → ℕ → List (ℕ × ℕ) → List Move → List (ℕ × ℕ)
new_cases layout b slot [] moves = []
new_cases layout b slot (case ∷ cases) moves =
    (case.0, new_target layout b slot case.1 moves) ∷ new_cases layout b (suc slot) cases moves

abbrev pub new_term : (ℕ → ℕ) → Layout → ℕ → Terminator → List Move → Terminator
new_term number layout b (Return operand) moves = Return (renamed_option number operand)
new_term number layout b (Jump target) moves = Jump (layout.home target)
new_term number layout b (Branch condition then_block else_block) moves =
    Branch (renamed number condition) (new_target layout b 0 then_block moves) (new_target layout b 1 else_block moves)
new_term number layout b (Switch width operand other []) moves = Switch width (renamed number operand) (layout.home other) []
new_term number layout b (Switch width operand other (case ∷ cases)) moves =
    Switch width (renamed number operand) (new_target layout b 0 other moves) (new_cases layout b 1 (case ∷ cases) moves)
new_term number layout b Unreachable moves = Unreachable

-- how many blocks split the slots of a terminator before this slot
abbrev pub splits_before : ℕ → ℕ → Terminator → List Move → ℕ
splits_before b zero term moves = 0
splits_before b (suc slot) term moves =
    splits_before b slot term moves + (if is_single term then 0 else (if has_groups (Slot b slot) moves then 1 else 0))

abbrev pub splits_at : List Move → ℕ → ℕ → Option Block → ℕ
splits_at moves b slot None = 0
splits_at moves b slot (Some block) = splits_before b slot block.term moves

-- how many new blocks a block becomes
abbrev pub block_count : List Move → ℕ → Option Block → ℕ
block_count moves b None = 0
block_count moves b (Some block) = suc (splits_before b (length (targets block.term)) block.term moves)

-- what stands at each place of the block b: start k is where what belongs to the place k begins, and number k is
-- where the instruction of the place itself stands
pub record BlockApplied (naming : Naming) (moves : List Move) (vars : ℕ) (layout : Layout) (b : ℕ) (block block' : Block) : Type 0 where
  pub name : block'.name ≡ block.name
  pub start : ℕ → ℕ
  pub number : ℕ → ℕ
  pub start_zero : start 0 ≡ 0
  pub number_is : (k : ℕ) → number k ≡ start k + length (groups_along naming (start k) vars (edges_before b k block) moves)
  pub groups_stand : (k : ℕ) → k ≤ length block.instrs → StandsAt block'.instrs (start k) (groups_along naming (start k) vars (edges_before b k block) moves)
  pub copy_stands : (k : ℕ) (instr : Instr) → slice_get block.instrs k ≡ Some instr
      → StandsAt block'.instrs (number k) (copied vars number (Place b k) instr moves ∷ stores vars (number k) b k moves)
  pub start_next : (k : ℕ) → start (suc k) ≡ suc (number k) + length (stores vars (number k) b k moves)
  pub ends : length block'.instrs ≡ number (length block.instrs)
  pub term : block'.term ≡ new_term number layout b block.term moves

-- the block of a slot's groups
abbrev pub split_block : Naming → ℕ → Edge → ℕ → List Move → Block
split_block naming vars edge target moves = record {
  name = made naming (Split (naming.edge_number edge));
  instrs = groups naming 0 vars edge moves;
  term = Jump target;
}

-- a slot of a block with more than one slot, at which something is inserted
pub record IsSplit (moves : List Move) (b slot target : ℕ) (block : Block) : Type 0 where
  pub leads : slot_target block.term slot ≡ Some target
  pub many : is_single block.term ≡ false
  pub inserted : has_groups (Slot b slot) moves ≡ true

-- ---- functions and modules

-- the temporaries of the expressions
abbrev pub temporaries : Naming → List Move → List (Width × Name)
temporaries naming moves = map (λ move. (result_width move.expr.op, made naming (Temp move.number))) moves

pub record FunctionApplied (plan : Plan) (function function' : Function) : Type 0 where
  pub name : function'.name ≡ function.name
  pub ret : function'.ret ≡ function.ret
  pub params : function'.params ≡ function.params
  pub vars : function'.vars ≡ function.vars ++ temporaries plan.naming plan.moves
  pub layout : Layout
  pub home_first : layout.home 0 ≡ 0
  pub home_next : (b : ℕ) → layout.home (suc b) ≡ layout.home b + block_count plan.moves b (slice_get function.blocks b)
  pub split_next : (b slot : ℕ) → layout.split b slot ≡ suc (layout.home b) + splits_at plan.moves b slot (slice_get function.blocks b)
  pub ends : length function'.blocks ≡ layout.home (length function.blocks)
  pub blocks : (b : ℕ) (block : Block) → slice_get function.blocks b ≡ Some block
      → (block' : Block) × (slice_get function'.blocks (layout.home b) ≡ Some block') × BlockApplied plan.naming plan.moves (length function.vars) layout b block block'
  pub splits : (b slot target : ℕ) (block : Block) → slice_get function.blocks b ≡ Some block → IsSplit plan.moves b slot target block
      → slice_get function'.blocks (layout.split b slot) ≡ Some (split_block plan.naming (length function.vars) (Slot b slot) (layout.home target) plan.moves)

abbrev pub AllApplied : (ℕ → Plan) → ℕ → List Function → List Function → Type 0
AllApplied plans i [] [] = Unit {0}
AllApplied plans i (f ∷ fs) (g ∷ gs) = FunctionApplied (plans i) f g × AllApplied plans (suc i) fs gs
AllApplied plans i fs gs = ⊥

-- m' is m with these placements applied, all expressions of all functions at once
pub record IsApplied (m : Program) (plans : ℕ → Plan) (m' : Program) : Type 0 where
  pub globals : m'.globals ≡ m.globals
  pub functions : AllApplied plans 0 m.functions m'.functions

-- the placements are those of expressions of the functions
abbrev pub AreMoves : Program → (ℕ → Plan) → Type 0
AreMoves m plans =
    (i x : ℕ) (function : Function) (move : Move) → slice_get m.functions i ≡ Some function → slice_get (plans i).moves x ≡ Some move → IsMove m function move

-- something is inserted or deleted
abbrev pub Moves : Move → Type 0
Moves move = ((edge : Edge) × (move.inserted edge ≡ true)) ⊎ ((v : Point) × (move.deleted v ≡ true))

-- one of the expressions is inserted on the edge
pub record IsInserted (moves : List Move) (edge : Edge) : Type 0 where
  pub move : Move
  pub among : Contains moves move
  pub inserted : move.inserted edge ≡ true

-- what is done to a function, in the order of its expressions, and with names that are new and can be told apart
pub record IsPlan (function : Function) (plan : Plan) : Type 0 where
  pub prefix : IsFreshPrefix function plan.naming.prefix
  pub ascending : AllPairs (λ move next. move.number < next.number) plan.moves
  pub needed : All Moves plan.moves
  pub numbers : All (λ move. move.number < 2 ^ 32) plan.moves
  pub edge_numbers : (edge : Edge) → IsInserted plan.moves edge → plan.naming.edge_number edge < 2 ^ 32
  pub edges_differ : (edge other : Edge) → IsInserted plan.moves edge → IsInserted plan.moves other
      → plan.naming.edge_number edge ≡ plan.naming.edge_number other → edge ≡ other
