-- The changes of a function by symbolic edges and places, and when they are those of a plan.
use Rattle.std.specs.Prelude.{◌≡◌, ℕ, zero, suc, ◌+◌, ◌<◌, if◌then◌else◌, List, [], ◌∷◌, ◌++◌, Option, Some, None, length, slice_get, option_and_then}
use Rattle.std.specs.List.{AllZip}
use Rattle.std.specs.Option.{option_map_or}
use Rattle.ir_types.specs.WellFormed.{size, item_limit}
use Rattle.ir_types.specs.declared.syntax.Variable.TheVariants.{Local}
use Rattle.ir_types.specs.declared.syntax.Kind.TheVariants.{Load}
use Rattle.ir_types.specs.declared.syntax.Instr.{Instr}
use Rattle.ir_types.specs.declared.syntax.Function.{Function}
use Rattle.point_graph.specs.Graph.{Place, Edge, Entry, Inside, Slot}
use Rattle.expressions.specs.declared.syntax.Expr.{Expr}
use Rattle.applied.specs.Motion.{Move}
use Rattle.applied.specs.Renamed.{renamed_kind}
use Rattle.applied.specs.Applied.{Plan, IsPlan, IsInserted, copied, stores, store_to}
use Rattle.applied.specs.Built.{applied_function}
use Rattle.changes.specs.declared.lists.Action.{Action}
use Rattle.changes.specs.declared.lists.Action.TheVariants.{Stays, Loads, Stores}
use Rattle.changes.specs.declared.lists.BlockChanges.{BlockChanges}
use Rattle.changes.specs.declared.lists.Changes.{Changes}

-- ---- what the lists say of an edge and of a place

-- the list at this place, or none behind the last
abbrev pub listed : List (List ℕ) → ℕ → List ℕ
listed lists k = option_map_or (λ list. list) (slice_get lists k) []

-- the temporaries whose expressions are inserted on the edge
abbrev pub inserted_on : Changes → Edge → List ℕ
inserted_on c Entry = c.entry
inserted_on c (Inside b k) = option_map_or (λ block. listed block.inside k) (slice_get c.blocks b) []
inserted_on c (Slot b slot) = option_map_or (λ block. listed block.slots slot) (slice_get c.blocks b) []

-- the number of the edge
abbrev pub number_of_edge : Changes → Edge → ℕ
number_of_edge c Entry = 0
number_of_edge c (Inside b k) = option_map_or (λ block. block.first_edge + k) (slice_get c.blocks b) 0
number_of_edge c (Slot b slot) = option_map_or (λ block. block.first_slot + slot) (slice_get c.blocks b) 0

-- what becomes of the instruction k of block b
abbrev pub action_of : Changes → ℕ → ℕ → Action
action_of c b k = option_map_or (λ block. option_map_or (λ action. action) (slice_get block.actions k) Stays) (slice_get c.blocks b) Stays

-- ---- what a plan says of them

-- the places in the list of the moves that insert on the edge, the first of them being j
abbrev pub inserting : ℕ → Edge → List Move → List ℕ
inserting j edge [] = []
inserting j edge (move ∷ moves) = (if move.inserted edge then j ∷ [] else []) ++ inserting (suc j) edge moves

-- the instruction after the action, with the first temporary and the new numbers of registers
abbrev pub acted : Action → ℕ → (ℕ → ℕ) → Instr → Instr
acted Stays temp number instr = record { result = instr.result; kind = renamed_kind number instr.kind }
acted (Loads j) temp number instr = record { result = instr.result; kind = Load (Local (temp + j)) }
acted (Stores j) temp number instr = record { result = instr.result; kind = renamed_kind number instr.kind }

-- the store that the action adds behind the instruction, whose result is the register n
abbrev pub added : Action → ℕ → ℕ → List Instr
added Stays temp n = []
added (Loads j) temp n = []
added (Stores j) temp n = store_to n (temp + j) ∷ []

-- the action is what the moves do to the instruction k of block b
pub record IsAction (moves : List Move) (b k : ℕ) (action : Action) : Type 0 where
  pub copies : (temp : ℕ) (number : ℕ → ℕ) (instr : Instr) → copied temp number (Place b k) instr moves ≡ acted action temp number instr
  pub adds : (temp n : ℕ) → stores temp n b k moves ≡ added action temp n

-- the number and the expression of a move are those of the temporary
pub record IsTemp (exprs : List Expr) (x : ℕ) (move : Move) : Type 0 where
  pub number : move.number ≡ x
  pub expr : slice_get exprs x ≡ Some move.expr

-- the changes are those of the plan, for a function with these expressions
pub record AreChanges (plan : Plan) (exprs : List Expr) (c : Changes) : Type 0 where
  pub prefix : plan.naming.prefix ≡ c.prefix
  pub temps : AllZip (IsTemp exprs) c.temps plan.moves
  pub edges : (edge : Edge) → inserted_on c edge ≡ inserting 0 edge plan.moves
  pub numbers : (edge : Edge) → IsInserted plan.moves edge → plan.naming.edge_number edge ≡ number_of_edge c edge
  pub places : (b k : ℕ) → IsAction plan.moves b k (action_of c b k)

-- they are those of some plan of the function, by which it does not become too large
pub record HasPlan (f : Function) (exprs : List Expr) (c : Changes) : Type 0 where
  pub plan : Plan
  pub is_plan : IsPlan f plan
  pub are_changes : AreChanges plan exprs c
  pub few : size (applied_function plan f) < item_limit
