-- The rules that a module keeps.
use Rattle.std.specs.Prelude.{◌≡◌, ◌≢◌, ◌<◌, ◌≤◌, ◌^◌, ◌+◌, ◌-◌, ◌++◌, ◌↔◌, ◌⊎◌, ℕ, List, [], ◌∷◌, Option, None, Some, length, map, flat_map, filter_map, take, slice_get, sum_by, All, AllPairs, IsSome, IsSomeAnd, option_and_then, codes}
use Rattle.std.specs.List.{AllZip}
use Rattle.ir_types.specs.Names.{spelled, IsNameText, IsSpellable}
use Rattle.ir_types.specs.Program.{Program}
use Rattle.ir_types.specs.declared.name.Name.{Name}
use Rattle.ir_types.specs.declared.name.Name.TheVariants.{Text, Number, Made}
use Rattle.mc_num.specs.Op.{bits, argument_widths, result_width, IsWellFormedOp}
use Rattle.mc_num.specs.declared.op.Width.{Width}
use Rattle.mc_num.specs.declared.op.Width.TheVariants.{I1, I32}
use Rattle.mc_num.specs.declared.op.Op.{Op}
use Rattle.ir_types.specs.declared.syntax.Operand.{Operand}
use Rattle.ir_types.specs.declared.syntax.Operand.TheVariants.{Const, Param, Reg}
use Rattle.ir_types.specs.declared.syntax.Variable.{Variable}
use Rattle.ir_types.specs.declared.syntax.Variable.TheVariants.{Local, Global as GlobalVariable}
use Rattle.ir_types.specs.declared.syntax.Kind.{Kind}
use Rattle.ir_types.specs.declared.syntax.Kind.TheVariants.{Load, Store, Compute, Call}
use Rattle.ir_types.specs.declared.syntax.Instr.{Instr}
use Rattle.ir_types.specs.declared.syntax.Terminator.{Terminator}
use Rattle.ir_types.specs.declared.syntax.Terminator.TheVariants.{Return, Jump, Branch, Switch, Unreachable}
use Rattle.ir_types.specs.declared.syntax.Block.{Block}
use Rattle.ir_types.specs.declared.syntax.Function.{Function}
use Rattle.ir_types.specs.declared.syntax.Global.{Global}

-- ---- what the instructions of a function can name

-- the widths of a list of parameters or variables
abbrev pub widths : List (Width × Name) → List Width
widths xs = map (λ x. x.0) xs

-- what a caller sees of a function
pub record Signature : Type 0 where
  pub ret : Option Width
  pub params : List Width

abbrev pub signature : Function → Signature
signature f = record { ret = f.ret; params = widths f.params }

pub record Scope : Type 0 where
  pub globals : List Width
  pub functions : List Signature
  pub own : Signature
  pub vars : List Width
  pub blocks : ℕ

abbrev pub scope : Program → Function → Scope
scope m f = record {
  globals = map (λ g. g.width) m.globals;
  functions = map signature m.functions;
  own = signature f;
  vars = widths f.vars;
  blocks = length f.blocks;
}

abbrev pub variable_width : Scope → Variable → Option Width
variable_width s (Local v) = slice_get s.vars v
variable_width s (GlobalVariable g) = slice_get s.globals g

-- the width of what an instruction gives, if it gives anything
abbrev pub given_by : Scope → Kind → Option Width
given_by s (Load v) = variable_width s v
given_by s (Store _ _) = None
given_by s (Compute op _) = Some (result_width op)
given_by s (Call callee _) = option_and_then (λ g. g.ret) (slice_get s.functions callee)

-- ---- what fits

-- an operand has this width, after these instructions of its block
abbrev pub HasWidth : Scope → List Instr → Width → Operand → Type 0
HasWidth s before w (Const value) = value < 2 ^ bits w
HasWidth s before w (Param p) = slice_get s.own.params p ≡ Some w
HasWidth s before w (Reg r) = option_and_then (λ i. given_by s i.kind) (slice_get before r) ≡ Some w

-- an operation that exists, with operands of its widths
pub record IsOperation (s : Scope) (before : List Instr) (op : Op) (operands : List Operand) : Type 0 where
  pub exists : IsWellFormedOp op
  pub operands_fit : AllZip (HasWidth s before) (argument_widths op) operands

-- an instruction fits, after these instructions of its block
abbrev pub Fits : Scope → List Instr → Kind → Type 0
Fits s before (Load v) = IsSome (variable_width s v)
Fits s before (Store value v) = IsSomeAnd (variable_width s v) (λ w. HasWidth s before w value)
Fits s before (Compute op operands) = IsOperation s before op operands
Fits s before (Call callee arguments) = IsSomeAnd (slice_get s.functions callee) (λ g. AllZip (HasWidth s before) g.params arguments)

-- a list of a module has fewer items than this
abbrev pub item_limit : ℕ
item_limit = 2 ^ 32 - 1

-- the values of a switch's cases fit its width and differ
pub record AreCases (w : Width) (cases : List (ℕ × ℕ)) : Type 0 where
  pub fit : All (λ c. c.0 < 2 ^ bits w) cases
  pub differ : AllPairs (λ c d. c.0 ≢ d.0) cases
  pub few : length cases < item_limit

-- a terminator's operands fit, after the block's instructions
abbrev pub Ends : Scope → List Instr → Terminator → Type 0
Ends s before (Return None) = s.own.ret ≡ None
Ends s before (Return (Some value)) = IsSomeAnd s.own.ret (λ w. HasWidth s before w value)
Ends s before (Jump _) = Unit {0}
Ends s before (Branch condition _ _) = HasWidth s before I1 condition
Ends s before (Switch w value _ cases) = HasWidth s before w value × AreCases w cases
Ends s before Unreachable = Unit {0}

-- the blocks that a terminator names
abbrev pub targets : Terminator → List ℕ
targets (Return _) = []
targets (Jump b) = b ∷ []
targets (Branch _ a b) = a ∷ b ∷ []
targets (Switch _ _ other cases) = other ∷ map (λ c. c.1) cases
targets Unreachable = []

-- an instruction has a name exactly where it gives a result
abbrev pub IsNamed : Scope → Instr → Type 0
IsNamed s i = IsSome i.result ↔ IsSome (given_by s i.kind)

-- each instruction fits after those before it, and the entry block has no predecessor
pub record IsBlockIn (s : Scope) (b : Block) : Type 0 where
  pub fits : (k : ℕ) (i : Instr) → slice_get b.instrs k ≡ Some i → Fits s (take k b.instrs) i.kind
  pub named : All (IsNamed s) b.instrs
  pub ends : Ends s b.instrs b.term
  pub targets_exist : All (λ t. (0 < t) × (t < s.blocks)) (targets b.term)

-- ---- names

abbrev pub result_names : Block → List Name
result_names b = filter_map (λ i. i.result) b.instrs

-- the names of blocks and of their results
abbrev pub block_names : List Block → List Name
block_names blocks = flat_map (λ b. b.name ∷ result_names b) blocks

-- the names of a function in text order; its variables stand first in the entry block
abbrev pub body_names : List Name → List Block → List Name
body_names vars [] = vars
body_names vars (entry ∷ blocks) = entry.name ∷ (vars ++ (result_names entry ++ block_names blocks))

abbrev pub names : Function → List Name
names f = map (λ x. x.1) f.params ++ body_names (map (λ x. x.1) f.vars) f.blocks

-- the numbers among the names go up by one, from this number
abbrev pub CountFrom : ℕ → List Name → Type 0
CountFrom next [] = Unit {0}
CountFrom next (Number n ∷ ns) = (n ≡ next) × CountFrom (next + 1) ns
CountFrom next (Text _ ∷ ns) = CountFrom next ns
CountFrom next (Made _ _ ∷ ns) = CountFrom next ns

-- ---- functions and modules

abbrev pub getchar : Function
getchar = record { name = codes "getchar"; ret = Some I32; params = []; vars = []; blocks = [] }

abbrev pub putchar : Function
putchar = record { name = codes "putchar"; ret = Some I32; params = (I32, Number 0) ∷ []; vars = []; blocks = [] }

-- how many parameters, variables, blocks and instructions a function has together
abbrev pub size : Function → ℕ
size f = length f.params + length f.vars + length f.blocks + sum_by (λ b. length b.instrs) f.blocks

pub record IsFunctionIn (m : Program) (f : Function) : Type 0 where
  pub named : IsNameText f.name
  pub spellable : All IsSpellable (names f)
  pub names_differ : AllPairs (λ a b. a ≢ b) (map spelled (names f))
  pub numbers_count : CountFrom 0 (names f)
  pub blocks : All (IsBlockIn (scope m f)) f.blocks
  -- a function without blocks is a declaration of one of two functions
  pub declared : f.blocks ≡ [] → (f ≡ getchar) ⊎ (f ≡ putchar)
  pub few_params : length f.params ≤ 2 ^ 28
  pub few : size f < item_limit

pub record IsGlobal (g : Global) : Type 0 where
  pub named : IsNameText g.name
  pub fits : g.value < 2 ^ bits g.width

-- the names of a module's globals and functions
abbrev pub symbols : Program → List (List ℕ)
symbols m = map (λ g. g.name) m.globals ++ map (λ f. f.name) m.functions

pub record IsWellFormed (m : Program) : Type 0 where
  pub symbols_differ : AllPairs (λ a b. a ≢ b) (symbols m)
  pub globals : All IsGlobal m.globals
  pub functions : All (IsFunctionIn m) m.functions
  pub few_globals : length m.globals < item_limit
  pub few_functions : length m.functions < item_limit
