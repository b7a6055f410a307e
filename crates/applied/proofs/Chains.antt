-- The groups of edges that follow one another run one after another.
use Rattle.std.proofs.Common.{◌≡◌, ℕ, ◌+◌, Bool, true, false, List, [], ◌∷◌, length, Some, None, Err, refl, sym, ap, ◌∙◌, subst, arith, length-append}
use Rattle.std.specs.Prelude.{slice_get}
use Rattle.std.specs.List.{AllZip}
use Rattle.mc_num.specs.Op.{argument_widths}
use Rattle.mc_num.specs.declared.op.Trap.{Trap}
use Rattle.ir_types.specs.Program.{Program}
use Rattle.ir_types.specs.declared.syntax.Operand.{Operand}
use Rattle.ir_types.specs.declared.syntax.Operand.TheVariants.{Const, Param, Reg}
use Rattle.ir_types.specs.declared.syntax.Block.{Block}
use Rattle.ir_types.specs.declared.syntax.Function.{Function}
use Rattle.machines.proofs.ByFrames.{TrapsIn}
use Rattle.ir_machine.specs.declared.frame.Frame.{Frame}
use Rattle.ir_machine.specs.Step.{Globals, frames_of}
use Rattle.point_graph.specs.Graph.{Point, Start, Head, Place, Edge, Joins, IsReached}
use Rattle.expressions.specs.declared.syntax.Arg.{Arg}
use Rattle.expressions.specs.declared.syntax.Arg.TheVariants.{Const as ConstArg, Param as ParamArg, Var as VarArg}
use Rattle.expressions.specs.declared.syntax.Expr.{Expr}
use Rattle.applied.specs.Motion.{expr_in, IsArg, Occurs, IsInevitable, Move, IsMove}
use Rattle.applied.specs.Applied.{Naming, StandsAt, groups, groups_along}
use Rattle.applied.proofs.Fitting.{KindFits, FunctionFits, length_zip}
use Rattle.applied.proofs.Traps.{expr_can_trap}
use Rattle.applied.proofs.Steps.{stands_both}
use Rattle.applied.proofs.Living.{reached_next, live_before}
use Rattle.applied.proofs.Running.{ArgWithin, ArgsWithin, Ready, ready_by, Follows, Within, groups_run}

-- an expression that occurs has variables of the function
module _ (m : Program) (function : Function) (fits : FunctionFits function) where
  arg_within : (b k : ℕ) (block : Block) → slice_get function.blocks b ≡ Some block → (operand : Operand) (arg : Arg) → IsArg m block.instrs k operand arg → ArgWithin (length function.vars) arg
  arg_within b k block there operand (ConstArg c) is = tt
  arg_within b k block there operand (ParamArg i) is = tt
  arg_within b k block there (Reg r) (VarArg x) is =
      subst (KindFits r (length function.vars)) is.load (fits.instrs b r block is.instr there is.there)
  arg_within b k block there (Const c) (VarArg x) is = absurd is
  arg_within b k block there (Param i) (VarArg x) is = absurd is

  args_within : (b k : ℕ) (block : Block) → slice_get function.blocks b ≡ Some block → (operands : List Operand) (args : List Arg) → AllZip (IsArg m block.instrs k) operands args → ArgsWithin (length function.vars) args
  args_within b k block there [] [] are = tt
  args_within b k block there (operand ∷ operands) (arg ∷ args) are =
      (arg_within b k block there operand arg are.0, args_within b k block there operands args are.1)
  args_within b k block there [] (arg ∷ args) are = absurd are
  args_within b k block there (operand ∷ operands) [] are = absurd are

  abbrev pub ExprFits : Expr → Type 0
  ExprFits e = ArgsWithin (length function.vars) e.args × (length e.args ≡ length (argument_widths e.op))

  pub expr_fits : (e : Expr) (v : Point) → Occurs m function e v → ExprFits e
  expr_fits e Start occurs = absurd occurs
  expr_fits e (Head b) occurs = absurd occurs
  expr_fits e (Place b k) occurs =
      let kind = subst (KindFits k (length function.vars)) occurs.computes (fits.instrs b k occurs.block occurs.instr occurs.block_there occurs.here) in (
        args_within b k occurs.block occurs.block_there occurs.operands e.args occurs.are_args,
        sym (length_zip (IsArg m occurs.block.instrs k) occurs.operands e.args occurs.are_args) ∙ kind.1,
      )

-- the edge isn't inserted, and its end is live
abbrev pub LiveOn : Edge → Point → Move → Type 0
LiveOn edge w move = (move.inserted edge ≡ false) × (move.live w ≡ true)

abbrev pub LiveAt : Point → Move → Type 0
LiveAt w move = move.live w ≡ true

abbrev pub NeverOccurs : Program → Function → Point → Type 0
NeverOccurs m function w = (e : Expr) → ¬ Occurs m function e w

pub unkept : (m : Program) (function : Function) (w : Point) (move : Move) → IsMove m function move → NeverOccurs m function w → (b : Bool) → move.kept w ≡ b → move.kept w ≡ false
unkept m function w move is never false e = e
unkept m function w move is never true e = absurd (never move.expr (is.kept_is w e).1)

pub never_at_end : (m : Program) (function : Function) (block : Block) (b k : ℕ) → slice_get function.blocks b ≡ Some block → slice_get block.instrs k ≡ None → NeverOccurs m function (Place b k)
never_at_end m function block b k there none e occurs =
    let same : block ≡ occurs.block = let both : Some block ≡ Some occurs.block = sym there ∙ occurs.block_there in cc in
    let here = sym none ∙ ap (λ x. slice_get x.instrs k) same ∙ occurs.here in
    absurd cc

module _ (m m' : Program) (related : Globals → Frame → Frame → Type 0) (block' : Block) (function : Function) (fits : FunctionFits function) (naming : Naming) (moves : List Move) (number : ℕ → ℕ) (are : (x : ℕ) (move : Move) → slice_get moves x ≡ Some move → IsMove m function move) (globals : Globals) (f : Frame) (vars : length f.variables ≡ length function.vars) where
  -- where a trap is inevitable the old run comes to it
  abbrev pub TrapsFrom : Point → Type 0
  TrapsFrom w = (e : Expr) (trap : Trap) → IsInevitable m function e w → expr_in globals f e ≡ Err trap → (i : ℕ) × TrapsIn (frames_of m) i globals f trap

  -- the edges lead on from w to v, and no expression occurs between
  abbrev pub Chain : Point → List Edge → Point → Type 0
  Chain w [] v = w ≡ v
  Chain w (edge ∷ edges) v = NeverOccurs m function w × (x : Point) × Joins function edge w x × TrapsFrom x × Chain x edges v

  abbrev pub ReadyFor : (Move → Type 0) → Frame → Type 0
  ReadyFor L f' = Ready m' block' moves number (λ i move. L move) globals f f'

  abbrev pub ArrivedAt : Point → ℕ → Frame → Type 0
  ArrivedAt v n g = ReadyFor (LiveAt v) g × (length g.registers ≡ n) × IsReached function v

  within : Within m m' related block' naming moves number globals f
  within x move there =
      let is = are x move there in
      subst (λ n. ArgsWithin n move.expr.args) (sym vars) (expr_fits m function fits move.expr is.found_at is.found).0

  -- what is live behind the next edge is live before it
  pub live_back : (edge : Edge) (w x : Point) → NeverOccurs m function w → Joins function edge w x → IsReached function w → (i : ℕ) (move : Move) → slice_get moves i ≡ Some move → LiveOn edge x move → LiveAt w move
  live_back edge w x never joins reached i move there live =
      let is = are i move there in
      live_before m function move is edge w x joins live.1 live.0 (unkept m function w move is never _ refl) reached

  abbrev ends_at : Frame → Type 0
  ends_at g = Follows m m' related block' globals f g

  -- from the point w on, the groups of these edges run
  abbrev RunsAlong : List Edge → Type 0
  RunsAlong edges =
      (w v : Point) → IsReached function w → Chain w edges v → (n : ℕ) (g : Frame) → length g.registers ≡ n → StandsAt block'.instrs n (groups_along naming n (length function.vars) edges moves)
      → ReadyFor (LiveAt w) g → ((h : Frame) → ArrivedAt v (n + length (groups_along naming n (length function.vars) edges moves)) h → ends_at h) → ends_at g

  edge_run : (edges : List Edge) → RunsAlong edges → (edge : Edge) (u w v : Point) → Joins function edge u w → IsReached function u → TrapsFrom w → Chain w edges v → (n : ℕ) (f' : Frame) → length f'.registers ≡ n → StandsAt block'.instrs n (groups_along naming n (length function.vars) (edge ∷ edges) moves) → ReadyFor (LiveOn edge w) f' → ((g : Frame) → ArrivedAt v (n + length (groups_along naming n (length function.vars) (edge ∷ edges) moves)) g → ends_at g) → ends_at f'
  edge_run edges runs edge u w v joins reached traps chain n f' len stands ready next =
      let here = groups naming n (length function.vars) edge moves in
      let behind = groups_along naming (n + length here) (length function.vars) edges moves in
      let both = stands_both block'.instrs n here behind stands in
      let temp : length function.vars ≡ length f.variables + 0 = omega (arith, vars) in
      groups_run m m' related block' naming moves number globals f edge (LiveAt w) within
      (λ x move there inserted trap e.
      let is = are x move there in
      traps move.expr trap (is.safe (expr_can_trap globals f move.expr trap (expr_fits m function fits move.expr is.found_at is.found).1 e) edge u w joins inserted) e)
      moves 0 (λ i. let e : i ≡ 0 + i = omega arith in ap (slice_get moves) e) n (length function.vars) f' temp len both.0
      (ready_by m' block' moves number (λ i move. LiveOn edge w move) _ globals f f' ready (λ i move there l. (l.1 (omega arith), l.0)))
      (λ g arrived. runs w v (reached_next function edge u w joins reached) chain (n + length here) g arrived.1 both.1 arrived.0
      (λ h last. next h (last.0, omega (arith, last.1, length-append here behind), last.2)))

  runs_along : (edges : List Edge) → RunsAlong edges
  runs_along [] w v reached chain n g len stands ready next =
      next g (
        ready_by m' block' moves number (λ i move. LiveAt w move) _ globals f g ready (λ i move there l. subst (λ x. move.live x ≡ true) (sym chain) l),
        omega (arith, len),
        subst (IsReached function) chain reached,
      )
  runs_along (edge ∷ edges) w v reached chain n g len stands ready next =
      edge_run edges (runs_along edges) edge w chain.1 v chain.2 reached chain.3 chain.4 n g len stands
      (ready_by m' block' moves number (λ i move. LiveAt w move) _ globals f g ready (live_back edge w chain.1 chain.0 chain.2 reached))
      next

  pub chain_run : (edges : List Edge) (edge : Edge) (u w v : Point) → Joins function edge u w → IsReached function u → TrapsFrom w → Chain w edges v → (n : ℕ) (f' : Frame) → length f'.registers ≡ n → StandsAt block'.instrs n (groups_along naming n (length function.vars) (edge ∷ edges) moves) → ReadyFor (LiveOn edge w) f' → ((g : Frame) → ArrivedAt v (n + length (groups_along naming n (length function.vars) (edge ∷ edges) moves)) g → ends_at g) → ends_at f'
  chain_run edges edge u w v joins reached traps chain n f' len stands ready next =
      edge_run edges (runs_along edges) edge u w v joins reached traps chain n f' len stands ready next
