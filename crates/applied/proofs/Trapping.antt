-- Where a trap of an expression is inevitable the old run comes to it by itself.
use Rattle.std.proofs.Common.{◌+◌, Bool, true, false, if◌then◌else◌, ◌≡◌, ℕ, zero, suc, ◌<◌, ◌≤◌, List, [], ◌∷◌, length, map, Option, Some, None, Err, refl, sym, ap, ◌∙◌, subst, arith, inl, inr, ⊎_elim, length-append}
use Rattle.std.specs.Prelude.{◌==◌, slice_get, slice_index, slice_set}
use Rattle.std.specs.List.{AllZip}
use Rattle.std.proofs.lemmas.Option.{slice_get_within}
use Rattle.mc_num.specs.Value.{value_of}
use Rattle.mc_num.specs.declared.op.Trap.{Trap}
use Rattle.ir_types.specs.Program.{Program}
use Rattle.ir_types.specs.declared.syntax.Operand.{Operand}
use Rattle.ir_types.specs.declared.syntax.Operand.TheVariants.{Const, Param, Reg}
use Rattle.ir_types.specs.declared.syntax.Variable.TheVariants.{Local, Global}
use Rattle.ir_types.specs.declared.syntax.Kind.{Kind}
use Rattle.ir_types.specs.declared.syntax.Kind.TheVariants.{Load, Store, Compute, Call}
use Rattle.ir_types.specs.declared.syntax.Instr.{Instr}
use Rattle.ir_types.specs.declared.syntax.Terminator.{Terminator}
use Rattle.ir_types.specs.declared.syntax.Terminator.TheVariants.{Return, Jump, Branch, Switch, Unreachable}
use Rattle.ir_types.specs.declared.syntax.Block.{Block}
use Rattle.ir_types.specs.declared.syntax.Function.{Function}
use Rattle.machines.specs.Acts.{Act, Slot as TakenSlot, Goes, Traps}
use Rattle.machines.proofs.ByFrames.{TrapsIn}
use Rattle.ir_machine.specs.declared.frame.Frame.{Frame}
use Rattle.ir_machine.specs.Step.{Globals, value_in, variable_in, computed, instr_act, block_act, act_in, block_at, blocks_of, term_act, branched, switched, frames_of}
use Rattle.point_graph.specs.Graph.{Point, Start, Head, Place, Edge, Inside, Slot, Joins}
use Rattle.expressions.specs.declared.syntax.Arg.{Arg}
use Rattle.expressions.specs.declared.syntax.Arg.TheVariants.{Const as ConstArg, Param as ParamArg, Var as VarArg}
use Rattle.expressions.specs.declared.syntax.Expr.{Expr}
use Rattle.applied.specs.Motion.{slot_target, ChangesArg, ChangesSome, arg_in, expr_in, IsArg, OccursIn, Occurs, Kills, KindBars, TermBars, PlaceBars, Bars, LeadsAllTo, IsInevitableWithin}
use Rattle.applied.proofs.Fitting.{KindFits, FunctionFits}
use Rattle.applied.proofs.Loads.{Done, behind, LoadsHold, loads_hold, kept}
use Rattle.applied.proofs.Traps.{computes_ok}
use Rattle.applied.proofs.Steps.{alone_goes}

-- the block of a number
pub block_found : (blocks : List Block) (b : ℕ) → b < length blocks → (block : Block) × (slice_get blocks b ≡ Some block)
block_found [] b lt = absurd (omega (arith, lt))
block_found (block ∷ blocks) zero lt = (block, refl)
block_found (block ∷ blocks) (suc b) lt = block_found blocks b (omega (arith, lt))

arg_kept : (m : Program) (kind : Kind) (g : Globals) (f : Frame) (v : ℕ) (V : List ℕ) (g' : Globals) (arg : Arg) → Done m kind g f v V g' → ¬ ChangesArg m kind arg → arg_in g' (behind f v V) arg ≡ arg_in g f arg
arg_kept m kind g f v V g' (ConstArg c) done unchanged = refl
arg_kept m kind g f v V g' (ParamArg i) done unchanged = refl
arg_kept m kind g f v V g' (VarArg x) done unchanged = kept m kind g f v V g' x done unchanged

args_kept : (m : Program) (kind : Kind) (g : Globals) (f : Frame) (v : ℕ) (V : List ℕ) (g' : Globals) (args : List Arg) → Done m kind g f v V g' → ¬ ChangesSome m kind args → map (arg_in g' (behind f v V)) args ≡ map (arg_in g f) args
args_kept m kind g f v V g' [] done unchanged = refl
args_kept m kind g f v V g' (arg ∷ args) done unchanged =
    ap (λ a. a ∷ map (arg_in g' (behind f v V)) args) (arg_kept m kind g f v V g' arg done (λ c. unchanged (inl c)))
    ∙ ap (λ l. arg_in g f arg ∷ l) (args_kept m kind g f v V g' args done (λ c. unchanged (inr c)))

-- an instruction that changes no operand of the expression keeps its value
pub expr_kept : (m : Program) (kind : Kind) (g : Globals) (f : Frame) (v : ℕ) (V : List ℕ) (g' : Globals) (e : Expr) → Done m kind g f v V g' → ¬ ChangesSome m kind e.args → expr_in g' (behind f v V) e ≡ expr_in g f e
expr_kept m kind g f v V g' e done unchanged = ap (value_of e.op) (args_kept m kind g f v V g' e.args done unchanged)

-- the operands of an occurrence have the values of the expression's
arg_holds : (m : Program) (instrs : List Instr) (g : Globals) (f : Frame) (k : ℕ) (operand : Operand) (arg : Arg) → length f.registers ≡ k → LoadsHold m instrs g f → IsArg m instrs k operand arg → value_in f operand ≡ arg_in g f arg
arg_holds m instrs g f k (Const n) (ConstArg c) len loads is = is
arg_holds m instrs g f k (Param i) (ParamArg j) len loads is = ap (slice_index f.arguments) is
arg_holds m instrs g f k (Reg i) (VarArg x) len loads is =
    loads i is.instr x is.there is.load (omega (arith, is.earlier, len)) (λ j instr a b. is.kept j instr a (omega (arith, b, len)))
arg_holds m instrs g f k (Const n) (ParamArg j) len loads is = absurd is
arg_holds m instrs g f k (Const n) (VarArg x) len loads is = absurd is
arg_holds m instrs g f k (Param i) (ConstArg c) len loads is = absurd is
arg_holds m instrs g f k (Param i) (VarArg x) len loads is = absurd is
arg_holds m instrs g f k (Reg i) (ConstArg c) len loads is = absurd is
arg_holds m instrs g f k (Reg i) (ParamArg j) len loads is = absurd is

args_hold : (m : Program) (instrs : List Instr) (g : Globals) (f : Frame) (k : ℕ) → length f.registers ≡ k → LoadsHold m instrs g f → (operands : List Operand) (args : List Arg) → AllZip (IsArg m instrs k) operands args → map (value_in f) operands ≡ map (arg_in g f) args
args_hold m instrs g f k len loads [] [] are = refl
args_hold m instrs g f k len loads (operand ∷ operands) (arg ∷ args) are =
    ap (λ v. v ∷ map (value_in f) operands) (arg_holds m instrs g f k operand arg len loads are.0)
    ∙ ap (λ l. arg_in g f arg ∷ l) (args_hold m instrs g f k len loads operands args are.1)
args_hold m instrs g f k len loads [] (arg ∷ args) are = absurd are
args_hold m instrs g f k len loads (operand ∷ operands) [] are = absurd are

pub occurrence_value : (m : Program) (function : Function) (e : Expr) (b k : ℕ) (g : Globals) (f : Frame) (block : Block) → slice_get function.blocks b ≡ Some block → (occurs : OccursIn m function e b k) → length f.registers ≡ k → LoadsHold m block.instrs g f → value_of e.op (map (value_in f) occurs.operands) ≡ expr_in g f e
occurrence_value m function e b k g f block there occurs len loads =
    let same : block ≡ occurs.block = let both : Some block ≡ Some occurs.block = sym there ∙ occurs.block_there in cc in
    let loads' = subst (λ x. LoadsHold m x.instrs g f) same loads in
    ap (value_of e.op) (args_hold m occurs.block.instrs g f k len loads' occurs.operands e.args occurs.are_args)

-- the frame goes on by itself past an instruction that doesn't bar
record GoesPast (m : Program) (kind : Kind) (globals : Globals) (f : Frame) : Type 0 where
  value : ℕ
  variables : List ℕ
  after : Globals
  act : instr_act m kind globals f ≡ Goes None (behind f value variables) after
  done : Done m kind globals f value variables after

goes_past : (m : Program) (vars : ℕ) (kind : Kind) (globals : Globals) (f : Frame) → KindFits (length f.registers) vars kind → ¬ KindBars kind → GoesPast m kind globals f
goes_past m vars (Load x) globals f fits unbarred = record { value = variable_in globals f x; variables = f.variables; after = globals; act = refl; done = (refl, refl, refl) }
goes_past m vars (Store operand (Local x)) globals f fits unbarred =
    record { value = 0; variables = slice_set f.variables x (value_in f operand); after = globals; act = refl; done = (refl, refl) }
goes_past m vars (Store operand (Global y)) globals f fits unbarred =
    record { value = 0; variables = f.variables; after = slice_set globals y (value_in f operand); act = refl; done = (refl, refl) }
goes_past m vars (Compute op operands) globals f fits unbarred =
    let ok = computes_ok op f operands fits.1 unbarred in
    record { value = ok.0; variables = f.variables; after = globals; act = ap (λ r. computed r globals f) ok.1; done = (ok.1, refl, refl) }
goes_past m vars (Call i operands) globals f fits unbarred = absurd (unbarred tt)

pub past_end : (instrs : List Instr) (k : ℕ) → slice_get instrs k ≡ None → length instrs ≤ k
past_end [] k e = omega arith
past_end (x ∷ xs) zero e = absurd cc
past_end (x ∷ xs) (suc k) e = omega (arith, past_end xs k e)

-- the frame stands in its function, in a block of it
pub record InBlock (m : Program) (function : Function) (block : Block) (g : Globals) (f : Frame) : Type 0 where
  pub function_there : slice_get m.functions f.function ≡ Some function
  pub block_there : slice_get function.blocks f.block ≡ Some block
  pub within : length f.registers ≤ length block.instrs
  pub loads : LoadsHold m block.instrs g f

pub found_block : (m : Program) (function : Function) (block : Block) (f : Frame) → slice_get m.functions f.function ≡ Some function → slice_get function.blocks f.block ≡ Some block → block_at m f.function f.block ≡ Some block
found_block m function block f e e' = ap (λ o. slice_get (blocks_of o) f.block) e ∙ e'

pub at_head_of : (m : Program) (function : Function) (block : Block) (g : Globals) (f : Frame) → slice_get m.functions f.function ≡ Some function → slice_get function.blocks f.block ≡ Some block → f.registers ≡ [] → InBlock m function block g f
at_head_of m function block g f e e' none = record {
  function_there = e;
  block_there = e';
  within = omega (arith, ap length none);
  loads = λ k instr x e load lt unchanged. absurd (omega (arith, lt, ap length none));
}

-- past an instruction
pub in_block_past : (m : Program) (function : Function) (block : Block) (g : Globals) (f : Frame) → InBlock m function block g f → (instr : Instr) → slice_get block.instrs (length f.registers) ≡ Some instr → (v : ℕ) (V : List ℕ) (g' : Globals) → Done m instr.kind g f v V g' → InBlock m function block g' (behind f v V)
in_block_past m function block g f here instr e v V g' done = record {
  function_there = here.function_there;
  block_there = here.block_there;
  within = omega (arith, slice_get_within block.instrs (length f.registers) instr e, length-append f.registers (v ∷ []));
  loads = loads_hold m block.instrs g f instr v V g' here.loads e done;
}

-- where the frame stands
abbrev pub AtPoint : Frame → Point → Type 0
AtPoint f Start = ⊥
AtPoint f (Head b) = (f.block ≡ b) × (f.registers ≡ [])
AtPoint f (Place b k) = (f.block ≡ b) × (length f.registers ≡ k)

module _ (m : Program) (function : Function) (fits : FunctionFits function) (e : Expr) (trap : Trap) where
  abbrev pub Comes : Globals → Frame → Type 0
  Comes globals f = (i : ℕ) × TrapsIn (frames_of m) i globals f trap

  abbrev pub ComesFrom : ℕ → Type 0
  ComesFrom k = (v : Point) (block : Block) (globals : Globals) (f : Frame) → IsInevitableWithin m function e k v → AtPoint f v → InBlock m function block globals f → expr_in globals f e ≡ Err trap → Comes globals f

  traps_here : (v : Point) (block : Block) (globals : Globals) (f : Frame) → Occurs m function e v → AtPoint f v → InBlock m function block globals f → expr_in globals f e ≡ Err trap → Comes globals f
  traps_here Start block globals f occurs at here value = absurd at
  traps_here (Head b) block globals f occurs at here value = absurd occurs
  traps_here (Place b k) block globals f occurs at here value =
      let there = ap (slice_get function.blocks) (sym at.0) ∙ here.block_there in
      let same : occurs.block ≡ block = let both : Some occurs.block ≡ Some block = sym occurs.block_there ∙ there in cc in
      let is : slice_get block.instrs (length f.registers) ≡ Some occurs.instr = ap (λ x. slice_get x.instrs (length f.registers)) (sym same) ∙ ap (slice_get occurs.block.instrs) at.1 ∙ occurs.here in (
        0,
        ap (λ o. act_in m o globals f) (found_block m function block f here.function_there here.block_there)
            ∙ ap (λ o. block_act m o block.term globals f) is
            ∙ ap (λ kind. instr_act m kind globals f) occurs.computes
            ∙ ap (λ r. computed r globals f) (occurrence_value m function e b k globals f block there occurs at.1 here.loads ∙ value),
      )

  step_on : (globals globals' : Globals) (f g : Frame) (slot : Option TakenSlot) → (frames_of m).act globals f ≡ Goes slot g globals' → Comes globals' g → Comes globals f
  step_on globals globals' f g slot act comes = (suc comes.0, alone_goes (frames_of m) comes.0 (λ g h. (frames_of m).act g h ≡ Traps trap) globals globals' f g slot act comes.1)

  -- through a slot to a block
  abbrev through : Frame → ℕ → Frame
  through f target = record f { block = target; registers = [] }

  through_slot : (k : ℕ) (block : Block) (globals : Globals) (f : Frame) (slot target : ℕ) → ComesFrom k → InBlock m function block globals f → ((edge : Edge) (w : Point) → Joins function edge (Place f.block (length f.registers)) w → IsInevitableWithin m function e k w) → length f.registers ≡ length block.instrs → slot_target block.term slot ≡ Some target → expr_in globals f e ≡ Err trap → Comes globals (through f target)
  through_slot k block globals f slot target comes here all len leads value =
      let bounds = fits.targets f.block slot target block here.block_there leads in
      let found = block_found function.blocks target bounds.1 in
      comes (Head target) found.0 globals (through f target)
      (all (Slot f.block slot) (Head target) (record { block = block; block_there = here.block_there; target = target; leads = leads; begins = ap (Place f.block) len; ends = refl }))
      (refl, refl)
      (at_head_of m function found.0 globals (through f target) here.function_there found.1 refl)
      value

  branches : (k : ℕ) (block : Block) (globals : Globals) (f : Frame) (then_block else_block n : ℕ) → Comes globals (through f then_block) → Comes globals (through f else_block) → (frames_of m).act globals f ≡ branched n then_block else_block globals f → Comes globals f
  branches k block globals f then_block else_block zero comes comes' act = step_on globals globals f (through f else_block) _ act comes'
  branches k block globals f then_block else_block (suc n) comes comes' act = step_on globals globals f (through f then_block) _ act comes

  -- each case of a switch
  tested : (globals : Globals) (f : Frame) (q : Bool) (a b : Act Frame Globals) → ((frames_of m).act globals f ≡ a → Comes globals f) → ((frames_of m).act globals f ≡ b → Comes globals f) → (frames_of m).act globals f ≡ (if q then a else b) → Comes globals f
  tested globals f true a b one other act = one act
  tested globals f false a b one other act = other act

  cases_go : (block : Block) (globals : Globals) (f : Frame) (value slot other : ℕ) (cases : List (ℕ × ℕ)) → ((at target : ℕ) → slot_target block.term at ≡ Some target → Comes globals (through f target)) → slot_target block.term 0 ≡ Some other → ((i : ℕ) → slot_target block.term (slot + i) ≡ slice_get (map (λ c. c.1) cases) i) → (frames_of m).act globals f ≡ switched value slot other cases globals f → Comes globals f
  cases_go block globals f value slot other [] comes default suffix act = step_on globals globals f (through f other) _ act (comes 0 other default)
  cases_go block globals f value slot other (case ∷ cases) comes default suffix act =
      let z : slot + 0 ≡ slot = omega arith in
      tested globals f (case.0 == value) _ _
      (λ e. step_on globals globals f (through f case.1) _ e (comes slot case.1 (ap (slot_target block.term) (sym z) ∙ suffix 0)))
      (λ e. cases_go block globals f value (suc slot) other cases comes default (λ i. let n : suc slot + i ≡ slot + suc i = omega arith in ap (slot_target block.term) n ∙ suffix (suc i)) e)
      act

  term_goes : (k : ℕ) (block : Block) (globals : Globals) (f : Frame) (term : Terminator) → block.term ≡ term → ComesFrom k → InBlock m function block globals f → ((edge : Edge) (w : Point) → Joins function edge (Place f.block (length f.registers)) w → IsInevitableWithin m function e k w) → ¬ TermBars term → length f.registers ≡ length block.instrs → (frames_of m).act globals f ≡ term_act term globals f → expr_in globals f e ≡ Err trap → Comes globals f
  term_goes k block globals f (Return operand) is comes here all unbarred len act value = absurd (unbarred tt)
  term_goes k block globals f Unreachable is comes here all unbarred len act value = absurd (unbarred tt)
  term_goes k block globals f (Jump target) is comes here all unbarred len act value =
      step_on globals globals f (through f target) _ act (through_slot k block globals f 0 target comes here all len (ap (λ t. slot_target t 0) is) value)
  term_goes k block globals f (Branch operand then_block else_block) is comes here all unbarred len act value =
      branches k block globals f then_block else_block (value_in f operand)
      (through_slot k block globals f 0 then_block comes here all len (ap (λ t. slot_target t 0) is) value)
      (through_slot k block globals f 1 else_block comes here all len (ap (λ t. slot_target t 1) is) value)
      act
  term_goes k block globals f (Switch width operand other cases) is comes here all unbarred len act value =
      cases_go block globals f (value_in f operand) 1 other cases
      (λ at target leads. through_slot k block globals f at target comes here all len leads value)
      (ap (λ t. slot_target t 0) is)
      (λ i. let n : 1 + i ≡ suc i = omega arith in ap (slot_target block.term) n ∙ ap (λ t. slot_target t (suc i)) is)
      act

  goes_on : (k : ℕ) (block : Block) (globals : Globals) (f : Frame) → ComesFrom k → InBlock m function block globals f → (¬ Kills m function e (Place f.block (length f.registers))) → (¬ Bars function (Place f.block (length f.registers))) → ((edge : Edge) (w : Point) → Joins function edge (Place f.block (length f.registers)) w → IsInevitableWithin m function e k w) → (found : Option Instr) → slice_get block.instrs (length f.registers) ≡ found → expr_in globals f e ≡ Err trap → Comes globals f
  goes_on k block globals f comes here unkilled unbarred all None is value =
      let act = ap (λ o. act_in m o globals f) (found_block m function block f here.function_there here.block_there) ∙ ap (λ o. block_act m o block.term globals f) is in
      term_goes k block globals f block.term refl comes here all
      (λ bars. unbarred (record { block = block; block_there = here.block_there; bars = subst (λ o. PlaceBars o block.term) (sym is) bars }))
      (omega (arith, here.within, past_end block.instrs (length f.registers) is)) act value
  goes_on k block globals f comes here unkilled unbarred all (Some instr) is value =
      let act = ap (λ o. act_in m o globals f) (found_block m function block f here.function_there here.block_there) ∙ ap (λ o. block_act m o block.term globals f) is in
      let past_kind = goes_past m (length function.vars) instr.kind globals f (fits.instrs f.block (length f.registers) block instr here.block_there is) (λ bars. unbarred (record { block = block; block_there = here.block_there; bars = subst (λ o. PlaceBars o block.term) (sym is) bars })) in
      let V = past_kind.variables in
      let g = behind f past_kind.value V in
      let next = suc (length f.registers) in
      let len : length g.registers ≡ next = omega (arith, length-append f.registers (past_kind.value ∷ [])) in
      let same = expr_kept m instr.kind globals f past_kind.value V past_kind.after e past_kind.done
      (λ changes. unkilled (record { block = block; block_there = here.block_there; instr = instr; here = is; changes = changes })) in
      let here' = in_block_past m function block globals f here instr is past_kind.value V past_kind.after past_kind.done in
      step_on globals past_kind.after f g None (act ∙ past_kind.act)
      (comes (Place f.block next) block past_kind.after g
      (all (Inside f.block next) (Place f.block next) (record { block = block; block_there = here.block_there; within = omega (arith, slice_get_within block.instrs (length f.registers) instr is); begins = refl; ends = refl }))
      (refl, len) here' (same ∙ value))

  comes_on : (k : ℕ) → ComesFrom k → (v : Point) (block : Block) (globals : Globals) (f : Frame) → (¬ Kills m function e v) → (¬ Bars function v) → LeadsAllTo function (λ w. IsInevitableWithin m function e k w) v → AtPoint f v → InBlock m function block globals f → expr_in globals f e ≡ Err trap → Comes globals f
  comes_on k comes Start block globals f unkilled unbarred leads at here value = absurd at
  comes_on k comes (Head b) block globals f unkilled unbarred leads at here value =
      comes (Place b 0) block globals f
      (leads.all (Inside b 0) (Place b 0) (record { block = block; block_there = ap (slice_get function.blocks) (sym at.0) ∙ here.block_there; within = omega arith; begins = refl; ends = refl }))
      (at.0, ap length at.1) here value
  comes_on k comes (Place b n) block globals f unkilled unbarred leads at here value =
      let to : Place b n ≡ Place f.block (length f.registers) = ap (λ x. Place x n) (sym at.0) ∙ ap (Place f.block) (sym at.1) in
      goes_on k block globals f comes here (subst (λ v. ¬ Kills m function e v) to unkilled) (subst (λ v. ¬ Bars function v) to unbarred)
      (subst (λ v. (edge : Edge) (w : Point) → Joins function edge v w → IsInevitableWithin m function e k w) to leads.all) _ refl value

  pub comes_within : (k : ℕ) → ComesFrom k
  comes_within zero v block globals f inevitable at here value = traps_here v block globals f inevitable.1 at here value
  comes_within (suc k) v block globals f inevitable at here value =
      ⊎_elim
      (λ (occurs : Occurs m function e v). traps_here v block globals f occurs at here value)
      (λ (on : (¬ Kills m function e v) × (¬ Bars function v) × LeadsAllTo function (λ w. IsInevitableWithin m function e k w) v). comes_on k (comes_within k) v block globals f on.0 on.1 on.2 at here value)
      inevitable.1
