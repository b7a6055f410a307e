-- The operands of an expression that occurs have the widths of its operation.
use Rattle.std.proofs.Common.{◌≡◌, ℕ, ◌<◌, ◌^◌, List, [], ◌∷◌, Some, sym, ap, ◌∙◌, subst}
use Rattle.std.specs.Prelude.{slice_get, option_and_then}
use Rattle.std.specs.List.{AllZip}
use Rattle.mc_num.specs.Op.{bits, argument_widths, IsWellFormedOp}
use Rattle.mc_num.specs.declared.op.Width.{Width}
use Rattle.ir_types.specs.Program.{Program}
use Rattle.ir_types.specs.WellFormed.{Scope, scope, variable_width, given_by, IsBlockIn, IsFunctionIn, IsWellFormed}
use Rattle.ir_types.specs.declared.syntax.Operand.{Operand}
use Rattle.ir_types.specs.declared.syntax.Operand.TheVariants.{Const, Param, Reg}
use Rattle.ir_types.specs.declared.syntax.Instr.{Instr}
use Rattle.ir_types.specs.declared.syntax.Block.{Block}
use Rattle.ir_types.specs.declared.syntax.Function.{Function}
use Rattle.point_graph.specs.Graph.{Point, Start, Head, Place}
use Rattle.expressions.specs.declared.syntax.Arg.{Arg}
use Rattle.expressions.specs.declared.syntax.Arg.TheVariants.{Const as ConstArg, Param as ParamArg, Var as VarArg}
use Rattle.expressions.specs.declared.syntax.Expr.{Expr}
use Rattle.applied.specs.Motion.{IsArg, Occurs}
use Rattle.applied.proofs.Fitting.{all_at}
use Rattle.applied_rules.proofs.Scopes.{HasAt, FitsAt, at_place, Extends, width_more}

abbrev pub ArgFits : Scope → Width → Arg → Type 0
ArgFits s w (ConstArg value) = value < 2 ^ bits w
ArgFits s w (ParamArg p) = slice_get s.own.params p ≡ Some w
ArgFits s w (VarArg x) = variable_width s x ≡ Some w

-- an expression of an operation that exists, with operands of its widths
abbrev pub ExprFits : Scope → Expr → Type 0
ExprFits s e = IsWellFormedOp e.op × AllZip (ArgFits s) (argument_widths e.op) e.args

pub block_in : (m : Program) → IsWellFormed m → (i : ℕ) (function : Function) → slice_get m.functions i ≡ Some function → (b : ℕ) (block : Block) → slice_get function.blocks b ≡ Some block → IsBlockIn (scope m function) block
block_in m rules i function there b block e =
    all_at (IsBlockIn (scope m function)) function.blocks b block (all_at (IsFunctionIn m) m.functions i function rules.functions there).blocks e

module _ (m : Program) (s : Scope) (instrs : List Instr) (k : ℕ) where
  arg_fits : (w : Width) (operand : Operand) (arg : Arg) → HasAt s instrs k w operand → IsArg m instrs k operand arg → ArgFits s w arg
  arg_fits w (Const value) (ConstArg c) has is = subst (λ v. v < 2 ^ bits w) is has
  arg_fits w (Param p) (ParamArg q) has is = ap (slice_get s.own.params) (sym is) ∙ has
  arg_fits w (Reg r) (VarArg x) has is =
      sym (ap (given_by s) is.load) ∙ sym (ap (option_and_then (λ i. given_by s i.kind)) is.there) ∙ has.1
  arg_fits w (Const value) (ParamArg q) has is = absurd is
  arg_fits w (Const value) (VarArg x) has is = absurd is
  arg_fits w (Param p) (ConstArg c) has is = absurd is
  arg_fits w (Param p) (VarArg x) has is = absurd is
  arg_fits w (Reg r) (ConstArg c) has is = absurd is
  arg_fits w (Reg r) (ParamArg q) has is = absurd is

  args_fit : (ws : List Width) (operands : List Operand) (args : List Arg) → AllZip (HasAt s instrs k) ws operands → AllZip (IsArg m instrs k) operands args → AllZip (ArgFits s) ws args
  args_fit [] [] [] all are = tt
  args_fit (w ∷ ws) (operand ∷ operands) (arg ∷ args) all are = (arg_fits w operand arg all.0 are.0, args_fit ws operands args all.1 are.1)
  args_fit [] (operand ∷ operands) args all are = absurd all
  args_fit (w ∷ ws) [] args all are = absurd all
  args_fit [] [] (arg ∷ args) all are = absurd are
  args_fit (w ∷ ws) (operand ∷ operands) [] all are = absurd are

pub occurs_fits : (m : Program) → IsWellFormed m → (i : ℕ) (function : Function) → slice_get m.functions i ≡ Some function → (e : Expr) (v : Point) → Occurs m function e v → ExprFits (scope m function) e
occurs_fits m rules i function there e Start occurs = absurd occurs
occurs_fits m rules i function there e (Head b) occurs = absurd occurs
occurs_fits m rules i function there e (Place b k) occurs =
    let s = scope m function in
    let instrs = occurs.block.instrs in
    let fits = (block_in m rules i function there b occurs.block occurs.block_there).fits k occurs.instr occurs.here in
    let at = subst (FitsAt s instrs k) occurs.computes (at_place s instrs k occurs.instr.kind fits) in
    (at.0, args_fit m s instrs k (argument_widths e.op) occurs.operands e.args at.1 occurs.are_args)

-- the same where the function has more variables
module _ (s s' : Scope) (extends : Extends s s') where
  arg_more : (w : Width) (arg : Arg) → ArgFits s w arg → ArgFits s' w arg
  arg_more w (ConstArg c) fits = fits
  arg_more w (ParamArg p) fits = ap (λ own. slice_get own.params p) extends.own ∙ fits
  arg_more w (VarArg x) fits = width_more s s' extends x w fits

  args_more : (ws : List Width) (args : List Arg) → AllZip (ArgFits s) ws args → AllZip (ArgFits s') ws args
  args_more [] [] all = tt
  args_more (w ∷ ws) (arg ∷ args) all = (arg_more w arg all.0, args_more ws args all.1)
  args_more [] (arg ∷ args) all = absurd all
  args_more (w ∷ ws) [] all = absurd all

  pub expr_more : (e : Expr) → ExprFits s e → ExprFits s' e
  expr_more e fits = (fits.0, args_more (argument_widths e.op) e.args fits.1)
