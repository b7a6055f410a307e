-- At most one expression that can trap is inevitable at a point.
use Rattle.std.proofs.Common.{◌≡◌, ℕ, zero, suc, List, [], ◌∷◌, Some, true, refl, sym, ap, ◌∙◌, subst, inl, inr, ⊎_elim}
use Rattle.std.specs.Prelude.{◌⊎◌, slice_get}
use Rattle.std.specs.List.{AllZip}
use Rattle.mc_num.specs.Value.{traps_at}
use Rattle.mc_num.specs.declared.op.Op.{Op}
use Rattle.ir_types.specs.Program.{Program}
use Rattle.ir_types.specs.declared.syntax.Operand.{Operand}
use Rattle.ir_types.specs.declared.syntax.Operand.TheVariants.{Const, Param, Reg}
use Rattle.ir_types.specs.declared.syntax.Variable.{Variable}
use Rattle.ir_types.specs.declared.syntax.Kind.TheVariants.{Load, Compute}
use Rattle.ir_types.specs.declared.syntax.Instr.{Instr}
use Rattle.ir_types.specs.declared.syntax.Function.{Function}
use Rattle.point_graph.specs.Graph.{Point, Start, Head, Place}
use Rattle.expressions.specs.declared.syntax.Arg.{Arg}
use Rattle.expressions.specs.declared.syntax.Arg.TheVariants.{Const as ConstArg, Param as ParamArg, Var as VarArg}
use Rattle.expressions.specs.declared.syntax.Expr.{Expr}
use Rattle.expressions.specs.Expressions.{constant_operand, constant_arg, expr_traps}
use Rattle.applied.specs.Motion.{IsLoaded, IsArg, Occurs, Kills, KindBars, PlaceBars, Bars, LeadsAllTo, IsInevitableWithin, IsInevitable}

one_loaded : (m : Program) (instrs : List Instr) (k r : ℕ) (x y : Variable) → IsLoaded m instrs k r x → IsLoaded m instrs k r y → x ≡ y
one_loaded m instrs k r x y is is' =
    let same : is.instr ≡ is'.instr = let both : Some is.instr ≡ Some is'.instr = sym is.there ∙ is'.there in cc in
    let loads : Load x ≡ Load y = sym is.load ∙ ap (λ i. i.kind) same ∙ is'.load in
    cc

-- an operand reads one argument
one_arg : (m : Program) (instrs : List Instr) (k : ℕ) (operand : Operand) (a b : Arg) → IsArg m instrs k operand a → IsArg m instrs k operand b → a ≡ b
one_arg m instrs k (Const n) (ConstArg c) (ConstArg d) is is' = ap (λ x. ConstArg x) (sym is ∙ is')
one_arg m instrs k (Param i) (ParamArg j) (ParamArg l) is is' = ap (λ x. ParamArg x) (sym is ∙ is')
one_arg m instrs k (Reg r) (VarArg x) (VarArg y) is is' = ap (λ z. VarArg z) (one_loaded m instrs k r x y is is')
one_arg m instrs k (Const n) (ConstArg c) (ParamArg j) is is' = absurd is'
one_arg m instrs k (Const n) (ConstArg c) (VarArg x) is is' = absurd is'
one_arg m instrs k (Param i) (ParamArg j) (ConstArg c) is is' = absurd is'
one_arg m instrs k (Param i) (ParamArg j) (VarArg x) is is' = absurd is'
one_arg m instrs k (Reg r) (VarArg x) (ConstArg c) is is' = absurd is'
one_arg m instrs k (Reg r) (VarArg x) (ParamArg j) is is' = absurd is'
one_arg m instrs k (Const n) (ParamArg j) b is is' = absurd is
one_arg m instrs k (Const n) (VarArg x) b is is' = absurd is
one_arg m instrs k (Param i) (ConstArg c) b is is' = absurd is
one_arg m instrs k (Param i) (VarArg x) b is is' = absurd is
one_arg m instrs k (Reg r) (ConstArg c) b is is' = absurd is
one_arg m instrs k (Reg r) (ParamArg j) b is is' = absurd is

one_args : (m : Program) (instrs : List Instr) (k : ℕ) (operands : List Operand) (args others : List Arg) → AllZip (IsArg m instrs k) operands args → AllZip (IsArg m instrs k) operands others → args ≡ others
one_args m instrs k [] [] [] are are' = refl
one_args m instrs k (operand ∷ operands) (a ∷ args) (b ∷ others) are are' =
    ap (λ x. x ∷ args) (one_arg m instrs k operand a b are.0 are'.0) ∙ ap (λ l. b ∷ l) (one_args m instrs k operands args others are.1 are'.1)
one_args m instrs k [] (a ∷ args) others are are' = absurd are
one_args m instrs k [] [] (b ∷ others) are are' = absurd are'
one_args m instrs k (operand ∷ operands) [] others are are' = absurd are
one_args m instrs k (operand ∷ operands) (a ∷ args) [] are are' = absurd are'

same_constant : (m : Program) (instrs : List Instr) (k : ℕ) (operand : Operand) (a : Arg) → IsArg m instrs k operand a → constant_operand (Some operand) ≡ constant_arg (Some a)
same_constant m instrs k (Const n) (ConstArg c) is = ap (λ x. Some x) is
same_constant m instrs k (Param i) (ParamArg j) is = refl
same_constant m instrs k (Reg r) (VarArg x) is = refl
same_constant m instrs k (Const n) (ParamArg j) is = absurd is
same_constant m instrs k (Const n) (VarArg x) is = absurd is
same_constant m instrs k (Param i) (ConstArg c) is = absurd is
same_constant m instrs k (Param i) (VarArg x) is = absurd is
same_constant m instrs k (Reg r) (ConstArg c) is = absurd is
same_constant m instrs k (Reg r) (ParamArg j) is = absurd is

-- the divisor is the same constant in the operands and in the expression
same_divisor : (m : Program) (instrs : List Instr) (k i : ℕ) (operands : List Operand) (args : List Arg) → AllZip (IsArg m instrs k) operands args → constant_operand (slice_get operands i) ≡ constant_arg (slice_get args i)
same_divisor m instrs k i [] [] are = refl
same_divisor m instrs k zero (operand ∷ operands) (arg ∷ args) are = same_constant m instrs k operand arg are.0
same_divisor m instrs k (suc i) (operand ∷ operands) (arg ∷ args) are = same_divisor m instrs k i operands args are.1
same_divisor m instrs k i [] (arg ∷ args) are = absurd are
same_divisor m instrs k i (operand ∷ operands) [] are = absurd are

abbrev expr_of : Op → List Arg → Expr
expr_of op args = record { op = op; args = args }

-- a place is an occurrence of one expression
pub one_occurs : (m : Program) (function : Function) (e e' : Expr) (v : Point) → Occurs m function e v → Occurs m function e' v → e ≡ e'
one_occurs m function e e' Start o o' = absurd o
one_occurs m function e e' (Head b) o o' = absurd o
one_occurs m function e e' (Place b k) o o' =
    let same : o.block ≡ o'.block = let both : Some o.block ≡ Some o'.block = sym o.block_there ∙ o'.block_there in cc in
    let instr : o.instr ≡ o'.instr = let both : Some o.instr ≡ Some o'.instr = sym o.here ∙ ap (λ x. slice_get x.instrs k) same ∙ o'.here in cc in
    let both : Compute e.op o.operands ≡ Compute e'.op o'.operands = sym o.computes ∙ ap (λ i. i.kind) instr ∙ o'.computes in
    let op : e.op ≡ e'.op = cc in
    let operands : o.operands ≡ o'.operands = cc in
    let are : AllZip (IsArg m o'.block.instrs k) o'.operands e.args = subst (λ x. AllZip (IsArg m o'.block.instrs k) x e.args) operands (subst (λ x. AllZip (IsArg m x.instrs k) o.operands e.args) same o.are_args) in
    ap (λ x. expr_of x e.args) op ∙ ap (expr_of e'.op) (one_args m o'.block.instrs k o'.operands e.args e'.args are o'.are_args)

-- an occurrence of an expression that can trap bars the others
pub occurrence_bars : (m : Program) (function : Function) (e : Expr) (v : Point) → Occurs m function e v → expr_traps e ≡ true → Bars function v
occurrence_bars m function e Start o traps = absurd o
occurrence_bars m function e (Head b) o traps = absurd o
occurrence_bars m function e (Place b k) o traps =
    let bars : KindBars (Compute e.op o.operands) = ap (traps_at e.op) (same_divisor m o.block.instrs k 1 o.operands e.args o.are_args) ∙ traps in
    record {
      block = o.block;
      block_there = o.block_there;
      bars = subst (λ found. PlaceBars found o.block.term) (sym o.here) (subst KindBars (sym o.computes) bars);
    }

occurs_or_free : (m : Program) (function : Function) (e : Expr) (k : ℕ) (v : Point) → IsInevitableWithin m function e k v → Occurs m function e v ⊎ (¬ Bars function v)
occurs_or_free m function e zero v within = inl within.1
occurs_or_free m function e (suc k) v within =
    ⊎_elim (λ (o : Occurs m function e v). inl o)
    (λ (on : (¬ Kills m function e v) × (¬ Bars function v) × LeadsAllTo function (λ w. IsInevitableWithin m function e k w) v). inr on.1)
    within.1

-- the one occurs here
here_one : (m : Program) (function : Function) (e e' : Expr) (k : ℕ) (v : Point) → Occurs m function e v → expr_traps e ≡ true → IsInevitableWithin m function e' k v → e ≡ e'
here_one m function e e' k v o traps within =
    ⊎_elim (λ (o' : Occurs m function e' v). one_occurs m function e e' v o o')
    (λ (free : ¬ Bars function v). absurd (free (occurrence_bars m function e v o traps)))
    (occurs_or_free m function e' k v within)

within_one : (m : Program) (function : Function) (e e' : Expr) (k k' : ℕ) (v : Point) → expr_traps e ≡ true → expr_traps e' ≡ true → IsInevitableWithin m function e k v → IsInevitableWithin m function e' k' v → e ≡ e'
within_one m function e e' zero k' v traps traps' within within' = here_one m function e e' k' v within.1 traps within'
within_one m function e e' (suc k) zero v traps traps' within within' = sym (here_one m function e' e (suc k) v within'.1 traps' within)
within_one m function e e' (suc k) (suc k') v traps traps' within within' =
    ⊎_elim (λ (o : Occurs m function e v). here_one m function e e' (suc k') v o traps within')
    (λ (on : (¬ Kills m function e v) × (¬ Bars function v) × LeadsAllTo function (λ w. IsInevitableWithin m function e k w) v). ⊎_elim
    (λ (o : Occurs m function e' v). sym (here_one m function e' e (suc k) v o traps' within))
    (λ (on' : (¬ Kills m function e' v) × (¬ Bars function v) × LeadsAllTo function (λ w. IsInevitableWithin m function e' k' w) v).
    within_one m function e e' k k' on.2.to traps traps' (on.2.all on.2.edge on.2.to on.2.leaves) (on'.2.all on.2.edge on.2.to on.2.leaves))
    within'.1)
    within.1

pub one_trap : (m : Program) (function : Function) (e e' : Expr) (v : Point) → expr_traps e ≡ true → expr_traps e' ≡ true → IsInevitable m function e v → IsInevitable m function e' v → e ≡ e'
one_trap m function e e' v traps traps' inevitable inevitable' = within_one m function e e' inevitable.0 inevitable'.0 v traps traps' inevitable.1 inevitable'.1
