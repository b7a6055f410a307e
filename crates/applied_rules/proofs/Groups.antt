-- Groups and stores fit where they stand, and are named as they ought to be.
use Rattle.std.proofs.Common.{◌≡◌, ℕ, suc, ◌+◌, ◌<◌, ◌≤◌, Bool, true, false, if◌then◌else◌, List, [], ◌∷◌, ◌++◌, length, Option, Some, refl, sym, ap, ◌∙◌, subst, arith}
use Rattle.std.specs.Prelude.{slice_get, IsSome, is_some, IsSomeAnd, option_and_then}
use Rattle.std.specs.List.{AllZip}
use Rattle.mc_num.specs.Op.{argument_widths, result_width}
use Rattle.mc_num.specs.declared.op.Width.{Width}
use Rattle.ir_types.specs.WellFormed.{Scope, variable_width, given_by, IsNamed}
use Rattle.ir_types.specs.declared.name.Made.TheVariants.{Sum}
use Rattle.ir_types.specs.declared.syntax.Operand.TheVariants.{Reg}
use Rattle.ir_types.specs.declared.syntax.Variable.TheVariants.{Local}
use Rattle.ir_types.specs.declared.syntax.Kind.TheVariants.{Compute}
use Rattle.ir_types.specs.declared.syntax.Instr.{Instr}
use Rattle.point_graph.specs.Graph.{Edge}
use Rattle.expressions.specs.declared.syntax.Arg.{Arg}
use Rattle.expressions.specs.declared.syntax.Arg.TheVariants.{Const as ConstArg, Param as ParamArg, Var as VarArg}
use Rattle.applied.specs.Motion.{Move}
use Rattle.applied.specs.Applied.{Naming, made, StandsAt, arg_loads, arg_operands, store_to, group, groups, groups_along, is_stored, stores}
use Rattle.applied.proofs.Steps.{stands_both}
use Rattle.applied_rules.proofs.Scopes.{given_at, HasAt, FitsAt}
use Rattle.applied_rules.proofs.Operands.{ArgFits, ExprFits}

abbrev pub GoodAt : Scope → List Instr → ℕ → Instr → Type 0
GoodAt s text n instr = FitsAt s text n instr.kind × IsNamed s instr

-- these instructions, which stand at the place n and on, fit and are named
abbrev pub GoodFrom : Scope → List Instr → ℕ → List Instr → Type 0
GoodFrom s text n [] = Unit {0}
GoodFrom s text n (instr ∷ rest) = GoodAt s text n instr × GoodFrom s text (suc n) rest

pub good_append : (s : Scope) (text : List Instr) (n : ℕ) (front rest : List Instr) → GoodFrom s text n front → GoodFrom s text (n + length front) rest → GoodFrom s text n (front ++ rest)
good_append s text n [] rest good more = let e : n + 0 ≡ n = omega arith in subst (λ k. GoodFrom s text k rest) e more
good_append s text n (instr ∷ front) rest good more =
    let e : n + suc (length front) ≡ suc n + length front = omega arith in
    (good.0, good_append s text (suc n) front rest good.1 (subst (λ k. GoodFrom s text k rest) e more))

module _ (s : Scope) (text : List Instr) where
  loads_good : (naming : Naming) (x p i : ℕ) (args : List Arg) (ws : List Width) (n : ℕ) → AllZip (ArgFits s) ws args → GoodFrom s text n (arg_loads naming x p i args)
  loads_good naming x p i [] ws n fit = tt
  loads_good naming x p i (arg ∷ args) [] n fit = absurd fit
  loads_good naming x p i (ConstArg c ∷ args) (w ∷ ws) n fit = loads_good naming x p (suc i) args ws n fit.1
  loads_good naming x p i (ParamArg q ∷ args) (w ∷ ws) n fit = loads_good naming x p (suc i) args ws n fit.1
  loads_good naming x p i (VarArg v ∷ args) (w ∷ ws) n fit =
      let some : IsSome (variable_width s v) = ap is_some fit.0 in
      ((some, (λ e. some, λ e. refl)), loads_good naming x p (suc i) args ws (suc n) fit.1)

  operands_have : (naming : Naming) (x p i : ℕ) (args : List Arg) (ws : List Width) (n end : ℕ) → AllZip (ArgFits s) ws args → StandsAt text n (arg_loads naming x p i args) → n + length (arg_loads naming x p i args) ≤ end → AllZip (HasAt s text end) ws (arg_operands n args)
  operands_have naming x p i [] [] n end fit stands le = tt
  operands_have naming x p i [] (w ∷ ws) n end fit stands le = absurd fit
  operands_have naming x p i (arg ∷ args) [] n end fit stands le = absurd fit
  operands_have naming x p i (ConstArg c ∷ args) (w ∷ ws) n end fit stands le =
      let e : n ≡ n + 0 = omega arith in
      (fit.0, subst (λ k. AllZip (HasAt s text end) ws (arg_operands k args)) e (operands_have naming x p (suc i) args ws n end fit.1 stands le))
  operands_have naming x p i (ParamArg q ∷ args) (w ∷ ws) n end fit stands le =
      let e : n ≡ n + 0 = omega arith in
      (fit.0, subst (λ k. AllZip (HasAt s text end) ws (arg_operands k args)) e (operands_have naming x p (suc i) args ws n end fit.1 stands le))
  operands_have naming x p i (VarArg v ∷ args) (w ∷ ws) n end fit stands le =
      let e : suc n ≡ n + 1 = omega arith in (
        (omega (arith, le), ap (option_and_then (λ i. given_by s i.kind)) stands.0 ∙ fit.0),
        subst (λ k. AllZip (HasAt s text end) ws (arg_operands k args)) e (operands_have naming x p (suc i) args ws (suc n) end fit.1 stands.1 (omega (arith, le))),
      )

  -- a store of a register to a variable of its width
  store_good : (n r temp : ℕ) (w : Width) → r < n → given_at s text r ≡ Some w → variable_width s (Local temp) ≡ Some w → GoodAt s text n (store_to r temp)
  store_good n r temp w lt given width =
      let P : Option Width → Type 0 = λ o. IsSomeAnd o (λ w. HasAt s text n w (Reg r)) in
      (subst P (sym width) (lt, given), (λ e. e, λ e. e))

  group_good : (naming : Naming) (edge : Edge) (n temp : ℕ) (move : Move) → ExprFits s move.expr → variable_width s (Local temp) ≡ Some (result_width move.expr.op) → StandsAt text n (group naming edge n temp move) → GoodFrom s text n (group naming edge n temp move)
  group_good naming edge n temp move fits width stands =
      let e = move.expr in
      let p = naming.edge_number edge in
      let loads = arg_loads naming move.number p 0 e.args in
      let n1 = n + length loads in
      let operation : Instr = record { result = Some (made naming (Sum move.number p)); kind = Compute e.op (arg_operands n e.args) } in
      let both = stands_both text n loads (operation ∷ store_to n1 temp ∷ []) stands in
      good_append s text n loads (operation ∷ store_to n1 temp ∷ []) (loads_good naming move.number p 0 e.args (argument_widths e.op) n fits.1) (
        ((fits.0, operands_have naming move.number p 0 e.args (argument_widths e.op) n n1 fits.1 both.0 (omega arith)), (λ e. refl, λ e. refl)),
        (store_good (suc n1) n1 temp (result_width e.op) (omega arith) (ap (option_and_then (λ i. given_by s i.kind)) both.1.0) width, tt),
      )

  module _ (vars : ℕ) (naming : Naming) (moves : List Move) (fit : (x : ℕ) (move : Move) → slice_get moves x ≡ Some move → ExprFits s move.expr) (temps : (x : ℕ) (move : Move) → slice_get moves x ≡ Some move → variable_width s (Local (vars + x)) ≡ Some (result_width move.expr.op)) where
    abbrev GroupsGood : Edge → List Move → ℕ → Type 0
    GroupsGood edge rest x =
        (n temp : ℕ) → temp ≡ vars + x → StandsAt text n (groups naming n temp edge rest) → GoodFrom s text n (groups naming n temp edge rest)

    abbrev group_if : Bool → Edge → ℕ → ℕ → Move → List Instr
    group_if b edge n temp move = if b then group naming edge n temp move else []

    one_group : (edge : Edge) (move : Move) (rest : List Move) (x : ℕ) → slice_get moves x ≡ Some move → GroupsGood edge rest (suc x) → (b : Bool) (n temp : ℕ) → temp ≡ vars + x → StandsAt text n (group_if b edge n temp move ++ groups naming (n + length (group_if b edge n temp move)) (suc temp) edge rest) → GoodFrom s text n (group_if b edge n temp move ++ groups naming (n + length (group_if b edge n temp move)) (suc temp) edge rest)
    one_group edge move rest x there good true n temp at stands =
        let here = group naming edge n temp move in
        let behind = groups naming (n + length here) (suc temp) edge rest in
        let both = stands_both text n here behind stands in
        let width = ap (λ k. variable_width s (Local k)) at ∙ temps x move there in
        good_append s text n here behind (group_good naming edge n temp move (fit x move there) width both.0)
        (good (n + length here) (suc temp) (omega (arith, at)) both.1)
    one_group edge move rest x there good false n temp at stands =
        let e : n + 0 ≡ n = omega arith in
        let behind = groups naming (n + 0) (suc temp) edge rest in
        subst (λ k. GoodFrom s text k behind) e (good (n + 0) (suc temp) (omega (arith, at)) (subst (λ k. StandsAt text k behind) (sym e) stands))

    groups_from : (edge : Edge) (rest : List Move) (x : ℕ) → ((i : ℕ) → slice_get rest i ≡ slice_get moves (x + i)) → GroupsGood edge rest x
    groups_from edge [] x suffix n temp at stands = tt
    groups_from edge (move ∷ rest) x suffix n temp at stands =
        let e : x + 0 ≡ x = omega arith in
        one_group edge move rest x (sym (suffix 0 ∙ ap (slice_get moves) e))
        (groups_from edge rest (suc x) (λ i. let e' : x + suc i ≡ suc x + i = omega arith in suffix (suc i) ∙ ap (slice_get moves) e'))
        (move.inserted edge) n temp at stands

    pub groups_good : (edge : Edge) (n : ℕ) → StandsAt text n (groups naming n vars edge moves) → GoodFrom s text n (groups naming n vars edge moves)
    groups_good edge n stands =
        groups_from edge moves 0 (λ i. let e : i ≡ 0 + i = omega arith in ap (slice_get moves) e) n vars (omega arith) stands

    pub along_good : (edges : List Edge) (n : ℕ) → StandsAt text n (groups_along naming n vars edges moves) → GoodFrom s text n (groups_along naming n vars edges moves)
    along_good [] n stands = tt
    along_good (edge ∷ edges) n stands =
        let here = groups naming n vars edge moves in
        let behind = groups_along naming (n + length here) vars edges moves in
        let both = stands_both text n here behind stands in
        good_append s text n here behind (groups_good edge n both.0) (along_good edges (n + length here) both.1)

    module _ (b k r : ℕ) (given : (x : ℕ) (move : Move) → slice_get moves x ≡ Some move → is_stored move b k ≡ true → given_at s text r ≡ Some (result_width move.expr.op)) where
      abbrev store_if : Bool → ℕ → List Instr
      store_if q temp = if q then store_to r temp ∷ [] else []

      one_store : (move : Move) (rest : List Move) (x : ℕ) → slice_get moves x ≡ Some move → ((n : ℕ) → r < n → GoodFrom s text n (stores (vars + suc x) r b k rest)) → (q : Bool) → is_stored move b k ≡ q → (n : ℕ) → r < n → GoodFrom s text n (store_if q (vars + x) ++ stores (suc (vars + x)) r b k rest)
      one_store move rest x there good true is n lt =
          let e : vars + suc x ≡ suc (vars + x) = omega arith in
          (store_good n r (vars + x) (result_width move.expr.op) lt (given x move there is) (temps x move there), subst (λ t. GoodFrom s text (suc n) (stores t r b k rest)) e (good (suc n) (omega (arith, lt))))
      one_store move rest x there good false is n lt =
          let e : vars + suc x ≡ suc (vars + x) = omega arith in subst (λ t. GoodFrom s text n (stores t r b k rest)) e (good n lt)

      stores_from : (rest : List Move) (x : ℕ) → ((i : ℕ) → slice_get rest i ≡ slice_get moves (x + i)) → (n : ℕ) → r < n → GoodFrom s text n (stores (vars + x) r b k rest)
      stores_from [] x suffix n lt = tt
      stores_from (move ∷ rest) x suffix n lt =
          let e : x + 0 ≡ x = omega arith in
          one_store move rest x (sym (suffix 0 ∙ ap (slice_get moves) e))
          (stores_from rest (suc x) (λ i. let e' : x + suc i ≡ suc x + i = omega arith in suffix (suc i) ∙ ap (slice_get moves) e'))
          (is_stored move b k) refl n lt

      pub stores_good : (n : ℕ) → r < n → GoodFrom s text n (stores vars r b k moves)
      stores_good n lt =
          let e : vars + 0 ≡ vars = omega arith in
          subst (λ t. GoodFrom s text n (stores t r b k moves)) e
          (stores_from moves 0 (λ i. let e : i ≡ 0 + i = omega arith in ap (slice_get moves) e) n lt)
