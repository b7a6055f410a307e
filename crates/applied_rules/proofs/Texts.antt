-- The instructions of a new block fit and are named.
use Rattle.std.proofs.Common.{◌≡◌, ℕ, zero, suc, ◌+◌, ◌<◌, Bool, true, false, List, [], ◌∷◌, ◌++◌, length, Option, Some, None, refl, sym, ap, ◌∙◌, subst, arith, ⊎_elim}
use Rattle.std.specs.Prelude.{slice_get, is_some, option_and_then, if◌then◌else◌}
use Rattle.std.proofs.lemmas.Bool.{cases_lt}
use Rattle.mc_num.specs.Op.{result_width}
use Rattle.mc_num.specs.declared.op.Width.{Width}
use Rattle.ir_types.specs.Program.{Program}
use Rattle.ir_types.specs.WellFormed.{Scope, scope, variable_width, given_by, IsNamed, IsWellFormed}
use Rattle.ir_types.specs.declared.name.Name.{Name}
use Rattle.ir_types.specs.declared.syntax.Variable.TheVariants.{Local}
use Rattle.ir_types.specs.declared.syntax.Kind.TheVariants.{Load, Compute}
use Rattle.ir_types.specs.declared.syntax.Instr.{Instr}
use Rattle.ir_types.specs.declared.syntax.Block.{Block}
use Rattle.ir_types.specs.declared.syntax.Function.{Function}
use Rattle.point_graph.specs.Graph.{Point, Place, Inside}
use Rattle.expressions.specs.declared.syntax.Expr.{Expr}
use Rattle.applied.specs.Motion.{OccursIn, Move, IsMove}
use Rattle.applied.specs.Applied.{Naming, edges_before, copied, is_stored}
use Rattle.applied.specs.Built.{text_from, start_of, number_of}
use Rattle.applied.proofs.Fitting.{all_at}
use Rattle.applied.proofs.Pairs.{Copied, AsItWas, IsDeleted, copied_is}
use Rattle.applied.proofs.Building.{TextStands, new_text_stands, groups_at, copy_at}
use Rattle.applied_rules.proofs.Scopes.{given_at, FitsAt, at_place, Extends, same_given, fits_more}
use Rattle.applied_rules.proofs.Operands.{ExprFits, block_in, occurs_fits, expr_more}
use Rattle.applied_rules.proofs.Groups.{GoodAt, GoodFrom, good_append, along_good, stores_good}

abbrev load_of : ℕ → Option Name → Instr
load_of temp result = record { result = result; kind = Load (Local temp) }

-- the copy has the result's name
pub copied_result : (temp : ℕ) (number : ℕ → ℕ) (v : Point) (instr : Instr) (moves : List Move) → (copied temp number v instr moves).result ≡ instr.result
copied_result temp number v instr [] = refl
copied_result temp number v instr (move ∷ moves) = by (move.deleted v) (copied_result (suc temp) number v instr moves)
  where
    by : (q : Bool) → (copied (suc temp) number v instr moves).result ≡ instr.result → (if q then load_of temp instr.result else copied (suc temp) number v instr moves).result ≡ instr.result
    by true rest = refl
    by false rest = rest

pub stored_kept : (kept inserted live : Bool) → (if kept then (if inserted then false else live) else false) ≡ true → kept ≡ true
stored_kept true inserted live e = refl
stored_kept false inserted live e = absurd cc

module _ (m : Program) (rules : IsWellFormed m) (i : ℕ) (function : Function) (there : slice_get m.functions i ≡ Some function) (naming : Naming) (moves : List Move) (are : (x : ℕ) (move : Move) → slice_get moves x ≡ Some move → IsMove m function move) (s' : Scope) (extends : Extends (scope m function) s') (temps : (x : ℕ) (move : Move) → slice_get moves x ≡ Some move → variable_width s' (Local (length function.vars + x)) ≡ Some (result_width move.expr.op)) where
  abbrev s : Scope
  s = scope m function

  abbrev vars : ℕ
  vars = length function.vars

  pub moves_fit : (x : ℕ) (move : Move) → slice_get moves x ≡ Some move → ExprFits s' move.expr
  moves_fit x move e =
      let is = are x move e in expr_more s s' extends move.expr (occurs_fits m rules i function there move.expr is.found_at is.found)

  module _ (b : ℕ) (block : Block) (block_there : slice_get function.blocks b ≡ Some block) where
    abbrev pub new_text : List Instr
    new_text = text_from naming moves vars b block 0 block.instrs

    abbrev start : ℕ → ℕ
    start = start_of naming moves vars b block

    abbrev pub number : ℕ → ℕ
    number = number_of naming moves vars b block

    abbrev stands : TextStands naming moves vars b block new_text 0
    stands = new_text_stands naming moves vars b block

    old_at : (k : ℕ) (instr : Instr) → slice_get block.instrs k ≡ Some instr → FitsAt s block.instrs k instr.kind
    old_at k instr e = at_place s block.instrs k instr.kind ((block_in m rules i function there b block block_there).fits k instr e)

    abbrev copy : ℕ → Instr → Instr
    copy k instr = copied vars number (Place b k) instr moves

    copy_there : (k : ℕ) (instr : Instr) → slice_get block.instrs k ≡ Some instr → slice_get new_text (number k) ≡ Some (copy k instr)
    copy_there k instr e = (stands.copies_stand k instr (omega arith) e).0

    -- an occurrence is the instruction
    occurs_kind : (k : ℕ) (instr : Instr) → slice_get block.instrs k ≡ Some instr → (e : Expr) (occurs : OccursIn m function e b k) → instr.kind ≡ Compute e.op occurs.operands
    occurs_kind k instr is e occurs =
        let same : block ≡ occurs.block = let both : Some block ≡ Some occurs.block = sym block_there ∙ occurs.block_there in cc in
        let instr_same : instr ≡ occurs.instr = let both : Some instr ≡ Some occurs.instr = sym is ∙ ap (λ x. slice_get x.instrs k) same ∙ occurs.here in cc in
        ap (λ i. i.kind) instr_same ∙ occurs.computes

    occurs_given : (k : ℕ) (instr : Instr) → slice_get block.instrs k ≡ Some instr → (e : Expr) (occurs : OccursIn m function e b k) → given_by s instr.kind ≡ Some (result_width e.op)
    occurs_given k instr is e occurs = ap (given_by s) (occurs_kind k instr is e occurs)

    given_by_copy : (k : ℕ) (instr : Instr) → slice_get block.instrs k ≡ Some instr → Copied (Place b k) number instr moves vars (copy k instr) → given_by s' (copy k instr).kind ≡ given_by s instr.kind
    given_by_copy k instr is (AsItWas same) = ap (given_by s') same ∙ same_given s s' extends number block.instrs k instr.kind (old_at k instr is)
    given_by_copy k instr is (IsDeleted d) =
        let occurs = (((are d.index d.move d.there).deleted_is (Place b k)).0 d.deleted).1 in
        ap (given_by s') d.load ∙ temps d.index d.move d.there ∙ sym (occurs_given k instr is d.move.expr occurs)

    copy_given : (k : ℕ) (instr : Instr) → slice_get block.instrs k ≡ Some instr → given_by s' (copy k instr).kind ≡ given_by s instr.kind
    copy_given k instr is = given_by_copy k instr is (copied_is (Place b k) number instr moves vars)

    given_found : (r : ℕ) (w : Width) (found : Option Instr) → slice_get block.instrs r ≡ found → option_and_then (λ i. given_by s i.kind) found ≡ Some w → given_at s' new_text (number r) ≡ Some w
    given_found r w None is e = absurd cc
    given_found r w (Some instr) is e = ap (option_and_then (λ i. given_by s' i.kind)) (copy_there r instr is) ∙ copy_given r instr is ∙ e

    pub given : (r : ℕ) (w : Width) → given_at s block.instrs r ≡ Some w → given_at s' new_text (number r) ≡ Some w
    given r w e = given_found r w _ refl e

    pub below : (k r : ℕ) → r < k → number r < number k
    below zero r lt = absurd (omega (arith, lt))
    below (suc k) r lt =
        let next : number k < number (suc k) = omega arith in
        ⊎_elim
        (λ before. omega (arith, below k r before, next))
        (λ at. let is : r ≡ k = omega (arith, lt, at) in omega (arith, ap number is, next))
        (cases_lt r k)

    fits_copy : (k : ℕ) (instr : Instr) → slice_get block.instrs k ≡ Some instr → Copied (Place b k) number instr moves vars (copy k instr) → FitsAt s' new_text (number k) (copy k instr).kind
    fits_copy k instr is (AsItWas same) =
        subst (FitsAt s' new_text (number k)) (sym same)
        (fits_more s s' extends block.instrs new_text number given k (number k) (below k) instr.kind (old_at k instr is))
    fits_copy k instr is (IsDeleted d) = subst (FitsAt s' new_text (number k)) (sym d.load) (ap is_some (temps d.index d.move d.there))

    copy_good : (k : ℕ) (instr : Instr) → slice_get block.instrs k ≡ Some instr → GoodAt s' new_text (number k) (copy k instr)
    copy_good k instr is =
        let named : IsNamed s instr = all_at (IsNamed s) block.instrs k instr (block_in m rules i function there b block block_there).named is in
        let result = copied_result vars number (Place b k) instr moves in
        let same = copy_given k instr is in (
          fits_copy k instr is (copied_is (Place b k) number instr moves vars),
          ((λ e. ap is_some same ∙ named.0 (ap is_some (sym result) ∙ e)), (λ e. ap is_some result ∙ named.1 (ap is_some (sym same) ∙ e))),
        )

    stored_given : (k : ℕ) (instr : Instr) → slice_get block.instrs k ≡ Some instr → (x : ℕ) (move : Move) → slice_get moves x ≡ Some move → is_stored move b k ≡ true → given_at s' new_text (number k) ≡ Some (result_width move.expr.op)
    stored_given k instr is x move e stored =
        let kept = stored_kept (move.kept (Place b k)) (move.inserted (Inside b (suc k))) (move.live (Place b (suc k))) stored in
        let occurs = ((are x move e).kept_is (Place b k) kept).1 in
        ap (option_and_then (λ i. given_by s' i.kind)) (copy_there k instr is) ∙ copy_given k instr is ∙ occurs_given k instr is move.expr occurs

    text_good : (instrs : List Instr) (k : ℕ) → ((j : ℕ) → slice_get instrs j ≡ slice_get block.instrs (k + j)) → k + length instrs ≡ length block.instrs → GoodFrom s' new_text (start k) (text_from naming moves vars b block k instrs)
    text_good [] k suffix count =
        along_good s' new_text vars naming moves moves_fit temps (edges_before b k block) (start k) (stands.groups_stand k (omega arith) (omega (arith, count)))
    text_good (instr ∷ instrs) k suffix count =
        let e : k + 0 ≡ k = omega arith in
        let is : slice_get block.instrs k ≡ Some instr = sym (suffix 0 ∙ ap (slice_get block.instrs) e) in
        let rest = text_from naming moves vars b block (suc k) instrs in
        let groups = groups_at naming moves vars b block k in
        let copies = copy_at naming moves vars b block k instr in
        let next : start (suc k) ≡ number k + length copies = omega arith in
        let further = text_good instrs (suc k) (λ j. let e : k + suc j ≡ suc k + j = omega arith in suffix (suc j) ∙ ap (slice_get block.instrs) e) (omega (arith, count)) in
        good_append s' new_text (start k) groups (copies ++ rest)
        (along_good s' new_text vars naming moves moves_fit temps (edges_before b k block) (start k) (stands.groups_stand k (omega arith) (omega (arith, count))))
        (good_append s' new_text (number k) copies rest
        (copy_good k instr is, stores_good s' new_text vars naming moves moves_fit temps b k (number k) (stored_given k instr is) (suc (number k)) (omega arith))
        (subst (λ n. GoodFrom s' new_text n rest) next further))

    pub new_text_good : GoodFrom s' new_text 0 new_text
    new_text_good = text_good block.instrs 0 (λ j. let e : j ≡ 0 + j = omega arith in ap (slice_get block.instrs) e) (omega arith)

    pub new_length : length new_text ≡ number (length block.instrs)
    new_length = stands.ends
