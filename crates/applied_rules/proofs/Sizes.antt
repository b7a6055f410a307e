-- A function does not become too large.
use Rattle.std.proofs.Common.{◌≡◌, ◌≢◌, ◌⊎◌, inl, inr, ⊎_elim, ℕ, zero, suc, ◌+◌, ◌*◌, ◌<◌, ◌≤◌, Bool, true, false, if◌then◌else◌, List, [], ◌∷◌, ◌++◌, length, map, Some, refl, sym, ap, ◌∙◌, arith, length-append}
use Rattle.std.specs.Prelude.{slice_get, slice_index_or, sum_by}
use Rattle.std.specs.List.{AllZip}
use Rattle.std.proofs.lemmas.List.Sums.{sum_by-cons, sum_by-append}
use Rattle.ir_types.specs.Limits.{slot_count}
use Rattle.ir_types.specs.Program.{Program}
use Rattle.ir_types.specs.WellFormed.{targets, size, item_limit, IsFunctionIn, IsWellFormed}
use Rattle.ir_types.specs.declared.name.Made.TheVariants.{Sum}
use Rattle.ir_types.specs.declared.syntax.Kind.TheVariants.{Compute}
use Rattle.ir_types.specs.declared.syntax.Instr.{Instr}
use Rattle.ir_types.specs.declared.syntax.Terminator.{Terminator}
use Rattle.ir_types.specs.declared.syntax.Terminator.TheVariants.{Return, Jump, Branch, Switch, Unreachable}
use Rattle.ir_types.specs.declared.syntax.Block.{Block}
use Rattle.ir_types.specs.declared.syntax.Function.{Function}
use Rattle.point_graph.specs.Graph.{Place, Edge, Inside, Slot}
use Rattle.expressions.specs.declared.syntax.Arg.{Arg}
use Rattle.expressions.specs.declared.syntax.Arg.TheVariants.{Const as ConstArg, Param as ParamArg, Var as VarArg}
use Rattle.applied.specs.Motion.{Move, IsMove}
use Rattle.applied.specs.Applied.{Naming, Plan, made, temporaries, arg_loads, arg_operands, copied, group, groups, groups_along, edges_before, store_to, is_stored, stores, has_groups, Layout, is_single, split_block, AreMoves}
use Rattle.applied.specs.Built.{start_of, number_of, text_from, new_block, split_one, splits_from, split_blocks, new_blocks, layout_of, applied_function}
use Rattle.applied.proofs.Fitting.{all_at, function_fits}
use Rattle.applied.proofs.Chains.{expr_fits}
use Rattle.applied.proofs.OneTrap.{one_occurs}
use Rattle.applied_rules.specs.Plans.{IsListed, IsSmallPlan}
use Rattle.applied_rules.proofs.Apart.{Each, EachPair, Apart, each_by, from_pairs}
use Rattle.applied_rules.proofs.Texts.{stored_kept}
use Rattle.applied_rules.proofs.Regions.{each_both}
use Rattle.applied_rules.proofs.EdgeLists.{text_edges, split_edges, edges_from, edges_from_apart}
use Rattle.applied.proofs.Applying.{length_temporaries}
use Rattle.applied_rules.proofs.Rules.{few_widths, each_at}

-- ---- how often something is inserted

-- how many of the expressions are inserted on the edge
abbrev inserted_on : Edge → List Move → ℕ
inserted_on edge [] = 0
inserted_on edge (move ∷ moves) = (if move.inserted edge then 1 else 0) + inserted_on edge moves

abbrev insertions : List Edge → List Move → ℕ
insertions [] moves = 0
insertions (edge ∷ edges) moves = inserted_on edge moves + insertions edges moves

insertions_append : (xs ys : List Edge) (moves : List Move) → insertions (xs ++ ys) moves ≡ insertions xs moves + insertions ys moves
insertions_append [] ys moves = omega arith
insertions_append (x ∷ xs) ys moves = omega (arith, insertions_append xs ys moves)

-- on how many of the edges the expression is inserted
abbrev count_of : Move → List Edge → ℕ
count_of move [] = 0
count_of move (edge ∷ edges) = (if move.inserted edge then 1 else 0) + count_of move edges

insertions_none : (edges : List Edge) → insertions edges [] ≡ 0
insertions_none [] = refl
insertions_none (edge ∷ edges) = omega (arith, insertions_none edges)

insertions_one : (edges : List Edge) (move : Move) (moves : List Move) → insertions edges (move ∷ moves) ≡ count_of move edges + insertions edges moves
insertions_one [] move moves = refl
insertions_one (edge ∷ edges) move moves = omega (arith, insertions_one edges move moves)

abbrev IsIn : Edge → List Edge → Type 0
IsIn x [] = ⊥
IsIn x (y ∷ ys) = (x ≡ y) ⊎ IsIn x ys

is_in : (xs : List Edge) (x : Edge) (k : ℕ) → k < length xs → slice_index_or xs k x ≡ x → IsIn x xs
is_in [] x k lt e = omega (arith, lt)
is_in (y ∷ ys) x zero lt e = inl (sym e)
is_in (y ∷ ys) x (suc k) lt e = inr (is_in ys x k (omega (arith, lt)) e)

-- the list without one of its edges
record Without (x : Edge) (xs : List Edge) : Type 0 where
  rest : List Edge
  count : length xs ≡ suc (length rest)
  others : (y : Edge) → x ≢ y → IsIn y xs → IsIn y rest

without : (x : Edge) (xs : List Edge) → IsIn x xs → Without x xs
without x [] is = absurd is
without x (y ∷ ys) is =
    ⊎_elim
    (λ (here : x ≡ y). record {
      rest = ys;
      count = refl;
      others = λ z differs in_all. ⊎_elim (λ (e : z ≡ y). absurd (differs (here ∙ sym e))) (λ (later : IsIn z ys). later) in_all;
    })
    (λ (later : IsIn x ys).
    let r = without x ys later in
    record {
      rest = y ∷ r.rest;
      count = ap suc r.count;
      others = λ z differs in_all. ⊎_elim (λ (e : z ≡ y). inl e) (λ (further : IsIn z ys). inr (r.others z differs further)) in_all;
    })
    is

-- edges that differ and are all in the list are no more than its items
count_within : (move : Move) (edges xs : List Edge) → Apart edges → Each (λ edge. move.inserted edge ≡ true → IsIn edge xs) edges → count_of move edges ≤ length xs
count_within move [] xs apart each = omega arith
count_within move (edge ∷ edges) xs apart each =
    by (move.inserted edge) refl (λ ys rest. count_within move edges ys apart.1 rest)
  where
    by : (q : Bool) → move.inserted edge ≡ q → ((ys : List Edge) → Each (λ e. move.inserted e ≡ true → IsIn e ys) edges → count_of move edges ≤ length ys) → (if q then 1 else 0) + count_of move edges ≤ length xs
    by true is rest =
        let w = without edge xs (each.0 is) in
        let le = rest w.rest
        (each_by (λ e. (edge ≢ e) × (move.inserted e ≡ true → IsIn e xs)) (λ e. move.inserted e ≡ true → IsIn e w.rest) (λ e both inserted. w.others e both.0 (both.1 inserted)) edges
        (each_both (λ e. edge ≢ e) (λ e. move.inserted e ≡ true → IsIn e xs) edges apart.0 each.1)) in
        omega (arith, le, w.count)
    by false is rest = omega (arith, rest xs each.1)

every : (P : Edge → Type 0) → ((edge : Edge) → P edge) → (edges : List Edge) → Each P edges
every P all [] = tt
every P all (edge ∷ edges) = (all edge, every P all edges)

few_insertions : (edges : List Edge) → Apart edges → (moves : List Move) (lists : List (List Edge)) → AllZip IsListed moves lists → insertions edges moves ≤ sum_by length lists
few_insertions edges apart [] [] listed = omega (arith, insertions_none edges)
few_insertions edges apart (move ∷ moves) (xs ∷ lists) listed =
    let one = count_within move edges xs apart (every (λ edge. move.inserted edge ≡ true → IsIn edge xs) (λ edge inserted. let c = listed.0 edge inserted in is_in xs edge c.0 c.1 c.2) edges) in
    omega (arith, one, few_insertions edges apart moves lists listed.1, insertions_one edges move moves, sum_by-cons length xs lists)
few_insertions edges apart [] (xs ∷ lists) listed = absurd listed
few_insertions edges apart (move ∷ moves) [] listed = absurd listed

-- ---- how long the groups are

abbrev FewArgs : Move → Type 0
FewArgs move = length move.expr.args ≤ 3

few_loads : (naming : Naming) (x p i : ℕ) (args : List Arg) → length (arg_loads naming x p i args) ≤ length args
few_loads naming x p i [] = omega arith
few_loads naming x p i (ConstArg c ∷ args) = omega (arith, few_loads naming x p (suc i) args)
few_loads naming x p i (ParamArg q ∷ args) = omega (arith, few_loads naming x p (suc i) args)
few_loads naming x p i (VarArg v ∷ args) = omega (arith, few_loads naming x p (suc i) args)

module _ (naming : Naming) where
  short_group : (edge : Edge) (n temp : ℕ) (move : Move) → FewArgs move → length (group naming edge n temp move) ≤ 5
  short_group edge n temp move few =
      let p = naming.edge_number edge in
      let loads = arg_loads naming move.number p 0 move.expr.args in
      let operation : Instr = record { result = Some (made naming (Sum move.number p)); kind = Compute move.expr.op (arg_operands n move.expr.args) } in
      omega (arith, length-append loads (operation ∷ store_to (n + length loads) temp ∷ []), few_loads naming move.number p 0 move.expr.args, few)

  short_groups : (edge : Edge) (n temp : ℕ) (moves : List Move) → Each FewArgs moves → length (groups naming n temp edge moves) ≤ 5 * inserted_on edge moves
  short_groups edge n temp [] few = omega arith
  short_groups edge n temp (move ∷ moves) few = by (move.inserted edge) (λ k. short_groups edge k (suc temp) moves few.1)
    where
      by : (q : Bool) → ((k : ℕ) → length (groups naming k (suc temp) edge moves) ≤ 5 * inserted_on edge moves)
          → length ((if q then group naming edge n temp move else []) ++ groups naming (n + length (if q then group naming edge n temp move else [])) (suc temp) edge moves) ≤ 5 * ((if q then 1 else 0) + inserted_on edge moves)
      by true rest =
          let here = group naming edge n temp move in
          omega (arith, length-append here (groups naming (n + length here) (suc temp) edge moves), short_group edge n temp move few.0, rest (n + length here))
      by false rest = omega (arith, rest (n + 0))

  short_along : (edges : List Edge) (n temp : ℕ) (moves : List Move) → Each FewArgs moves → length (groups_along naming n temp edges moves) ≤ 5 * insertions edges moves
  short_along [] n temp moves few = omega arith
  short_along (edge ∷ edges) n temp moves few =
      let here = groups naming n temp edge moves in
      omega (arith, length-append here (groups_along naming (n + length here) temp edges moves), short_groups edge n temp moves few, short_along edges (n + length here) temp moves few)

-- ---- at most one store behind an instruction

abbrev NotBoth : ℕ → ℕ → Move → Move → Type 0
NotBoth b k move other = is_stored move b k ≡ true → is_stored other b k ≡ true → ⊥

no_stores : (temp n b k : ℕ) (moves : List Move) → Each (λ move. is_stored move b k ≡ true → ⊥) moves → length (stores temp n b k moves) ≡ 0
no_stores temp n b k [] none = refl
no_stores temp n b k (move ∷ moves) none = by (is_stored move b k) none.0 (no_stores (suc temp) n b k moves none.1)
  where
    by : (q : Bool) → (q ≡ true → ⊥) → length (stores (suc temp) n b k moves) ≡ 0 → length ((if q then store_to n temp ∷ [] else []) ++ stores (suc temp) n b k moves) ≡ 0
    by true never rest = absurd (never refl)
    by false never rest = rest

one_store : (temp n b k : ℕ) (moves : List Move) → EachPair (NotBoth b k) moves → length (stores temp n b k moves) ≤ 1
one_store temp n b k [] pairs = omega arith
one_store temp n b k (move ∷ moves) pairs = by (is_stored move b k) refl (one_store (suc temp) n b k moves pairs.1)
  where
    by : (q : Bool) → is_stored move b k ≡ q → length (stores (suc temp) n b k moves) ≤ 1 → length ((if q then store_to n temp ∷ [] else []) ++ stores (suc temp) n b k moves) ≤ 1
    by true is rest =
        let none = no_stores (suc temp) n b k moves (each_by (NotBoth b k move) (λ other. is_stored other b k ≡ true → ⊥) (λ other not_both stored. not_both is stored) moves pairs.0) in
        omega (arith, none)
    by false is rest = rest

pairs_by : {A : Type 0} (P : A → Type 0) (R R' : A → A → Type 0) → ((a b : A) → P a → P b → R a b → R' a b) → (xs : List A) → Each P xs → EachPair R xs → EachPair R' xs
pairs_by P R R' by [] each pairs = tt
pairs_by P R R' by (x ∷ xs) each pairs =
    (each_by (λ y. P y × R x y) (R' x) (λ y both. by x y each.0 both.0 both.1) xs (each_both P (R x) xs each.1 pairs.0), pairs_by P R R' by xs each.1 pairs.1)

-- ---- texts and blocks

module _ (naming : Naming) (moves : List Move) (few : Each FewArgs moves) (one : (b k : ℕ) → EachPair (NotBoth b k) moves) (vars : ℕ) where
  short_text : (b : ℕ) (block : Block) (k : ℕ) (instrs : List Instr) → length (text_from naming moves vars b block k instrs) ≤ 2 * length instrs + 5 * insertions (text_edges b block k instrs) moves
  short_text b block k [] = omega (arith, short_along naming (edges_before b k block) (start_of naming moves vars b block k) vars moves few)
  short_text b block k (instr ∷ instrs) =
      let start = start_of naming moves vars b block k in
      let number = number_of naming moves vars b block k in
      let here = groups_along naming start vars (edges_before b k block) moves in
      let behind = stores vars number b k moves in
      let rest = text_from naming moves vars b block (suc k) instrs in
      let copy = copied vars (number_of naming moves vars b block) (Place b k) instr moves in
      omega (
        arith,
        length-append here (copy ∷ (behind ++ rest)),
        length-append behind rest,
        short_along naming (edges_before b k block) start vars moves few,
        one_store vars number b k moves (one b k),
        short_text b block (suc k) instrs,
        insertions_append (edges_before b k block) (text_edges b block (suc k) instrs) moves,
      )

  abbrev instr_count : List Block → ℕ
  instr_count blocks = sum_by (λ x. length x.instrs) blocks

  few_split : (layout : Layout) (b : ℕ) (single : Bool) (slot target : ℕ) → (length (split_one naming moves vars layout b single slot target) ≤ 1) × (instr_count (split_one naming moves vars layout b single slot target) ≤ 5 * insertions (if single then [] else Slot b slot ∷ []) moves)
  few_split layout b true slot target = (omega arith, omega arith)
  few_split layout b false slot target = by (has_groups (Slot b slot) moves)
    where
      by : (q : Bool) → (length (if q then split_block naming vars (Slot b slot) (layout.home target) moves ∷ [] else []) ≤ 1) × (instr_count (if q then split_block naming vars (Slot b slot) (layout.home target) moves ∷ [] else []) ≤ 5 * (inserted_on (Slot b slot) moves + 0))
      by true = (omega arith, omega (arith, sum_by-cons (λ x. length x.instrs) (split_block naming vars (Slot b slot) (layout.home target) moves) [], short_groups naming (Slot b slot) 0 vars moves few))
      by false = (omega arith, omega arith)

  few_splits : (layout : Layout) (b : ℕ) (single : Bool) (slot : ℕ) (rest : List ℕ) → (length (splits_from naming moves vars layout b single slot rest) ≤ length rest) × (instr_count (splits_from naming moves vars layout b single slot rest) ≤ 5 * insertions (split_edges b single slot rest) moves)
  few_splits layout b single slot [] = (omega arith, omega arith)
  few_splits layout b single slot (target ∷ rest) =
      let first = split_one naming moves vars layout b single slot target in
      let others = splits_from naming moves vars layout b single (suc slot) rest in
      let a = few_split layout b single slot target in
      let r = few_splits layout b single (suc slot) rest in (
        omega (arith, length-append first others, a.0, r.0),
        omega (arith, sum_by-append (λ x. length x.instrs) first others, a.1, r.1, insertions_append (if single then [] else Slot b slot ∷ []) (split_edges b single (suc slot) rest) moves),
      )

  length_targets : (cases : List (ℕ × ℕ)) → length (map (λ c. c.1) cases) ≡ length cases
  length_targets [] = refl
  length_targets (case ∷ cases) = ap suc (length_targets cases)

  slots_counted : (term : Terminator) → slot_count term ≡ length (targets term)
  slots_counted (Return value) = refl
  slots_counted (Jump target) = refl
  slots_counted (Branch condition a b) = refl
  slots_counted (Switch w value other cases) = omega (arith, length_targets cases)
  slots_counted Unreachable = refl

  few_blocks : (layout : Layout) (b : ℕ) (blocks : List Block) → (length (new_blocks naming moves vars layout b blocks) ≤ length blocks + sum_by (λ x. slot_count x.term) blocks) × (instr_count (new_blocks naming moves vars layout b blocks) ≤ 2 * instr_count blocks + 5 * insertions (edges_from b blocks) moves)
  few_blocks layout b [] = (omega arith, omega arith)
  few_blocks layout b (block ∷ blocks) =
      let new = new_block naming moves vars layout b block in
      let splits = split_blocks naming moves vars layout b block.term in
      let others = new_blocks naming moves vars layout (suc b) blocks in
      let s = few_splits layout b (is_single block.term) 0 (targets block.term) in
      let r = few_blocks layout (suc b) blocks in
      let text = text_edges b block 0 block.instrs in
      let slots = split_edges b (is_single block.term) 0 (targets block.term) in (
        omega (arith, length-append splits others, s.0, r.0, slots_counted block.term, sum_by-cons (λ x. slot_count x.term) block blocks),
        omega (
          arith,
          sum_by-cons (λ x. length x.instrs) new (splits ++ others),
          sum_by-append (λ x. length x.instrs) splits others,
          sum_by-cons (λ x. length x.instrs) block blocks,
          short_text b block 0 block.instrs,
          s.1,
          r.1,
          insertions_append (text ++ slots) (edges_from (suc b) blocks) moves,
          insertions_append text slots moves,
        ),
      )

-- ---- a whole function

pub small_plan_fits : (m : Program) (plans : ℕ → Plan) → IsWellFormed m → AreMoves m plans → (i : ℕ) (function : Function) → slice_get m.functions i ≡ Some function → IsSmallPlan function (plans i) → size (applied_function (plans i) function) < item_limit
small_plan_fits m plans rules are i function there small =
    let plan = plans i in
    let naming = plan.naming in
    let moves = plan.moves in
    let vars = length function.vars in
    let old = all_at (IsFunctionIn m) m.functions i function rules.functions there in
    let few : Each FewArgs moves = each_at FewArgs moves
    (λ x move e.
    let is = are i x function move there e in
    let fits = expr_fits m function (function_fits m rules i function there) move.expr is.found_at is.found in
    omega (arith, fits.1, few_widths move.expr.op)) in
    let all_moves : Each (IsMove m function) moves = each_at (IsMove m function) moves (λ x move e. are i x function move there e) in
    let one : (b k : ℕ) → EachPair (NotBoth b k) moves = λ b k.
    pairs_by (IsMove m function) (λ move other. move.expr ≢ other.expr) (NotBoth b k)
    (λ move other is is' differ stored stored'.
    let kept = stored_kept (move.kept (Place b k)) (move.inserted (Inside b (suc k))) (move.live (Place b (suc k))) stored in
    let kept' = stored_kept (other.kept (Place b k)) (other.inserted (Inside b (suc k))) (other.live (Place b (suc k))) stored' in
    differ (one_occurs m function move.expr other.expr (Place b k) (is.kept_is (Place b k) kept).1 (is'.kept_is (Place b k) kept').1))
    moves all_moves (from_pairs (λ move other. move.expr ≢ other.expr) moves small.differ) in
    let blocks = few_blocks naming moves few one vars (layout_of moves function.blocks) 0 function.blocks in
    let inserted = few_insertions (edges_from 0 function.blocks) (edges_from_apart 0 function.blocks) moves small.inserted small.listed in
    omega (
      arith,
      blocks.0,
      blocks.1,
      inserted,
      small.few_inserted,
      small.few,
      small.limits.instrs,
      small.limits.blocks,
      small.limits.slots,
      small.limits.vars,
      old.few_params,
      length-append function.vars (temporaries naming moves),
      length_temporaries naming moves,
    )
