-- Plans that say the same of edges and of occurrences make the same of a function.
use Rattle.std.proofs.Common.{◌≡◌, ℕ, zero, suc, ◌+◌, Bool, true, false, if◌then◌else◌, List, [], ◌∷◌, ◌++◌, length, Option, Some, None, refl, sym, ap, ◌∙◌, subst, arith}
use Rattle.std.specs.Prelude.{slice_get}
use Rattle.std.specs.List.{AllZip}
use Rattle.mc_num.specs.Op.{result_width}
use Rattle.ir_types.specs.WellFormed.{targets}
use Rattle.ir_types.specs.declared.name.Name.{Name}
use Rattle.ir_types.specs.declared.name.Made.{Made}
use Rattle.ir_types.specs.declared.name.Made.TheVariants.{Temp, Sum, Operand as MadeOperand, Split}
use Rattle.ir_types.specs.declared.syntax.Instr.{Instr}
use Rattle.ir_types.specs.declared.syntax.Kind.TheVariants.{Load, Compute}
use Rattle.ir_types.specs.declared.syntax.Variable.TheVariants.{Local}
use Rattle.ir_types.specs.declared.syntax.Terminator.{Terminator}
use Rattle.ir_types.specs.declared.syntax.Terminator.TheVariants.{Return, Jump, Branch, Switch, Unreachable}
use Rattle.ir_types.specs.declared.syntax.Block.{Block}
use Rattle.ir_types.specs.declared.syntax.Function.{Function}
use Rattle.expressions.specs.declared.syntax.Arg.{Arg}
use Rattle.expressions.specs.declared.syntax.Expr.{Expr}
use Rattle.point_graph.specs.Graph.{Point, Place, Edge, Slot}
use Rattle.applied.specs.Motion.{Move}
use Rattle.applied.specs.Renamed.{renamed}
use Rattle.applied.specs.Applied.{Naming, Plan, made, StandsAt, arg_load, arg_loads, arg_operands, group, groups, groups_along, edges_before, copied, store_to, is_stored, stores, has_groups, Layout, new_target, new_cases, new_term, splits_before, is_single, splits_at, split_block, IsSplit, block_count, temporaries, BlockApplied, FunctionApplied, AllApplied}

-- what the moves make of a function is the same
pub record IsAlike (naming naming' : Naming) (move other : Move) : Type 0 where
  pub prefix : naming.prefix ≡ naming'.prefix
  pub number : move.number ≡ other.number
  pub expr : move.expr ≡ other.expr
  pub inserted : (edge : Edge) → move.inserted edge ≡ other.inserted edge
  pub edge_numbers : (edge : Edge) → move.inserted edge ≡ true → naming.edge_number edge ≡ naming'.edge_number edge
  pub deleted : (v : Point) → move.deleted v ≡ other.deleted v
  pub stored : (b k : ℕ) → is_stored move b k ≡ is_stored other b k

abbrev pub AreAlike : Plan → Plan → Type 0
AreAlike plan other = AllZip (IsAlike plan.naming other.naming) plan.moves other.moves

-- ---- lists

module _ (naming naming' : Naming) where
  name_same : naming.prefix ≡ naming'.prefix → (what : Made) → made naming what ≡ made naming' what
  name_same prefix what = ap (λ p. made (record { prefix = p; edge_number = naming.edge_number }) what) prefix

  loads_same : naming.prefix ≡ naming'.prefix → (x p i : ℕ) (args : List Arg) → arg_loads naming x p i args ≡ arg_loads naming' x p i args
  loads_same prefix x p i [] = refl
  loads_same prefix x p i (arg ∷ args) =
      ap (λ name. arg_load name arg ++ arg_loads naming x p (suc i) args) (name_same prefix (MadeOperand x p i))
      ∙ ap (λ rest. arg_load (made naming' (MadeOperand x p i)) arg ++ rest) (loads_same prefix x p (suc i) args)

  -- the group of an expression by its number, the number of its edge, and the expression itself
  abbrev group_by : Naming → ℕ → ℕ → ℕ → ℕ → Expr → List Instr
  group_by names n temp x p expr =
      let loads = arg_loads names x p 0 expr.args in
      let operation : Instr = record { result = Some (made names (Sum x p)); kind = Compute expr.op (arg_operands n expr.args) } in
      loads ++ operation ∷ store_to (n + length loads) temp ∷ []

  group_by_same : naming.prefix ≡ naming'.prefix → (n temp x p : ℕ) (expr : Expr) → group_by naming n temp x p expr ≡ group_by naming' n temp x p expr
  group_by_same prefix n temp x p expr =
      let operation : Name → Instr = λ name. record { result = Some name; kind = Compute expr.op (arg_operands n expr.args) } in
      ap (λ loads. loads ++ operation (made naming (Sum x p)) ∷ store_to (n + length loads) temp ∷ []) (loads_same prefix x p 0 expr.args)
      ∙ ap (λ name. arg_loads naming' x p 0 expr.args ++ operation name ∷ store_to (n + length (arg_loads naming' x p 0 expr.args)) temp ∷ []) (name_same prefix (Sum x p))

  module _ (move other : Move) (alike : IsAlike naming naming' move other) where
    group_same : (edge : Edge) → move.inserted edge ≡ true → (n temp : ℕ) → group naming edge n temp move ≡ group naming' edge n temp other
    group_same edge inserted n temp =
        ap (λ p. group_by naming n temp move.number p move.expr) (alike.edge_numbers edge inserted)
        ∙ group_by_same alike.prefix n temp move.number (naming'.edge_number edge) move.expr
        ∙ ap (λ x. group_by naming' n temp x (naming'.edge_number edge) move.expr) alike.number
        ∙ ap (λ expr. group_by naming' n temp other.number (naming'.edge_number edge) expr) alike.expr

    here_same : (edge : Edge) (n temp : ℕ) → (if move.inserted edge then group naming edge n temp move else []) ≡ (if other.inserted edge then group naming' edge n temp other else [])
    here_same edge n temp = by (move.inserted edge) refl
      where
        by : (q : Bool) → move.inserted edge ≡ q → (if move.inserted edge then group naming edge n temp move else []) ≡ (if other.inserted edge then group naming' edge n temp other else [])
        by true e =
            ap (λ q. if q then group naming edge n temp move else []) e
            ∙ group_same edge e n temp
            ∙ ap (λ q. if q then group naming' edge n temp other else []) (sym e ∙ alike.inserted edge)
        by false e =
            ap (λ q. if q then group naming edge n temp move else []) e
            ∙ ap (λ q. if q then group naming' edge n temp other else []) (sym e ∙ alike.inserted edge)

  groups_same : (edge : Edge) (moves others : List Move) → AllZip (IsAlike naming naming') moves others → (n temp : ℕ) → groups naming n temp edge moves ≡ groups naming' n temp edge others
  groups_same edge [] [] alike n temp = refl
  groups_same edge [] (other ∷ others) alike n temp = absurd alike
  groups_same edge (move ∷ moves) [] alike n temp = absurd alike
  groups_same edge (move ∷ moves) (other ∷ others) alike n temp =
      let here' = if other.inserted edge then group naming' edge n temp other else [] in
      ap (λ here. here ++ groups naming (n + length here) (suc temp) edge moves) (here_same move other alike.0 edge n temp)
      ∙ ap (λ rest. here' ++ rest) (groups_same edge moves others alike.1 (n + length here') (suc temp))

  along_same : (moves others : List Move) → AllZip (IsAlike naming naming') moves others → (n temp : ℕ) (edges : List Edge) → groups_along naming n temp edges moves ≡ groups_along naming' n temp edges others
  along_same moves others alike n temp [] = refl
  along_same moves others alike n temp (edge ∷ edges) =
      let here' = groups naming' n temp edge others in
      ap (λ here. here ++ groups_along naming (n + length here) temp edges moves) (groups_same edge moves others alike n temp)
      ∙ ap (λ rest. here' ++ rest) (along_same moves others alike (n + length here') temp edges)

  has_same : (edge : Edge) (moves others : List Move) → AllZip (IsAlike naming naming') moves others → has_groups edge moves ≡ has_groups edge others
  has_same edge [] [] alike = refl
  has_same edge [] (other ∷ others) alike = absurd alike
  has_same edge (move ∷ moves) [] alike = absurd alike
  has_same edge (move ∷ moves) (other ∷ others) alike =
      ap (λ q. if q then true else has_groups edge moves) (alike.0.inserted edge)
      ∙ ap (λ rest. if other.inserted edge then true else rest) (has_same edge moves others alike.1)

  -- the block of an edge with groups has one name
  split_name : (edge : Edge) (moves others : List Move) → AllZip (IsAlike naming naming') moves others → has_groups edge moves ≡ true → made naming (Split (naming.edge_number edge)) ≡ made naming' (Split (naming'.edge_number edge))
  split_name edge [] [] alike has = absurd (false_true has)
    where
      false_true : false ≡ true → ⊥
      false_true e = cc
  split_name edge [] (other ∷ others) alike has = absurd alike
  split_name edge (move ∷ moves) [] alike has = absurd alike
  split_name edge (move ∷ moves) (other ∷ others) alike has = first_or_rest (move.inserted edge) refl (split_name edge moves others alike.1)
    where
      first_or_rest : (q : Bool) → move.inserted edge ≡ q → (has_groups edge moves ≡ true → made naming (Split (naming.edge_number edge)) ≡ made naming' (Split (naming'.edge_number edge)))
          → made naming (Split (naming.edge_number edge)) ≡ made naming' (Split (naming'.edge_number edge))
      first_or_rest true e rest = ap (λ p. made naming (Split p)) (alike.0.edge_numbers edge e) ∙ name_same alike.0.prefix (Split (naming'.edge_number edge))
      first_or_rest false e rest = rest (sym (ap (λ q. if q then true else has_groups edge moves) e) ∙ has)

  temporaries_same : (moves others : List Move) → AllZip (IsAlike naming naming') moves others → temporaries naming moves ≡ temporaries naming' others
  temporaries_same [] [] alike = refl
  temporaries_same [] (other ∷ others) alike = absurd alike
  temporaries_same (move ∷ moves) [] alike = absurd alike
  temporaries_same (move ∷ moves) (other ∷ others) alike =
      ap (λ (e : Expr). (result_width e.op, made naming (Temp move.number)) ∷ temporaries naming moves) alike.0.expr
      ∙ ap (λ (x : ℕ). (result_width other.expr.op, made naming (Temp x)) ∷ temporaries naming moves) alike.0.number
      ∙ ap (λ (name : Name). (result_width other.expr.op, name) ∷ temporaries naming moves) (name_same alike.0.prefix (Temp other.number))
      ∙ ap (λ rest. (result_width other.expr.op, made naming' (Temp other.number)) ∷ rest) (temporaries_same moves others alike.1)

  copied_same : (number : ℕ → ℕ) (v : Point) (instr : Instr) (moves others : List Move) → AllZip (IsAlike naming naming') moves others → (temp : ℕ) → copied temp number v instr moves ≡ copied temp number v instr others
  copied_same number v instr [] [] alike temp = refl
  copied_same number v instr [] (other ∷ others) alike temp = absurd alike
  copied_same number v instr (move ∷ moves) [] alike temp = absurd alike
  copied_same number v instr (move ∷ moves) (other ∷ others) alike temp =
      let load : Instr = record { result = instr.result; kind = Load (Local temp) } in
      ap (λ b. if b then load else copied (suc temp) number v instr moves) (alike.0.deleted v)
      ∙ ap (λ rest. if other.deleted v then load else rest) (copied_same number v instr moves others alike.1 (suc temp))

  stores_same : (n b k : ℕ) (moves others : List Move) → AllZip (IsAlike naming naming') moves others → (temp : ℕ) → stores temp n b k moves ≡ stores temp n b k others
  stores_same n b k [] [] alike temp = refl
  stores_same n b k [] (other ∷ others) alike temp = absurd alike
  stores_same n b k (move ∷ moves) [] alike temp = absurd alike
  stores_same n b k (move ∷ moves) (other ∷ others) alike temp =
      let here = λ (b : Bool). if b then store_to n temp ∷ [] else [] in
      ap (λ q. here q ++ stores (suc temp) n b k moves) (alike.0.stored b k)
      ∙ ap (λ rest. here (is_stored other b k) ++ rest) (stores_same n b k moves others alike.1 (suc temp))

-- ---- a function

module _ (plan other : Plan) (alike : AreAlike plan other) where
  abbrev moves : List Move
  moves = plan.moves

  abbrev others : List Move
  others = other.moves

  along : (n temp : ℕ) (edges : List Edge) → groups_along plan.naming n temp edges moves ≡ groups_along other.naming n temp edges others
  along n temp edges = along_same plan.naming other.naming moves others alike n temp edges

  has : (edge : Edge) → has_groups edge moves ≡ has_groups edge others
  has edge = has_same plan.naming other.naming edge moves others alike

  target_same : (layout : Layout) (b slot target : ℕ) → new_target layout b slot target moves ≡ new_target layout b slot target others
  target_same layout b slot target = ap (λ q. if q then layout.split b slot else layout.home target) (has (Slot b slot))

  cases_same : (layout : Layout) (b slot : ℕ) (cases : List (ℕ × ℕ)) → new_cases layout b slot cases moves ≡ new_cases layout b slot cases others
  cases_same layout b slot [] = refl
  cases_same layout b slot (case ∷ cases) =
      ap (λ target. (case.0, target) ∷ new_cases layout b (suc slot) cases moves) (target_same layout b slot case.1)
      ∙ ap (λ rest. (case.0, new_target layout b slot case.1 others) ∷ rest) (cases_same layout b (suc slot) cases)

  term_same : (number : ℕ → ℕ) (layout : Layout) (b : ℕ) (term : Terminator) → new_term number layout b term moves ≡ new_term number layout b term others
  term_same number layout b (Return operand) = refl
  term_same number layout b (Jump target) = refl
  term_same number layout b (Branch condition then_block else_block) =
      ap (λ target. Branch (renamed number condition) target (new_target layout b 1 else_block moves)) (target_same layout b 0 then_block)
      ∙ ap (λ target. Branch (renamed number condition) (new_target layout b 0 then_block others) target) (target_same layout b 1 else_block)
  term_same number layout b (Switch width operand target []) = refl
  term_same number layout b (Switch width operand target (case ∷ cases)) =
      ap (λ to. Switch width (renamed number operand) to (new_cases layout b 1 (case ∷ cases) moves)) (target_same layout b 0 target)
      ∙ ap (λ rest. Switch width (renamed number operand) (new_target layout b 0 target others) rest) (cases_same layout b 1 (case ∷ cases))
  term_same number layout b Unreachable = refl

  before_same : (b : ℕ) (term : Terminator) (slot : ℕ) → splits_before b slot term moves ≡ splits_before b slot term others
  before_same b term zero = refl
  before_same b term (suc slot) =
      ap (λ n. n + (if is_single term then 0 else (if has_groups (Slot b slot) moves then 1 else 0))) (before_same b term slot)
      ∙ ap (λ q. splits_before b slot term others + (if is_single term then 0 else (if q then 1 else 0))) (has (Slot b slot))

  at_same : (b slot : ℕ) (block : Option Block) → splits_at moves b slot block ≡ splits_at others b slot block
  at_same b slot None = refl
  at_same b slot (Some block) = before_same b block.term slot

  count_same : (b : ℕ) (block : Option Block) → block_count moves b block ≡ block_count others b block
  count_same b None = refl
  count_same b (Some block) = ap (λ n. suc n) (before_same b block.term (length (targets block.term)))

  block_same : (vars : ℕ) (layout : Layout) (b : ℕ) (block block' : Block) → BlockApplied plan.naming moves vars layout b block block' → BlockApplied other.naming others vars layout b block block'
  block_same vars layout b block block' is = record {
    name = is.name;
    start = is.start;
    number = is.number;
    start_zero = is.start_zero;
    number_is = λ k. is.number_is k ∙ ap (λ l. is.start k + length l) (along (is.start k) vars (edges_before b k block));
    groups_stand = λ k le. subst (StandsAt block'.instrs (is.start k)) (along (is.start k) vars (edges_before b k block)) (is.groups_stand k le);
    copy_stands = λ k instr there.
        let copy = copied_same plan.naming other.naming is.number (Place b k) instr moves others alike vars in
        let rest = stores_same plan.naming other.naming (is.number k) b k moves others alike vars in
        subst (StandsAt block'.instrs (is.number k)) (ap (λ i. i ∷ stores vars (is.number k) b k moves) copy ∙ ap (λ l. copied vars is.number (Place b k) instr others ∷ l) rest) (is.copy_stands k instr there);
    start_next = λ k. is.start_next k ∙ ap (λ l. suc (is.number k) + length l) (stores_same plan.naming other.naming (is.number k) b k moves others alike vars);
    ends = is.ends;
    term = is.term ∙ term_same is.number layout b block.term;
  }

  -- the block that splits a slot with groups
  split_same : (vars b slot target : ℕ) → has_groups (Slot b slot) others ≡ true → split_block plan.naming vars (Slot b slot) target moves ≡ split_block other.naming vars (Slot b slot) target others
  split_same vars b slot target inserted =
      let edge = Slot b slot in
      let block : Name → List Instr → Block = λ name instrs. record { name = name; instrs = instrs; term = Jump target } in
      let instrs = groups plan.naming 0 vars edge moves in
      ap (λ name. block name instrs) (split_name plan.naming other.naming edge moves others alike (has edge ∙ inserted))
      ∙ ap (λ instrs. block (made other.naming (Split (other.naming.edge_number edge))) instrs) (groups_same plan.naming other.naming edge moves others alike 0 vars)

  function_same : (f g : Function) → FunctionApplied plan f g → FunctionApplied other f g
  function_same f g is = record {
    name = is.name;
    ret = is.ret;
    params = is.params;
    vars = is.vars ∙ ap (λ l. f.vars ++ l) (temporaries_same plan.naming other.naming moves others alike);
    layout = is.layout;
    home_first = is.home_first;
    home_next = λ b. is.home_next b ∙ ap (λ n. is.layout.home b + n) (count_same b (slice_get f.blocks b));
    split_next = λ b slot. is.split_next b slot ∙ ap (λ n. suc (is.layout.home b) + n) (at_same b slot (slice_get f.blocks b));
    ends = is.ends;
    blocks = λ b block there. let new = is.blocks b block there in (new.0, new.1, block_same (length f.vars) is.layout b block new.0 new.2);
    splits = λ b slot target block there split.
        let before : IsSplit moves b slot target block = record { leads = split.leads; many = split.many; inserted = has (Slot b slot) ∙ split.inserted } in
        is.splits b slot target block there before ∙ ap (λ new. Some new) (split_same (length f.vars) b slot (is.layout.home target) split.inserted);
  }

-- ---- a module

pub all_same : (plans others : ℕ → Plan) (i : ℕ) (fs gs : List Function) → ((k : ℕ) (f : Function) → slice_get fs k ≡ Some f → AreAlike (plans (i + k)) (others (i + k))) → AllApplied plans i fs gs → AllApplied others i fs gs
all_same plans others i [] [] alike all = tt
all_same plans others i [] (g ∷ gs) alike all = absurd all
all_same plans others i (f ∷ fs) [] alike all = absurd all
all_same plans others i (f ∷ fs) (g ∷ gs) alike all =
    let here : i + 0 ≡ i = omega arith in (
      function_same (plans i) (others i) (subst (λ k. AreAlike (plans k) (others k)) here (alike 0 f refl)) f g all.0,
      all_same plans others (suc i) fs gs (λ k f' there. let next : i + suc k ≡ suc i + k = omega arith in subst (λ k. AreAlike (plans k) (others k)) next (alike (suc k) f' there)) all.1,
    )
