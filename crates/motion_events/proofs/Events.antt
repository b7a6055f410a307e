-- The tests of expressions and the relations say the same.
use Rattle.std.proofs.Common.{◌≡◌, ◌↔◌, ◌⊎◌, inl, inr, ⊎_elim, ℕ, zero, suc, ◌+◌, ◌-◌, ◌<◌, Bool, true, false, IsTrue, ◌||◌, if◌then◌else◌, List, [], ◌∷◌, take, drop, Option, Some, None, refl, sym, ap, ◌∙◌, subst, arith}
use Rattle.std.specs.Prelude.{◌==◌, not, slice_get, option_and_then}
use Rattle.std.specs.List.{AllZip, list_any}
use Rattle.std.specs.Option.{option_map, option_map_or}
use Rattle.std.proofs.lemmas.Bool.Decides.{nat_tests}
use Rattle.mc_num.specs.declared.op.Op.{Op}
use Rattle.ir_types.specs.Program.{Program}
use Rattle.ir_types.specs.Rules.{is_nil}
use Rattle.ir_types.specs.declared.syntax.Operand.{Operand}
use Rattle.ir_types.specs.declared.syntax.Operand.TheVariants.{Const, Param, Reg}
use Rattle.ir_types.specs.declared.syntax.Variable.{Variable}
use Rattle.ir_types.specs.declared.syntax.Variable.TheVariants.{Local, Global}
use Rattle.ir_types.specs.declared.syntax.Kind.{Kind}
use Rattle.ir_types.specs.declared.syntax.Kind.TheVariants.{Load, Store, Compute, Call}
use Rattle.ir_types.specs.declared.syntax.Instr.{Instr}
use Rattle.ir_types.specs.declared.syntax.Block.{Block}
use Rattle.ir_types.specs.declared.syntax.Function.{Function}
use Rattle.ir_machine.specs.Step.{blocks_of}
use Rattle.ir_machine.specs.Same as same
use Rattle.point_graph.specs.Graph.{Place}
use Rattle.point_graph.specs.declared.graph.Point.TheVariants.{Instr as InstrPoint}
use Rattle.expressions.specs.declared.syntax.Arg.{Arg}
use Rattle.expressions.specs.declared.syntax.Arg.TheVariants.{Const as ConstArg, Param as ParamArg, Var as VarArg}
use Rattle.expressions.specs.declared.syntax.Expr.{Expr}
use Rattle.expressions.specs.Expressions.{nothing, instr_there, place_content, content, is_same_variable, changes, loaded, arg_of, each_some, expr_by, content_expr, expr_at}
use Rattle.expressions.specs.Events.{changes_arg, changes_expr}
use Rattle.applied.specs.Motion.{ChangesVariable, NoChange, IsLoaded, IsArg, OccursIn, Occurs, ChangesArg, ChangesSome, KillsIn, Kills}

-- ---- variables that change

same_numbers : (v w : ℕ) → (v == w) ≡ true → w ≡ v
same_numbers v w e = grind (arith, nat_tests)

numbers_same : (v w : ℕ) → w ≡ v → (v == w) ≡ true
numbers_same v w e = grind (arith, nat_tests)

is_variable : (x y : Variable) → is_same_variable x y ≡ true → y ≡ x
is_variable (Local v) (Local w) e = ap (λ n. Local n) (same_numbers v w e)
is_variable (Global v) (Global w) e = ap (λ n. Global n) (same_numbers v w e)
is_variable (Local v) (Global w) e = absurd cc
is_variable (Global v) (Local w) e = absurd cc

variable_is : (x y : Variable) → y ≡ x → is_same_variable x y ≡ true
variable_is (Local v) (Local w) e = numbers_same v w (local_same e)
  where
    local_same : Local w ≡ Local v → w ≡ v
    local_same e = cc
variable_is (Global v) (Global w) e = numbers_same v w (global_same e)
  where
    global_same : Global w ≡ Global v → w ≡ v
    global_same e = cc
variable_is (Local v) (Global w) e = absurd cc
variable_is (Global v) (Local w) e = absurd cc

defined_blocks : (blocks : List Block) → not (is_nil blocks) ≡ same.is_defined blocks
defined_blocks [] = refl
defined_blocks (block ∷ blocks) = refl

defined_same : (found : Option Function) → option_map_or (λ f. not (is_nil f.blocks)) found false ≡ same.is_defined (blocks_of found)
defined_same None = refl
defined_same (Some f) = defined_blocks f.blocks

changes_is : (m : Program) (x : Variable) (kind : Kind) → changes m x kind ≡ true → ChangesVariable m kind x
changes_is m x (Load y) e = absurd cc
changes_is m x (Store operand y) e = sym (is_variable y x e)
changes_is m x (Compute op operands) e = absurd cc
changes_is m (Local v) (Call callee operands) e = absurd cc
changes_is m (Global g) (Call callee operands) e = sym (defined_same (slice_get m.functions callee)) ∙ e

is_changes : (m : Program) (x : Variable) (kind : Kind) → ChangesVariable m kind x → changes m x kind ≡ true
is_changes m x (Load y) c = absurd c
is_changes m x (Store operand y) c = variable_is y x (sym c)
is_changes m x (Compute op operands) c = absurd c
is_changes m (Local v) (Call callee operands) c = absurd c
is_changes m (Global g) (Call callee operands) c = defined_same (slice_get m.functions callee) ∙ c

-- ---- lists

either : (a b : Bool) → (a || b) ≡ true → (a ≡ true) ⊎ (b ≡ true)
either true b e = inl refl
either false b e = inr e

left_true : (a b : Bool) → a ≡ true → (a || b) ≡ true
left_true true b e = refl
left_true false b e = absurd cc

right_true : (a b : Bool) → b ≡ true → (a || b) ≡ true
right_true true b e = refl
right_true false b e = e

no_left : (a b : Bool) → (a || b) ≡ false → a ≡ false
no_left true b e = absurd cc
no_left false b e = refl

no_right : (a b : Bool) → (a || b) ≡ false → b ≡ false
no_right true b e = absurd cc
no_right false b e = e

neither : (a b : Bool) → a ≡ false → b ≡ false → (a || b) ≡ false
neither true b e f = absurd cc
neither false b e f = f

is_false : (q : Bool) → ¬ (q ≡ true) → q ≡ false
is_false true n = absurd (n refl)
is_false false n = refl

not_both : (q : Bool) → q ≡ false → q ≡ true → ⊥
not_both q e f = let both : false ≡ true = sym e ∙ f in cc

none_passes : (p : Instr → Bool) (xs : List Instr) → ((j : ℕ) (x : Instr) → slice_get xs j ≡ Some x → p x ≡ false) → list_any p xs ≡ false
none_passes p [] none = refl
none_passes p (x ∷ xs) none = neither (p x) (list_any p xs) (none 0 x refl) (none_passes p xs (λ j y e. none (suc j) y e))

passes_none : (p : Instr → Bool) (xs : List Instr) → list_any p xs ≡ false → (j : ℕ) (x : Instr) → slice_get xs j ≡ Some x → p x ≡ false
passes_none p [] none j x e = absurd cc
passes_none p (y ∷ ys) none zero x e = let same : y ≡ x = cc in subst (λ z. p z ≡ false) same (no_left (p y) (list_any p ys) none)
passes_none p (y ∷ ys) none (suc j) x e = passes_none p ys (no_right (p y) (list_any p ys) none) j x e

get_take : (n r : ℕ) (xs : List Instr) → r < n → slice_get (take n xs) r ≡ slice_get xs r
get_take zero r xs lt = absurd (omega (arith, lt))
get_take (suc n) r [] lt = refl
get_take (suc n) zero (x ∷ xs) lt = refl
get_take (suc n) (suc r) (x ∷ xs) lt = get_take n r xs (omega (arith, lt))

take_within : (n r : ℕ) (xs : List Instr) (x : Instr) → slice_get (take n xs) r ≡ Some x → r < n
take_within zero r xs x e = absurd cc
take_within (suc n) r [] x e = absurd cc
take_within (suc n) zero (y ∷ ys) x e = omega arith
take_within (suc n) (suc r) (y ∷ ys) x e = omega (arith, take_within n r ys x e)

get_drop : (n j : ℕ) (xs : List Instr) → slice_get (drop n xs) j ≡ slice_get xs (n + j)
get_drop zero j xs = let e : j ≡ 0 + j = omega arith in ap (slice_get xs) e
get_drop (suc n) j [] = refl
get_drop (suc n) j (x ∷ xs) =
    let e : suc (n + j) ≡ suc n + j = omega arith in get_drop n j xs ∙ ap (slice_get (x ∷ xs)) e

-- ---- operands

module _ (m : Program) (instrs : List Instr) (k : ℕ) where
  abbrev before : List Instr
  before = take k instrs

  abbrev since : ℕ → List Instr
  since r = drop (r + 1) before

  unchanged : (r : ℕ) (x : Variable) → NoChange m instrs x r k → list_any (λ i. changes m x i.kind) (since r) ≡ false
  unchanged r x kept =
      none_passes (λ i. changes m x i.kind) (since r)
      (λ j i e.
      let there : slice_get before (r + 1 + j) ≡ Some i = sym (get_drop (r + 1) j before) ∙ e in
      let lt = take_within k (r + 1 + j) instrs i there in
      is_false (changes m x i.kind) (λ c. kept (r + 1 + j) i (omega arith) lt (sym (get_take k (r + 1 + j) instrs lt) ∙ there) (changes_is m x i.kind c)))

  kept_since : (r : ℕ) (x : Variable) → list_any (λ i. changes m x i.kind) (since r) ≡ false → NoChange m instrs x r k
  kept_since r x none j i from to there c =
      let e : r + 1 + (j - (r + 1)) ≡ j = omega (arith, from) in
      let here : slice_get (since r) (j - (r + 1)) ≡ Some i = get_drop (r + 1) (j - (r + 1)) before ∙ ap (slice_get before) e ∙ get_take k j instrs to ∙ there in
      not_both (changes m x i.kind) (passes_none (λ i. changes m x i.kind) (since r) none (j - (r + 1)) i here) (is_changes m x i.kind c)

  arg_is : (operand : Operand) (arg : Arg) → IsArg m instrs k operand arg → arg_of m before operand ≡ Some arg
  arg_is (Const v) (ConstArg c) is = ap (λ n. Some (ConstArg n)) is
  arg_is (Param p) (ParamArg q) is = ap (λ n. Some (ParamArg n)) is
  arg_is (Reg r) (VarArg x) is =
      ap (option_and_then (λ i. loaded m i.kind (since r))) (get_take k r instrs is.earlier ∙ is.there)
      ∙ ap (λ kind. loaded m kind (since r)) is.load
      ∙ ap (λ q. if q then None else Some (VarArg x)) (unchanged r x is.kept)
  arg_is (Const v) (ParamArg q) is = absurd is
  arg_is (Const v) (VarArg x) is = absurd is
  arg_is (Param p) (ConstArg c) is = absurd is
  arg_is (Param p) (VarArg x) is = absurd is
  arg_is (Reg r) (ConstArg c) is = absurd is
  arg_is (Reg r) (ParamArg q) is = absurd is

  loaded_some : (kind : Kind) (rest : List Instr) (arg : Arg) → loaded m kind rest ≡ Some arg → (x : Variable) × (kind ≡ Load x) × (arg ≡ VarArg x) × (list_any (λ i. changes m x i.kind) rest ≡ false)
  loaded_some (Load x) rest arg e = by (list_any (λ i. changes m x i.kind) rest) refl e
    where
      by : (q : Bool) → list_any (λ i. changes m x i.kind) rest ≡ q → (if q then None else Some (VarArg x)) ≡ Some arg → (y : Variable) × (Load x ≡ Load y) × (arg ≡ VarArg y) × (list_any (λ i. changes m y i.kind) rest ≡ false)
      by true is e = absurd cc
      by false is e = (x, refl, (let same : VarArg x ≡ arg = cc in sym same), is)
  loaded_some (Store operand x) rest arg e = absurd cc
  loaded_some (Compute op operands) rest arg e = absurd cc
  loaded_some (Call callee operands) rest arg e = absurd cc

  register_is : (r : ℕ) (arg : Arg) (found : Option Instr) → slice_get before r ≡ found → option_and_then (λ i. loaded m i.kind (since r)) found ≡ Some arg → IsArg m instrs k (Reg r) arg
  register_is r arg None is e = absurd cc
  register_is r arg (Some i) is e =
      let load = loaded_some i.kind (since r) arg e in
      let lt = take_within k r instrs i is in
      let loaded_here : IsLoaded m instrs k r load.0 = record {
        earlier = lt;
        instr = i;
        there = sym (get_take k r instrs lt) ∙ is;
        load = load.1;
        kept = kept_since r load.0 load.3;
      } in
      subst (IsArg m instrs k (Reg r)) (sym load.2) loaded_here

  is_arg : (operand : Operand) (arg : Arg) → arg_of m before operand ≡ Some arg → IsArg m instrs k operand arg
  is_arg (Const v) arg e = let same : ConstArg v ≡ arg = cc in subst (IsArg m instrs k (Const v)) same refl
  is_arg (Param p) arg e = let same : ParamArg p ≡ arg = cc in subst (IsArg m instrs k (Param p)) same refl
  is_arg (Reg r) arg e = register_is r arg (slice_get before r) refl e

  abbrev each_from : Option Arg → List Operand → Option (List Arg)
  each_from first rest = option_and_then (λ y. option_map (λ ys. y ∷ ys) (each_some (arg_of m before) rest)) first

  args_are : (operands : List Operand) (args : List Arg) → AllZip (IsArg m instrs k) operands args → each_some (arg_of m before) operands ≡ Some args
  args_are [] [] are = refl
  args_are (operand ∷ operands) (arg ∷ args) are =
      ap (λ first. each_from first operands) (arg_is operand arg are.0) ∙ ap (option_map (λ ys. arg ∷ ys)) (args_are operands args are.1)
  args_are [] (arg ∷ args) are = absurd are
  args_are (operand ∷ operands) [] are = absurd are

  are_by : (operand : Operand) (operands : List Operand) (args : List Arg) → ((rest : List Arg) → each_some (arg_of m before) operands ≡ Some rest → AllZip (IsArg m instrs k) operands rest) → (first : Option Arg) → arg_of m before operand ≡ first → (rest : Option (List Arg)) → each_some (arg_of m before) operands ≡ rest → option_and_then (λ y. option_map (λ ys. y ∷ ys) rest) first ≡ Some args → AllZip (IsArg m instrs k) (operand ∷ operands) args
  are_by operand operands args further None is rest are e = absurd cc
  are_by operand operands args further (Some arg) is None are e = absurd cc
  are_by operand operands args further (Some arg) is (Some rest) are e =
      let same : arg ∷ rest ≡ args = cc in
      subst (AllZip (IsArg m instrs k) (operand ∷ operands)) same (is_arg operand arg is, further rest are)

  are_args : (operands : List Operand) (args : List Arg) → each_some (arg_of m before) operands ≡ Some args → AllZip (IsArg m instrs k) operands args
  are_args [] args e = let same : [] ≡ args = cc in subst (AllZip (IsArg m instrs k) []) same tt
  are_args (operand ∷ operands) args e =
      are_by operand operands args (λ rest e'. are_args operands rest e') (arg_of m before operand) refl (each_some (arg_of m before) operands) refl e

  expr_is : (e : Expr) (kind : Kind) (operands : List Operand) → kind ≡ Compute e.op operands → AllZip (IsArg m instrs k) operands e.args → expr_by (arg_of m before) kind ≡ Some e
  expr_is e kind operands is are =
      ap (expr_by (arg_of m before)) is ∙ ap (option_map (expr_of e.op)) (args_are operands e.args are)
    where
      expr_of : Op → List Arg → Expr
      expr_of op args = record { op = op; args = args }

  pub record Computes (e : Expr) (kind : Kind) : Type 0 where
    pub operands : List Operand
    pub computes : kind ≡ Compute e.op operands
    pub are : AllZip (IsArg m instrs k) operands e.args

  computes_by : (e : Expr) (op : Op) (operands : List Operand) (found : Option (List Arg)) → each_some (arg_of m before) operands ≡ found → option_map (λ args. record { op = op; args = args }) found ≡ Some e → Computes e (Compute op operands)
  computes_by e op operands None is same = absurd cc
  computes_by e op operands (Some args) is same =
      let made : Expr = record { op = op; args = args } in
      let equal : made ≡ e = cc in
      let here : Computes made (Compute op operands) = record { operands = operands; computes = refl; are = are_args operands args is } in
      subst (λ x. Computes x (Compute op operands)) equal here

  is_expr : (e : Expr) (kind : Kind) → expr_by (arg_of m before) kind ≡ Some e → Computes e kind
  is_expr e (Load x) same = absurd cc
  is_expr e (Store operand x) same = absurd cc
  is_expr e (Compute op operands) same = computes_by e op operands _ refl same
  is_expr e (Call callee operands) same = absurd cc

-- ---- what stands at a place

pub there_is : (f : Function) (b k : ℕ) (block : Block) (instr : Instr) → slice_get f.blocks b ≡ Some block → slice_get block.instrs k ≡ Some instr → content f (InstrPoint b k) ≡ instr_there (take k block.instrs) instr.kind
there_is f b k block instr there here =
    ap (λ found. option_map_or (λ x. place_content x k) found nothing) there
    ∙ ap (λ found. option_map_or (λ i. instr_there (take k block.instrs) i.kind) found nothing) here

module _ (m : Program) (f : Function) (e : Expr) (b k : ℕ) where
  occurs_to : Occurs m f e (Place b k) → expr_at m f (InstrPoint b k) ≡ Some e
  occurs_to occurs =
      ap (content_expr m) (there_is f b k occurs.block occurs.instr occurs.block_there occurs.here)
      ∙ expr_is m occurs.block.instrs k e occurs.instr.kind occurs.operands occurs.computes occurs.are_args

  occurs_in : (block : Block) → slice_get f.blocks b ≡ Some block → (found : Option Instr) → slice_get block.instrs k ≡ found → content_expr m (option_map_or (λ i. instr_there (take k block.instrs) i.kind) found nothing) ≡ Some e → OccursIn m f e b k
  occurs_in block there None here same = absurd cc
  occurs_in block there (Some instr) here same =
      let c = is_expr m block.instrs k e instr.kind same in
      record { block = block; block_there = there; instr = instr; here = here; operands = c.operands; computes = c.computes; are_args = c.are }

  occurs_from : (found : Option Block) → slice_get f.blocks b ≡ found → content_expr m (option_map_or (λ x. place_content x k) found nothing) ≡ Some e → OccursIn m f e b k
  occurs_from None there same = absurd cc
  occurs_from (Some block) there same = occurs_in block there _ refl same

  pub occurs_agree : Occurs m f e (Place b k) ↔ (expr_at m f (InstrPoint b k) ≡ Some e)
  occurs_agree = (occurs_to, (λ same. occurs_from _ refl same))

  arg_to : (kind : Kind) (arg : Arg) → ChangesArg m kind arg → changes_arg m kind arg ≡ true
  arg_to kind (ConstArg c) change = absurd change
  arg_to kind (ParamArg p) change = absurd change
  arg_to kind (VarArg x) change = is_changes m x kind change

  arg_from : (kind : Kind) (arg : Arg) → changes_arg m kind arg ≡ true → ChangesArg m kind arg
  arg_from kind (ConstArg c) change = absurd cc
  arg_from kind (ParamArg p) change = absurd cc
  arg_from kind (VarArg x) change = changes_is m x kind change

  some_to : (kind : Kind) (args : List Arg) → ChangesSome m kind args → list_any (changes_arg m kind) args ≡ true
  some_to kind [] change = absurd change
  some_to kind (arg ∷ args) change =
      ⊎_elim (λ (c : ChangesArg m kind arg). left_true (changes_arg m kind arg) (list_any (changes_arg m kind) args) (arg_to kind arg c))
      (λ (c : ChangesSome m kind args). right_true (changes_arg m kind arg) (list_any (changes_arg m kind) args) (some_to kind args c)) change

  some_from : (kind : Kind) (args : List Arg) → list_any (changes_arg m kind) args ≡ true → ChangesSome m kind args
  some_from kind [] change = absurd cc
  some_from kind (arg ∷ args) change =
      ⊎_elim (λ (c : changes_arg m kind arg ≡ true). inl (arg_from kind arg c)) (λ (c : list_any (changes_arg m kind) args ≡ true). inr (some_from kind args c))
      (either (changes_arg m kind arg) (list_any (changes_arg m kind) args) change)

  kills_to : Kills m f e (Place b k) → IsTrue (changes_expr m e (content f (InstrPoint b k)))
  kills_to kills = ap (changes_expr m e) (there_is f b k kills.block kills.instr kills.block_there kills.here) ∙ some_to kills.instr.kind e.args kills.changes

  kills_in : (block : Block) → slice_get f.blocks b ≡ Some block → (found : Option Instr) → slice_get block.instrs k ≡ found → IsTrue (changes_expr m e (option_map_or (λ i. instr_there (take k block.instrs) i.kind) found nothing)) → KillsIn m f e b k
  kills_in block there None here change = absurd cc
  kills_in block there (Some instr) here change =
      record { block = block; block_there = there; instr = instr; here = here; changes = some_from instr.kind e.args change }

  kills_from : (found : Option Block) → slice_get f.blocks b ≡ found → IsTrue (changes_expr m e (option_map_or (λ x. place_content x k) found nothing)) → KillsIn m f e b k
  kills_from None there change = absurd cc
  kills_from (Some block) there change = kills_in block there _ refl change

  pub kills_agree : Kills m f e (Place b k) ↔ IsTrue (changes_expr m e (content f (InstrPoint b k)))
  kills_agree = (kills_to, (λ change. kills_from _ refl change))
