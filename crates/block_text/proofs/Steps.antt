-- Lists that grow piece by piece: what was built and what is left is still all of it.
use Rattle.std.proofs.Common.{◌≡◌, ℕ, zero, suc, ◌+◌, ◌<◌, ◌≤◌, List, [], ◌∷◌, ◌++◌, length, drop, get_or, true, false, Option, Some, None, refl, sym, ap, ◌∙◌, arith, add-one}
use Rattle.std.specs.Prelude.{slice_get, if◌then◌else◌}
use Rattle.std.specs.Option.{option_map_or}
use Rattle.std.proofs.lemmas.List.{append-nil, append_assoc, at_drop_more, at_drop_all, length-append}
use Rattle.std.proofs.lemmas.Option.{slice_get_past}
use Rattle.ir_types.specs.declared.name.Made.TheVariants.{Operand as MadeOperand}
use Rattle.ir_types.specs.declared.name.Name.{Name}
use Rattle.ir_types.specs.declared.name.Name.TheVariants.{Made}
use Rattle.ir_types.specs.declared.syntax.Operand.{Operand}
use Rattle.ir_types.specs.declared.syntax.Instr.{Instr}
use Rattle.ir_types.specs.declared.syntax.Block.{Block}
use Rattle.expressions.specs.declared.syntax.Arg.{Arg}
use Rattle.expressions.specs.declared.syntax.Arg.TheVariants.{Const, Param, Var}
use Rattle.expressions.specs.declared.syntax.Expr.{Expr}
use Rattle.point_graph.specs.Graph.{Edge, Slot}
use Rattle.applied.specs.Applied.{arg_load, load_count, arg_operand, arg_operands, is_single, leaving}
use Rattle.block_text.specs.ByChanges.{Given, loads, expr_group, temp_group, temp_groups, edge_groups, along}

pub piece_more : {X : Type 0} (built piece left rest grown all : List X) → built ++ left ≡ all → left ≡ piece ++ rest → grown ≡ built ++ piece → grown ++ rest ≡ all
piece_more built piece left rest grown all so_far splits grows =
    ap (λ l. l ++ rest) grows ∙ append_assoc built piece rest ∙ ap (λ l. built ++ l) (sym splits) ∙ so_far

pub none_left : {X : Type 0} (built left all : List X) → left ≡ [] → built ++ left ≡ all → built ≡ all
none_left built left all none so_far = sym (append-nil built) ∙ ap (λ l. built ++ l) (sym none) ∙ so_far

-- ---- operands

pub loads_more : (prefix x p i : ℕ) (args : List Arg) (d : Arg) (built grown all : List Instr) → i < length args
    → built ++ loads prefix x p i (drop i args) ≡ all → grown ≡ built ++ arg_load (Made prefix (MadeOperand x p i)) (get_or args i d)
    → grown ++ loads prefix x p (i + 1) (drop (i + 1) args) ≡ all
loads_more prefix x p i args d built grown all lt so_far grows =
    let piece = arg_load (Made prefix (MadeOperand x p i)) (get_or args i d) in
    let rest = drop (i + 1) args in
    let splits : loads prefix x p i (drop i args) ≡ piece ++ loads prefix x p (i + 1) rest =
    at_drop_more (loads prefix x p i) args i d lt ∙ ap (λ k. piece ++ loads prefix x p k rest) (sym (add-one i)) in
    piece_more built piece (loads prefix x p i (drop i args)) (loads prefix x p (i + 1) rest) grown all so_far splits grows

pub loads_end : (prefix x p i : ℕ) (args : List Arg) (built all : List Instr) → length args ≤ i → built ++ loads prefix x p i (drop i args) ≡ all → built ≡ all
loads_end prefix x p i args built all le so_far = none_left built (loads prefix x p i (drop i args)) all (at_drop_all (loads prefix x p i) args i le) so_far

load_length : (name : Name) (arg : Arg) → length (arg_load name arg) ≡ load_count arg
load_length name (Const value) = refl
load_length name (Param p) = refl
load_length name (Var variable) = refl

pub operands_more : (i : ℕ) (args : List Arg) (d : Arg) (name : Name) (instrs grown : List Instr) (built more all : List Operand) (operand : Operand) → i < length args
    → grown ≡ instrs ++ arg_load name (get_or args i d) → operand ≡ arg_operand (length instrs) (get_or args i d) → more ≡ built ++ operand ∷ []
    → built ++ arg_operands (length instrs) (drop i args) ≡ all → more ++ arg_operands (length grown) (drop (i + 1) args) ≡ all
operands_more i args d name instrs grown built more all operand lt loads is adds so_far =
    let arg = get_or args i d in
    let n = length instrs in
    let rest = drop (i + 1) args in
    let longer : n + load_count arg ≡ length grown =
    ap (λ l. n + l) (sym (load_length name arg)) ∙ sym (length-append instrs (arg_load name arg)) ∙ ap length (sym loads) in
    let splits : arg_operands n (drop i args) ≡ (operand ∷ []) ++ arg_operands (length grown) rest =
    at_drop_more (arg_operands n) args i d lt ∙ ap (λ o. o ∷ arg_operands (n + load_count arg) rest) (sym is) ∙ ap (λ l. operand ∷ arg_operands l rest) longer in
    piece_more built (operand ∷ []) (arg_operands n (drop i args)) (arg_operands (length grown) rest) more all so_far splits adds

pub operands_end : (n i : ℕ) (args : List Arg) (built all : List Operand) → length args ≤ i → built ++ arg_operands n (drop i args) ≡ all → built ≡ all
operands_end n i args built all le so_far = none_left built (arg_operands n (drop i args)) all (at_drop_all (arg_operands n) args i le) so_far

-- ---- groups

pub temp_group_is : (g : Given) (p n j x : ℕ) (e : Expr) → slice_get g.changes.temps j ≡ Some x → slice_get g.exprs x ≡ Some e → temp_group g p n j ≡ expr_group g.changes.prefix p n (g.vars + j) x e
temp_group_is g p n j x e is there =
    ap (λ o. option_map_or (λ y. option_map_or (λ f. expr_group g.changes.prefix p n (g.vars + j) y f) (slice_get g.exprs y) []) o []) is
    ∙ ap (λ o. option_map_or (λ f. expr_group g.changes.prefix p n (g.vars + j) x f) o []) there

pub groups_more : (g : Given) (p i : ℕ) (temps : List ℕ) (x prefix variable : ℕ) (e : Expr) (built grown all : List Instr) → i < length temps
    → slice_get g.changes.temps (get_or temps i 0) ≡ Some x → slice_get g.exprs x ≡ Some e → prefix ≡ g.changes.prefix → variable ≡ g.vars + get_or temps i 0
    → built ++ temp_groups g p (length built) (drop i temps) ≡ all → grown ≡ built ++ expr_group prefix p (length built) variable x e
    → grown ++ temp_groups g p (length grown) (drop (i + 1) temps) ≡ all
groups_more g p i temps x prefix variable e built grown all lt is there same_prefix same_variable so_far grows =
    let j = get_or temps i 0 in
    let n = length built in
    let rest = drop (i + 1) temps in
    let piece = temp_group g p n j in
    let here : grown ≡ built ++ piece =
    grows
    ∙ ap (λ y. built ++ expr_group y p n variable x e) same_prefix
    ∙ ap (λ v. built ++ expr_group g.changes.prefix p n v x e) same_variable
    ∙ ap (λ l. built ++ l) (sym (temp_group_is g p n j x e is there)) in
    let longer : n + length piece ≡ length grown = sym (length-append built piece) ∙ ap length (sym here) in
    let splits : temp_groups g p n (drop i temps) ≡ piece ++ temp_groups g p (length grown) rest =
    at_drop_more (temp_groups g p n) temps i 0 lt ∙ ap (λ l. piece ++ temp_groups g p l rest) longer in
    piece_more built piece (temp_groups g p n (drop i temps)) (temp_groups g p (length grown) rest) grown all so_far splits here

pub groups_end : (g : Given) (p i : ℕ) (temps : List ℕ) (built all : List Instr) → length temps ≤ i → built ++ temp_groups g p (length built) (drop i temps) ≡ all → built ≡ all
groups_end g p i temps built all le so_far =
    none_left built (temp_groups g p (length built) (drop i temps)) all (at_drop_all (temp_groups g p (length built)) temps i le) so_far

-- ---- edges in a row

pub along_one : (g : Given) (edge : Edge) (built grown : List Instr) → grown ≡ built ++ edge_groups g (length built) edge → grown ≡ built ++ along g (length built) (edge ∷ [])
along_one g edge built grown is = is ∙ ap (λ l. built ++ l) (sym (append-nil (edge_groups g (length built) edge)))

pub along_none : (g : Given) (built : List Instr) (edges : List Edge) → edges ≡ [] → built ≡ built ++ along g (length built) edges
along_none g built edges none = sym (append-nil built) ∙ ap (λ es. built ++ along g (length built) es) (sym none)

along_append : (g : Given) (n : ℕ) (edges others : List Edge) → along g n (edges ++ others) ≡ along g n edges ++ along g (n + length (along g n edges)) others
along_append g n [] others = ap (λ m. along g m others) (let same : n ≡ n + 0 = omega arith in same)
along_append g n (edge ∷ edges) others =
    let here = edge_groups g n edge in
    let m = n + length here in
    let next = along g m edges in
    let far : m + length next ≡ n + length (here ++ next) = omega (arith, length-append here next) in
    ap (λ l. here ++ l) (along_append g m edges others)
    ∙ sym (append_assoc here next (along g (m + length next) others))
    ∙ ap (λ k. (here ++ next) ++ along g k others) far

pub along_both : (g : Given) (edges others : List Edge) (built middle grown : List Instr) → middle ≡ built ++ along g (length built) edges → grown ≡ middle ++ along g (length middle) others
    → grown ≡ built ++ along g (length built) (edges ++ others)
along_both g edges others built middle grown first next =
    let n = length built in
    let here = along g n edges in
    let longer : length middle ≡ n + length here = ap length first ∙ length-append built here in
    next
    ∙ ap (λ k. middle ++ along g k others) longer
    ∙ ap (λ l. l ++ along g (n + length here) others) first
    ∙ append_assoc built here (along g (n + length here) others)
    ∙ ap (λ l. built ++ l) (sym (along_append g n edges others))

-- ---- the slot of a block with one

pub leaving_one : (b place : ℕ) (block : Block) → length block.instrs ≤ place → is_single block.term ≡ true → leaving b (slice_get block.instrs place) block.term ≡ Slot b 0 ∷ []
leaving_one b place block past single =
    ap (λ o. leaving b o block.term) (slice_get_past block.instrs place past) ∙ ap (λ q. if q then Slot b 0 ∷ [] else []) single

pub leaving_many : (b place : ℕ) (block : Block) → is_single block.term ≡ false → leaving b (slice_get block.instrs place) block.term ≡ []
leaving_many b place block many = by (slice_get block.instrs place)
  where
    by : (o : Option Instr) → leaving b o block.term ≡ []
    by None = ap (λ q. if q then Slot b 0 ∷ [] else []) many
    by (Some instr) = refl

pub leaving_before : (b place : ℕ) (block : Block) → place < length block.instrs → leaving b (slice_get block.instrs place) block.term ≡ []
leaving_before b place block lt =
    let there = get_there block.instrs place lt in ap (λ o. leaving b o block.term) there.1
  where
    get_there : {X : Type 0} (xs : List X) (i : ℕ) → i < length xs → (x : X) × (slice_get xs i ≡ Some x)
    get_there [] i lt = absurd (omega (arith, lt))
    get_there (x ∷ xs) zero lt = (x, refl)
    get_there (x ∷ xs) (suc i) lt = get_there xs i (omega (arith, lt))
