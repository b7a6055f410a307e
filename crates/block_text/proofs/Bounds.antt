-- The temporaries, expressions and edges that changes name are there, and their numbers have 32 bits.
use Rattle.std.proofs.Common.{◌≡◌, ℕ, suc, ◌+◌, ◌^◌, ◌<◌, Bool, true, false, List, [], ◌∷◌, ◌++◌, length, Some, None, refl, sym, ap, ◌∙◌, subst, arith}
use Rattle.std.specs.Prelude.{slice_get, All, Contains, if◌then◌else◌}
use Rattle.std.specs.List.{AllZip}
use Rattle.std.specs.Option.{option_map_or}
use Rattle.std.proofs.lemmas.List.{length-append, length-map}
use Rattle.std.proofs.lemmas.List.Elements.{All-nil, All-cons, All-same, All-weaker}
use Rattle.std.proofs.lemmas.Option.{slice_get_within}
use Rattle.ir_types.specs.declared.syntax.Operand.TheVariants.{Const, Reg}
use Rattle.ir_types.specs.declared.syntax.Variable.TheVariants.{Local}
use Rattle.ir_types.specs.declared.syntax.Kind.TheVariants.{Load, Store}
use Rattle.ir_types.specs.declared.syntax.Instr.{Instr}
use Rattle.ir_types.specs.declared.syntax.Function.{Function}
use Rattle.point_graph.specs.Graph.{Point, Place, Edge, Inside, Slot}
use Rattle.expressions.specs.declared.syntax.Expr.{Expr}
use Rattle.applied.specs.Motion.{Move}
use Rattle.applied.specs.Applied.{IsInserted, copied, stores, is_stored, store_to, temporaries}
use Rattle.applied.proofs.Fitting.{length_zip}
use Rattle.changes.specs.declared.lists.Action.{Action}
use Rattle.changes.specs.declared.lists.Action.TheVariants.{Loads, Stores}
use Rattle.changes.specs.declared.lists.BlockChanges.{BlockChanges}
use Rattle.changes.specs.declared.lists.Changes.{Changes}
use Rattle.changes.specs.Changed.{inserted_on, action_of, inserting, acted, added, IsAction, IsTemp, HasPlan}
use Rattle.block_text.specs.ByChanges.{Given, given, AreBounded}

-- ---- numbers of edges

pub inside_small : (g : Given) (b k : ℕ) (block : BlockChanges) → AreBounded g → 0 < length (inserted_on g.changes (Inside b k)) → Some block ≡ slice_get g.changes.blocks b
    → block.first_edge + k < 2 ^ 32
inside_small g b k block bounded some is =
    subst (λ o. option_map_or (λ (x : BlockChanges). x.first_edge + k) o 0 < 2 ^ 32) (sym is) (bounded.numbers_small (Inside b k) some)

pub slot_small : (g : Given) (b slot : ℕ) (block : BlockChanges) → AreBounded g → 0 < length (inserted_on g.changes (Slot b slot)) → Some block ≡ slice_get g.changes.blocks b
    → block.first_slot + slot < 2 ^ 32
slot_small g b slot block bounded some is =
    subst (λ o. option_map_or (λ (x : BlockChanges). x.first_slot + slot) o 0 < 2 ^ 32) (sym is) (bounded.numbers_small (Slot b slot) some)

contains_more : (x y : Move) (xs : List Move) → Contains xs x → Contains (y ∷ xs) x
contains_more x y xs c = (suc c.0, omega (arith, c.1), c.2)

some_inserted : (j : ℕ) (edge : Edge) (moves : List Move) → 0 < length (inserting j edge moves) → IsInserted moves edge
some_inserted j edge [] some = absurd (omega (arith, some))
some_inserted j edge (move ∷ moves) some = by (move.inserted edge) refl some (λ h. some_inserted (suc j) edge moves h)
  where
    by : (q : Bool) → move.inserted edge ≡ q → 0 < length ((if q then j ∷ [] else []) ++ inserting (suc j) edge moves)
        → (0 < length (inserting (suc j) edge moves) → IsInserted moves edge) → IsInserted (move ∷ moves) edge
    by true is h rest = record { move = move; among = (0, omega arith, refl); inserted = is }
    by false is h rest = let r = rest h in record { move = r.move; among = contains_more r.move move moves r.among; inserted = r.inserted }

-- ---- temporaries

abbrev Below : ℕ → ℕ → Type 0
Below n i = i < n

below_more : (j n : ℕ) (xs : List ℕ) → All (Below (suc j + n)) xs → All (Below (j + suc n)) xs
below_more j n xs all = All-weaker (Below (suc j + n)) (Below (j + suc n)) (λ i h. omega (arith, h)) xs all

inserting_there : (j : ℕ) (edge : Edge) (moves : List Move) → All (Below (j + length moves)) (inserting j edge moves)
inserting_there j edge [] = All-nil (Below (j + 0))
inserting_there j edge (move ∷ moves) = by (move.inserted edge) (inserting_there (suc j) edge moves)
  where
    by : (q : Bool) → All (Below (suc j + length moves)) (inserting (suc j) edge moves) → All (Below (j + suc (length moves))) ((if q then j ∷ [] else []) ++ inserting (suc j) edge moves)
    by true rest = All-cons (Below (j + suc (length moves))) j (inserting (suc j) edge moves) (omega arith) (below_more j (length moves) (inserting (suc j) edge moves) rest)
    by false rest = below_more j (length moves) (inserting (suc j) edge moves) rest

exprs_there : (exprs : List Expr) (temps : List ℕ) (moves : List Move) → AllZip (IsTemp exprs) temps moves → All (λ x. x < length exprs) temps
exprs_there exprs [] moves zip = All-nil (λ x. x < length exprs)
exprs_there exprs (x ∷ temps) [] zip = absurd zip
exprs_there exprs (x ∷ temps) (move ∷ moves) zip =
    All-cons (λ y. y < length exprs) x temps (slice_get_within exprs x move.expr zip.0.expr) (exprs_there exprs temps moves zip.1)

-- ---- actions

abbrev zero_store : Instr
zero_store = record { result = None; kind = Store (Const 0) (Local 0) }

abbrev load_of : ℕ → Instr
load_of temp = record { result = None; kind = Load (Local temp) }

loaded_there : (temp t : ℕ) (v : Point) (moves : List Move) → (copied temp (λ r. r) v zero_store moves).kind ≡ Load (Local t) → t < temp + length moves
loaded_there temp t v [] is = absurd cc
loaded_there temp t v (move ∷ moves) is = by (move.deleted v) is (λ h. loaded_there (suc temp) t v moves h)
  where
    by : (q : Bool) → (if q then load_of temp else copied (suc temp) (λ r. r) v zero_store moves).kind ≡ Load (Local t)
        → ((copied (suc temp) (λ r. r) v zero_store moves).kind ≡ Load (Local t) → t < suc temp + length moves) → t < temp + suc (length moves)
    by true h rest = let same : temp ≡ t = cc in omega (arith, same)
    by false h rest = omega (arith, rest h)

stored_there : (temp n t b k : ℕ) (moves : List Move) (others : List Instr) → stores temp n b k moves ≡ store_to n t ∷ others → t < temp + length moves
stored_there temp n t b k [] others is = absurd cc
stored_there temp n t b k (move ∷ moves) others is = by (is_stored move b k) is (λ h. stored_there (suc temp) n t b k moves others h)
  where
    by : (q : Bool) → (if q then store_to n temp ∷ [] else []) ++ stores (suc temp) n b k moves ≡ store_to n t ∷ others
        → (stores (suc temp) n b k moves ≡ store_to n t ∷ others → t < suc temp + length moves) → t < temp + suc (length moves)
    by true h rest =
        let same : store_to n temp ≡ store_to n t = cc in
        let kinds : Store (Reg n) (Local temp) ≡ Store (Reg n) (Local t) = ap (λ i. i.kind) same in
        let temps : temp ≡ t = cc in
        omega (arith, temps)
    by false h rest = omega (arith, rest h)

load_bound : (moves : List Move) (b k j : ℕ) (action : Action) → IsAction moves b k action → action ≡ Loads j → j < length moves
load_bound moves b k j action is same =
    let h : (copied 0 (λ r. r) (Place b k) zero_store moves).kind ≡ Load (Local (0 + j)) =
    ap (λ i. i.kind) (is.copies 0 (λ r. r) zero_store ∙ ap (λ a. acted a 0 (λ r. r) zero_store) same) in
    omega (arith, loaded_there 0 (0 + j) (Place b k) moves h)

store_bound : (moves : List Move) (b k j : ℕ) (action : Action) → IsAction moves b k action → action ≡ Stores j → j < length moves
store_bound moves b k j action is same =
    let h : stores 0 0 b k moves ≡ store_to 0 (0 + j) ∷ [] = is.adds 0 0 ∙ ap (λ a. added a 0 0) same in
    omega (arith, stored_there 0 0 (0 + j) b k moves [] h)

-- ---- all of it

vars_few : (f : Function) (exprs : List Expr) (c : Changes) (has : HasPlan f exprs c) → length f.vars + length has.plan.moves < 2 ^ 32
vars_few f exprs c has =
    let more = temporaries has.plan.naming has.plan.moves in
    let n : length more ≡ length has.plan.moves = length-map has.plan.moves _ in
    omega (arith, has.few, length-append f.vars more, n)

pub vars_small : (f : Function) (exprs : List Expr) (c : Changes) → HasPlan f exprs c → length f.vars < 2 ^ 32
vars_small f exprs c has = omega (arith, vars_few f exprs c has)

pub bounded : (f : Function) (exprs : List Expr) (c : Changes) → HasPlan f exprs c → AreBounded (given f exprs c)
bounded f exprs c has =
    let plan = has.plan in
    let are = has.are_changes in
    let same : length c.temps ≡ length plan.moves = length_zip (IsTemp exprs) c.temps plan.moves are.temps in
    record {
      few = omega (arith, same, vars_few f exprs c has);
      exprs_there = exprs_there exprs c.temps plan.moves are.temps;
      inserted_there = λ edge.
          All-same (λ j. j < length c.temps) (inserted_on c edge) (inserting 0 edge plan.moves) (are.edges edge)
          (All-weaker (Below (0 + length plan.moves)) (λ j. j < length c.temps) (λ i h. omega (arith, h, same)) (inserting 0 edge plan.moves) (inserting_there 0 edge plan.moves));
      loaded_there = λ b k j is. omega (arith, same, load_bound plan.moves b k j (action_of c b k) (are.places b k) is);
      stored_there = λ b k j is. omega (arith, same, store_bound plan.moves b k j (action_of c b k) (are.places b k) is);
      numbers_small = λ edge some.
          let inserted = some_inserted 0 edge plan.moves (subst (λ l. 0 < length l) (are.edges edge) some) in
          subst (λ n. n < 2 ^ 32) (are.numbers edge inserted) (has.is_plan.edge_numbers edge inserted);
    }

-- what is inserted on an edge
pub all_there : (g h : Given) (edge : Edge) (temps : List ℕ) → g ≡ h → AreBounded g → temps ≡ inserted_on h.changes edge → All (λ j. j < length h.changes.temps) temps
all_there g h edge temps same is_bounded is =
    let here = subst AreBounded same is_bounded in All-same (λ j. j < length h.changes.temps) temps (inserted_on h.changes edge) is (here.inserted_there edge)
