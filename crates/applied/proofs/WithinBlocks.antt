-- The placement that looks at each block by itself is correct.
use Rattle.std.proofs.Common.{◌≡◌, ◌⊎◌, inl, inr, ⊎_elim, ℕ, zero, suc, ◌<◌, ◌≤◌, Bool, true, false, List, [], ◌∷◌, ◌++◌, length, Some, refl, sym, ap, ◌∙◌, subst, arith, append_assoc}
use Rattle.std.specs.Prelude.{slice_get, All}
use Rattle.std.proofs.lemmas.Bool.{cases_eq, cases_lt}
use Rattle.std.proofs.lemmas.List.{append-nil}
use Rattle.std.proofs.lemmas.Option.{slice_get_within}
use Rattle.ir_types.specs.Program.{Program}
use Rattle.ir_types.specs.declared.syntax.Variable.{Variable}
use Rattle.ir_types.specs.declared.syntax.Variable.TheVariants.{Local, Global}
use Rattle.ir_types.specs.declared.syntax.Kind.{Kind}
use Rattle.ir_types.specs.declared.syntax.Kind.TheVariants.{Load, Store, Compute, Call}
use Rattle.ir_types.specs.declared.syntax.Operand.{Operand}
use Rattle.ir_types.specs.declared.syntax.Instr.{Instr}
use Rattle.ir_types.specs.declared.syntax.Block.{Block}
use Rattle.ir_types.specs.declared.syntax.Function.{Function}
use Rattle.mc_num.specs.declared.op.Op.{Op}
use Rattle.point_graph.specs.Graph.{Point, Start, Head, Place, Edge, Entry, Inside, Slot, point_before, Joins, Hop, IsPath, IsReached}
use Rattle.expressions.specs.declared.syntax.Arg.{Arg}
use Rattle.expressions.specs.declared.syntax.Arg.TheVariants.{Const as ConstArg, Param as ParamArg, Var as VarArg}
use Rattle.expressions.specs.declared.syntax.Expr.{Expr}
use Rattle.applied.specs.Motion.{defined_in, ChangesVariable, ChangesArg, ChangesSome, OccursIn, Occurs, KillsIn, Kills, Met, at_point, on_edge, met, KillsMet, IsValid, Move, IsMove}
use Rattle.applied.specs.InBlocks.{IsFresh, IsBlockMove}
use Rattle.applied.proofs.Living.{not_true}

-- ---- whether an instruction kills

abbrev Decided : Type 0 → Type 0
Decided P = P ⊎ (¬ P)

same_variable : (x y : Variable) → Decided (x ≡ y)
same_variable (Local v) (Local w) = ⊎_elim (λ (e : v ≡ w). inl (ap (λ z. Local z) e)) (λ (n : v ≡ w → ⊥). inr (λ e. n (local_same v w e))) (cases_eq v w)
  where
    local_same : (v w : ℕ) → Local v ≡ Local w → v ≡ w
    local_same v w e = cc
same_variable (Global v) (Global w) = ⊎_elim (λ (e : v ≡ w). inl (ap (λ z. Global z) e)) (λ (n : v ≡ w → ⊥). inr (λ e. n (global_same v w e))) (cases_eq v w)
  where
    global_same : (v w : ℕ) → Global v ≡ Global w → v ≡ w
    global_same v w e = cc
same_variable (Local v) (Global w) = inr (λ e. cc)
same_variable (Global v) (Local w) = inr (λ e. cc)

is_false : (q : Bool) → ¬ (q ≡ true) → q ≡ false
is_false true n = absurd (n refl)
is_false false n = refl

is_true : (q : Bool) → Decided (q ≡ true)
is_true true = inl refl
is_true false = inr (λ e. cc)

variable_changes : (m : Program) (kind : Kind) (x : Variable) → Decided (ChangesVariable m kind x)
variable_changes m (Load y) x = inr (λ o. o)
variable_changes m (Store operand y) x = same_variable y x
variable_changes m (Compute op operands) x = inr (λ o. o)
variable_changes m (Call callee operands) (Local v) = inr (λ o. o)
variable_changes m (Call callee operands) (Global g) = is_true (defined_in m callee)

arg_changes : (m : Program) (kind : Kind) (arg : Arg) → Decided (ChangesArg m kind arg)
arg_changes m kind (ConstArg c) = inr (λ o. o)
arg_changes m kind (ParamArg p) = inr (λ o. o)
arg_changes m kind (VarArg x) = variable_changes m kind x

some_changes : (m : Program) (kind : Kind) (args : List Arg) → Decided (ChangesSome m kind args)
some_changes m kind [] = inr (λ o. o)
some_changes m kind (arg ∷ args) =
    ⊎_elim (λ (c : ChangesArg m kind arg). inl (inl c))
    (λ (n : ¬ ChangesArg m kind arg). ⊎_elim (λ (c : ChangesSome m kind args). inl (inr c)) (λ (n' : ¬ ChangesSome m kind args). inr (λ e. ⊎_elim n n' e)) (some_changes m kind args))
    (arg_changes m kind arg)

computing_changes : (m : Program) (op : Op) (operands : List Operand) (args : List Arg) → ¬ ChangesSome m (Compute op operands) args
computing_changes m op operands [] c = c
computing_changes m op operands (ConstArg n ∷ args) c = ⊎_elim (λ o. o) (computing_changes m op operands args) c
computing_changes m op operands (ParamArg p ∷ args) c = ⊎_elim (λ o. o) (computing_changes m op operands args) c
computing_changes m op operands (VarArg x ∷ args) c = ⊎_elim (λ o. o) (computing_changes m op operands args) c

-- an occurrence doesn't kill
pub occurrence_keeps : (m : Program) (function : Function) (e : Expr) (b k : ℕ) → OccursIn m function e b k → ¬ KillsIn m function e b k
occurrence_keeps m function e b k occurs kills =
    let blocks : occurs.block ≡ kills.block = let both : Some occurs.block ≡ Some kills.block = sym occurs.block_there ∙ kills.block_there in cc in
    let instrs : occurs.instr ≡ kills.instr = let both : Some occurs.instr ≡ Some kills.instr = sym occurs.here ∙ ap (λ x. slice_get x.instrs k) blocks ∙ kills.here in cc in
    computing_changes m e.op occurs.operands e.args (subst (λ kind. ChangesSome m kind e.args) (sym (ap (λ i. i.kind) instrs) ∙ occurs.computes) kills.changes)

-- ---- the last edge of a path

record LastHop (function : Function) (u : Point) (path : List Hop) (v : Point) : Type 0 where
  front : List Hop
  hop : Hop
  whole : path ≡ front ++ hop ∷ []
  leads : IsPath function u front hop.from
  joins : Joins function hop.edge hop.from hop.to
  ends : hop.to ≡ v

last_hop : (function : Function) (u : Point) (path : List Hop) (v : Point) → IsPath function u path v → (path ≡ []) ⊎ LastHop function u path v
last_hop function u [] v leads = inl refl
last_hop function u (hop ∷ path) v leads =
    ⊎_elim
    (λ (none : path ≡ []).
    let ends : hop.to ≡ v = subst (λ l. IsPath function hop.to l v) none leads.2 in
    inr (record { front = []; hop = hop; whole = ap (λ l. hop ∷ l) none; leads = leads.0; joins = leads.1; ends = ends }))
    (λ (more : LastHop function hop.to path v).
    inr (record { front = hop ∷ more.front; hop = more.hop; whole = ap (λ l. hop ∷ l) more.whole; leads = (leads.0, leads.1, more.leads); joins = more.joins; ends = more.ends }))
    (last_hop function hop.to path v leads.2)

met_append : (path rest : List Hop) → met (path ++ rest) ≡ met path ++ met rest
met_append [] rest = refl
met_append (hop ∷ path) rest = ap (λ l. at_point hop.from ∷ on_edge hop.edge ∷ l) (met_append path rest)

-- the edge into a place leads from the point before it
from_before : (function : Function) (edge : Edge) (u : Point) (b k : ℕ) → Joins function edge u (Place b k) → (u ≡ point_before b k) × (edge ≡ Inside b k)
from_before function Entry u b k joins = let e = joins.1 in absurd cc
from_before function (Inside c j) u b k joins =
    let same : Place b k ≡ Place c j = joins.ends in
    let blocks : c ≡ b = cc in
    let places : j ≡ k = cc in
    (joins.begins ∙ ap (λ x. point_before x j) blocks ∙ ap (point_before b) places, ap (λ x. Inside x j) blocks ∙ ap (Inside b) places)
from_before function (Slot c s) u b k joins = let e = joins.ends in absurd cc

-- a path to a place behind another comes from that one
record ComesFrom (function : Function) (path : List Hop) (b k : ℕ) : Type 0 where
  front : List Hop
  leads : IsPath function Start front (Place b k)
  meets : met path ≡ met front ++ at_point (Place b k) ∷ on_edge (Inside b (suc k)) ∷ []

comes_from : (function : Function) (path : List Hop) (b k : ℕ) → IsPath function Start path (Place b (suc k)) → ComesFrom function path b k
comes_from function path b k leads =
    ⊎_elim
    (λ (none : path ≡ []). let e : Start ≡ Place b (suc k) = subst (λ l. IsPath function Start l (Place b (suc k))) none leads in absurd cc)
    (λ (last : LastHop function Start path (Place b (suc k))).
    let joins = subst (Joins function last.hop.edge last.hop.from) last.ends last.joins in
    let back = from_before function last.hop.edge last.hop.from b (suc k) joins in
    record {
      front = last.front;
      leads = subst (IsPath function Start last.front) back.0 last.leads;
      meets = ap met last.whole ∙ met_append last.front (last.hop ∷ [])
          ∙ ap (λ u. met last.front ++ at_point u ∷ on_edge last.hop.edge ∷ []) back.0
          ∙ ap (λ edge. met last.front ++ at_point (Place b k) ∷ on_edge edge ∷ []) back.1;
    })
    (last_hop function Start path (Place b (suc k)) leads)

all_nil : (P : Met → Type 0) → All P []
all_nil P k d lt = absurd (omega (arith, lt))

all_cons : (P : Met → Type 0) (m : Met) (ms : List Met) → P m → All P ms → All P (m ∷ ms)
all_cons P m ms p all zero d lt = p
all_cons P m ms p all (suc k) d lt = all k d (omega (arith, lt))

all_append : (P : Met → Type 0) (xs ys : List Met) → All P xs → All P ys → All P (xs ++ ys)
all_append P [] ys all more = more
all_append P (x ∷ xs) ys all more = all_cons P x (xs ++ ys) (all zero x (omega arith)) (all_append P xs ys (λ k d lt. all (suc k) d (omega (arith, lt))) more)

-- ---- the placement

module _ (m : Program) (function : Function) (move : Move) (is : IsBlockMove m function move) where
  abbrev e : Expr
  e = move.expr

  abbrev Quiet : ℕ → ℕ → ℕ → Type 0
  Quiet b i k = (j : ℕ) → i ≤ j → j < k → (¬ Occurs m function e (Place b j)) × (¬ Kills m function e (Place b j))

  abbrev Unkilled : List Met → Type 0
  Unkilled ms = All (λ n. ¬ KillsMet m function e n) ms

  -- a path with this beginning and no kill behind it
  valid_behind : (path front : List Hop) (ms : List Met) → met path ≡ met front ++ ms → Unkilled ms → IsValid m function move front → IsValid m function move path
  valid_behind path front ms whole unkilled valid = record {
    before = valid.before;
    write = valid.write;
    after = valid.after ++ ms;
    split = whole ∙ ap (λ l. l ++ ms) valid.split ∙ append_assoc valid.before (valid.write ∷ valid.after) ms;
    writes = valid.writes;
    unkilled = all_append (λ n. ¬ KillsMet m function e n) valid.after ms valid.unkilled unkilled;
  }

  valid_by_write : (path front : List Hop) (b i : ℕ) (ms : List Met) → met path ≡ met front ++ at_point (Place b i) ∷ ms → Unkilled ms → move.kept (Place b i) ≡ true → IsValid m function move path
  valid_by_write path front b i ms whole unkilled kept = record {
    before = met front;
    write = at_point (Place b i);
    after = ms;
    split = whole;
    writes = kept;
    unkilled = unkilled;
  }

  -- where it stands, an event is known
  decided_kills : (b i : ℕ) (block : Block) (instr : Instr) → slice_get function.blocks b ≡ Some block → slice_get block.instrs i ≡ Some instr → Decided (Kills m function e (Place b i))
  decided_kills b i block instr there here =
      ⊎_elim (λ (c : ChangesSome m instr.kind e.args). inl (record { block = block; block_there = there; instr = instr; here = here; changes = c }))
      (λ (n : ¬ ChangesSome m instr.kind e.args). inr (λ kills.
      let blocks : kills.block ≡ block = let both : Some kills.block ≡ Some block = sym kills.block_there ∙ there in cc in
      let instrs : kills.instr ≡ instr = let both : Some kills.instr ≡ Some instr = sym kills.here ∙ ap (λ x. slice_get x.instrs i) blocks ∙ here in cc in
      n (subst (λ x. ChangesSome m x.kind e.args) instrs kills.changes)))
      (some_changes m instr.kind e.args)

  instr_found : (instrs : List Instr) (i : ℕ) → i < length instrs → (instr : Instr) × (slice_get instrs i ≡ Some instr)
  instr_found [] i lt = absurd (omega (arith, lt))
  instr_found (instr ∷ instrs) zero lt = (instr, refl)
  instr_found (instr ∷ instrs) (suc i) lt = instr_found instrs i (omega (arith, lt))

  -- the search for the last event before an occurrence that is deleted, back from the place i
  module _ (b k : ℕ) (path : List Hop) (leads : IsPath function Start path (Place b k)) (occurs : OccursIn m function e b k) (unkept : move.kept (Place b k) ≡ false) (within : k < length occurs.block.instrs) (before : (j : ℕ) → j < k → (front : List Hop) → move.deleted (Place b j) ≡ true → IsPath function Start front (Place b j) → IsValid m function move front) where
    kept_if_fresh : IsFresh m function e (Place b k) → ⊥
    kept_if_fresh fresh = not_true (move.kept (Place b k)) unkept ((is.kept_is (Place b k)).1 (record { path = path; leads = leads }, occurs, fresh))

    fresh_behind_kill : (i : ℕ) → i < k → Kills m function e (Place b i) → Quiet b (suc i) k → IsFresh m function e (Place b k)
    fresh_behind_kill i lt kills quiet j last =
        ⊎_elim
        (λ (below : j < i). absurd ((last.quiet i below lt).1 kills))
        (λ above. ⊎_elim
        (λ (same : j ≡ i). subst (λ n. Kills m function e (Place b n)) (sym same) kills)
        (λ (other : j ≡ i → ⊥).
        let between = quiet j (omega (arith, above, other)) last.before in
        absurd (⊎_elim between.0 between.1 last.event))
        (cases_eq j i))
        (cases_lt j i)

    search : (i : ℕ) → i ≤ k → (front : List Hop) (ms : List Met) → IsPath function Start front (Place b i) → met path ≡ met front ++ ms → Unkilled ms → Quiet b i k → IsValid m function move path
    search zero le front ms front_leads whole unkilled quiet =
        absurd (kept_if_fresh (λ j last. let nothing = quiet j (omega arith) last.before in absurd (⊎_elim nothing.0 nothing.1 last.event)))
    search (suc i) le front ms front_leads whole unkilled quiet =
        let back = comes_from function front b i front_leads in
        let rest = at_point (Place b i) ∷ on_edge (Inside b (suc i)) ∷ ms in
        let whole' : met path ≡ met back.front ++ rest =
        whole ∙ ap (λ l. l ++ ms) back.meets ∙ append_assoc (met back.front) (at_point (Place b i) ∷ on_edge (Inside b (suc i)) ∷ []) ms in
        let behind : Unkilled (on_edge (Inside b (suc i)) ∷ ms) = all_cons (λ n. ¬ KillsMet m function e n) (on_edge (Inside b (suc i))) ms (λ o. o) unkilled in
        let lt : i < k = omega (arith, le) in
        let instr = instr_found occurs.block.instrs i (omega (arith, lt, within)) in
        let reached : IsReached function (Place b i) = record { path = back.front; leads = back.leads } in
        ⊎_elim
        (λ (kept : move.kept (Place b i) ≡ true). valid_by_write path back.front b i (on_edge (Inside b (suc i)) ∷ ms) whole' behind kept)
        (λ (not_kept : ¬ (move.kept (Place b i) ≡ true)). ⊎_elim
        (λ (deleted : move.deleted (Place b i) ≡ true).
        let there = ((is.deleted_is (Place b i)).0 deleted).1 in
        valid_behind path back.front rest whole' (all_cons (λ n. ¬ KillsMet m function e n) (at_point (Place b i)) (on_edge (Inside b (suc i)) ∷ ms) (occurrence_keeps m function e b i there) behind)
        (before i lt back.front deleted back.leads))
        (λ (not_deleted : ¬ (move.deleted (Place b i) ≡ true)).
        let absent : ¬ Occurs m function e (Place b i) = λ o. not_deleted ((is.deleted_is (Place b i)).1 (reached, o, is_false (move.kept (Place b i)) not_kept)) in
        ⊎_elim
        (λ (kills : Kills m function e (Place b i)). absurd (kept_if_fresh (fresh_behind_kill i lt kills quiet)))
        (λ (alive : ¬ Kills m function e (Place b i)).
        search i (omega (arith, lt)) back.front rest back.leads whole'
        (all_cons (λ n. ¬ KillsMet m function e n) (at_point (Place b i)) (on_edge (Inside b (suc i)) ∷ ms) alive behind)
        (λ j from to. ⊎_elim (λ (later : i < j). quiet j (omega (arith, later)) to)
        (λ here. let same : i ≡ j = omega (arith, from, here) in subst (λ n. (¬ Occurs m function e (Place b n)) × (¬ Kills m function e (Place b n))) same (absent, alive))
        (cases_lt i j)))
        (decided_kills b i occurs.block instr.0 occurs.block_there instr.1))
        (is_true (move.deleted (Place b i))))
        (is_true (move.kept (Place b i)))

  -- by induction on the place
  valid_within : (bound b k : ℕ) → k < bound → (path : List Hop) → move.deleted (Place b k) ≡ true → IsPath function Start path (Place b k) → IsValid m function move path
  valid_within zero b k lt path deleted leads = absurd (omega (arith, lt))
  valid_within (suc bound) b k lt path deleted leads =
      let there = (is.deleted_is (Place b k)).0 deleted in
      search b k path leads there.1 there.2 (slice_get_within there.1.block.instrs k there.1.instr there.1.here)
      (λ j below front deleted' leads'. valid_within bound b j (omega (arith, lt, below)) front deleted' leads')
      k (omega arith) path [] leads (sym (append-nil (met path))) (all_nil (λ n. ¬ KillsMet m function e n)) (λ j from to. absurd (omega (arith, from, to)))

  correct : (v : Point) (path : List Hop) → move.deleted v ≡ true → IsPath function Start path v → IsValid m function move path
  correct Start path deleted leads = absurd ((is.deleted_is Start).0 deleted).1
  correct (Head b) path deleted leads = absurd ((is.deleted_is (Head b)).0 deleted).1
  correct (Place b k) path deleted leads = valid_within (suc k) b k (omega arith) path deleted leads

  pub block_move : IsMove m function move
  block_move = record {
    found_at = is.found_at;
    found = is.found;
    inserted_is = λ edge inserted. absurd (not_true (move.inserted edge) (is.inserted_is edge) inserted);
    kept_is = λ v kept. let all = (is.kept_is v).0 kept in (all.0, all.1);
    deleted_is = is.deleted_is;
    live_is = is.live_is;
    correct = correct;
    safe = λ traps edge u v joins inserted. absurd (not_true (move.inserted edge) (is.inserted_is edge) inserted);
  }
