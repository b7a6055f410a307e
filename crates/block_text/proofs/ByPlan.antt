-- The text by the changes alone is the text by the plan whose changes they are.
use Rattle.std.proofs.Common.{◌≡◌, ℕ, zero, suc, ◌+◌, Bool, true, false, List, [], ◌∷◌, ◌++◌, length, map, Some, refl, sym, ap, ◌∙◌, arith}
use Rattle.std.specs.Prelude.{slice_get, if◌then◌else◌}
use Rattle.std.specs.List.{AllZip, range_with_len}
use Rattle.ir_types.specs.declared.name.Made.TheVariants.{Sum, Operand as MadeOperand}
use Rattle.ir_types.specs.declared.name.Name.TheVariants.{Made}
use Rattle.ir_types.specs.declared.syntax.Kind.TheVariants.{Compute}
use Rattle.ir_types.specs.declared.syntax.Instr.{Instr}
use Rattle.ir_types.specs.declared.syntax.Block.{Block}
use Rattle.ir_types.specs.declared.syntax.Function.{Function}
use Rattle.point_graph.specs.Graph.{Place, Edge}
use Rattle.expressions.specs.declared.syntax.Arg.{Arg}
use Rattle.expressions.specs.declared.syntax.Expr.{Expr}
use Rattle.applied.specs.Motion.{Move}
use Rattle.applied.specs.Applied.{Naming, Plan, IsInserted, arg_load, arg_loads, arg_operands, store_to, group, groups, groups_along, edges_before, copied, stores}
use Rattle.applied.specs.Built.{start_of, number_of, text_from}
use Rattle.changes.specs.declared.lists.Changes.{Changes}
use Rattle.changes.specs.Changed.{number_of_edge, action_of, inserting, acted, added, IsTemp, AreChanges}
use Rattle.block_text.specs.ByChanges.{Given, given, IsText, loads, expr_group, temp_group, temp_groups, edge_groups, along, before, start, number, copies, text}
use Rattle.block_text.specs.Texts.{IsGroups, IsNewText}
use Rattle.block_text.specs.declared.text.NewText.{NewText}
use Rattle.block_text.proofs.Steps.{temp_group_is}

-- ---- one group

loads_are : (naming : Naming) (x p i : ℕ) (args : List Arg) → arg_loads naming x p i args ≡ loads naming.prefix x p i args
loads_are naming x p i [] = refl
loads_are naming x p i (arg ∷ args) = ap (λ l. arg_load (Made naming.prefix (MadeOperand x p i)) arg ++ l) (loads_are naming x p (suc i) args)

group_is : (naming : Naming) (edge : Edge) (n temp : ℕ) (move : Move) → group naming edge n temp move ≡ expr_group naming.prefix (naming.edge_number edge) n temp move.number move.expr
group_is naming edge n temp move =
    let p = naming.edge_number edge in
    let operation : Instr = record { result = Some (Made naming.prefix (Sum move.number p)); kind = Compute move.expr.op (arg_operands n move.expr.args) } in
    ap (λ l. l ++ operation ∷ store_to (n + length l) temp ∷ []) (loads_are naming move.number p 0 move.expr.args)

-- the temporary j + i is that of the move i
abbrev AreTemps : Given → ℕ → List Move → Type 0
AreTemps g j moves =
    (i : ℕ) (move : Move) → slice_get moves i ≡ Some move → (slice_get g.changes.temps (j + i) ≡ Some move.number) × (slice_get g.exprs move.number ≡ Some move.expr)

temps_are : (exprs : List Expr) (temps : List ℕ) (moves : List Move) → AllZip (IsTemp exprs) temps moves
    → (i : ℕ) (move : Move) → slice_get moves i ≡ Some move → (slice_get temps i ≡ Some move.number) × (slice_get exprs move.number ≡ Some move.expr)
temps_are exprs [] [] zip i move is = absurd cc
temps_are exprs [] (m ∷ moves) zip i move is = absurd zip
temps_are exprs (x ∷ temps) [] zip i move is = absurd zip
temps_are exprs (x ∷ temps) (m ∷ moves) zip zero move is =
    let same : m ≡ move = cc in (
      ap Some (sym zip.0.number ∙ ap (λ y. y.number) same),
      ap (λ y. slice_get exprs y) (ap (λ y. y.number) (sym same) ∙ zip.0.number) ∙ zip.0.expr ∙ ap (λ y. Some y.expr) same,
    )
temps_are exprs (x ∷ temps) (m ∷ moves) zip (suc i) move is = temps_are exprs temps moves zip.1 i move is

-- ---- the groups of an edge

module _ (g : Given) (naming : Naming) (edge : Edge) (p : ℕ) (same_prefix : naming.prefix ≡ g.changes.prefix) where
  group_here : (j n : ℕ) (move : Move) → naming.edge_number edge ≡ p → slice_get g.changes.temps j ≡ Some move.number → slice_get g.exprs move.number ≡ Some move.expr
      → group naming edge n (g.vars + j) move ≡ temp_group g p n j
  group_here j n move same is there =
      group_is naming edge n (g.vars + j) move
      ∙ ap (λ q. expr_group q (naming.edge_number edge) n (g.vars + j) move.number move.expr) same_prefix
      ∙ ap (λ q. expr_group g.changes.prefix q n (g.vars + j) move.number move.expr) same
      ∙ sym (temp_group_is g p n j move.number move.expr is there)

  groups_are : (n j : ℕ) (moves : List Move) → ((i : ℕ) (move : Move) → slice_get moves i ≡ Some move → move.inserted edge ≡ true → naming.edge_number edge ≡ p) → AreTemps g j moves
      → groups naming n (g.vars + j) edge moves ≡ temp_groups g p n (inserting j edge moves)
  groups_are n j [] numbered temps = refl
  groups_are n j (move ∷ moves) numbered temps =
      by (move.inserted edge) refl
      (λ m.
      ap (λ t. groups naming m t edge moves) (let same : suc (g.vars + j) ≡ g.vars + suc j = omega arith in same)
      ∙ groups_are m (suc j) moves (λ i other is inserted. numbered (suc i) other is inserted)
      (λ i other is. let t = temps (suc i) other is in (ap (slice_get g.changes.temps) (let same : suc j + i ≡ j + suc i = omega arith in same) ∙ t.0, t.1)))
    where
      by : (q : Bool) → move.inserted edge ≡ q → ((m : ℕ) → groups naming m (suc (g.vars + j)) edge moves ≡ temp_groups g p m (inserting (suc j) edge moves))
          → (let here = if q then group naming edge n (g.vars + j) move else [] in here ++ groups naming (n + length here) (suc (g.vars + j)) edge moves)
          ≡ temp_groups g p n ((if q then j ∷ [] else []) ++ inserting (suc j) edge moves)
      by true is later =
          let t = temps 0 move refl in
          let here = group_here j n move (numbered 0 move refl is) (ap (slice_get g.changes.temps) (let same : j ≡ j + 0 = omega arith in same) ∙ t.0) t.1 in
          ap (λ l. l ++ groups naming (n + length l) (suc (g.vars + j)) edge moves) here
          ∙ ap (λ l. temp_group g p n j ++ l) (later (n + length (temp_group g p n j)))
      by false is later =
          ap (λ m. groups naming m (suc (g.vars + j)) edge moves) (let same : n + 0 ≡ n = omega arith in same) ∙ later n

-- ---- a block

among : (moves : List Move) (i : ℕ) (move : Move) (edge : Edge) → slice_get moves i ≡ Some move → move.inserted edge ≡ true → IsInserted moves edge
among [] i move edge is inserted = absurd cc
among (m ∷ moves) zero move edge is inserted = let same : m ≡ move = cc in record { move = m; among = (0, omega arith, refl); inserted = ap (λ x. x.inserted edge) same ∙ inserted }
among (m ∷ moves) (suc i) move edge is inserted =
    let r = among moves i move edge is inserted in record { move = r.move; among = (suc r.among.0, omega (arith, r.among.1), r.among.2); inserted = r.inserted }

module _ (f : Function) (exprs : List Expr) (c : Changes) (plan : Plan) (are : AreChanges plan exprs c) where
  abbrev g : Given
  g = given f exprs c

  abbrev vars : ℕ
  vars = length f.vars

  edge_is : (edge : Edge) (n : ℕ) → groups plan.naming n vars edge plan.moves ≡ edge_groups g n edge
  edge_is edge n =
      ap (λ t. groups plan.naming n t edge plan.moves) (let same : vars ≡ vars + 0 = omega arith in same)
      ∙ groups_are g plan.naming edge (number_of_edge c edge) are.prefix n 0 plan.moves
      (λ i move is inserted. are.numbers edge (among plan.moves i move edge is inserted))
      (λ i move is. let t = temps_are exprs c.temps plan.moves are.temps i move is in (ap (slice_get c.temps) (let same : 0 + i ≡ i = omega arith in same) ∙ t.0, t.1))
      ∙ ap (temp_groups g (number_of_edge c edge) n) (sym (are.edges edge))

  pub groups_is : (edge : Edge) (instrs : List Instr) → instrs ≡ edge_groups g 0 edge → IsGroups plan f edge instrs
  groups_is edge instrs is = is ∙ sym (edge_is edge 0)

  along_is : (edges : List Edge) (n : ℕ) → groups_along plan.naming n vars edges plan.moves ≡ along g n edges
  along_is [] n = refl
  along_is (edge ∷ edges) n =
      ap (λ here. here ++ groups_along plan.naming (n + length here) vars edges plan.moves) (edge_is edge n)
      ∙ ap (λ l. edge_groups g n edge ++ l) (along_is edges (n + length (edge_groups g n edge)))

  module _ (b : ℕ) (block : Block) where
    abbrev start' : ℕ → ℕ
    start' = start_of plan.naming plan.moves vars b block

    abbrev number' : ℕ → ℕ
    number' = number_of plan.naming plan.moves vars b block

    number_by : (k : ℕ) → start' k ≡ start g b block k → number' k ≡ number g b block k
    number_by k same =
        ap (λ n. n + length (groups_along plan.naming n vars (edges_before b k block) plan.moves)) same
        ∙ ap (λ l. start g b block k + length l) (along_is (edges_before b k block) (start g b block k))

    start_is : (k : ℕ) → start' k ≡ start g b block k
    start_is zero = refl
    start_is (suc k) =
        ap (λ m. suc m + length (stores vars m b k plan.moves)) (number_by k (start_is k))
        ∙ ap (λ l. suc (number g b block k) + length l) ((are.places b k).adds vars (number g b block k))

    number_is : number' ≡ number g b block
    number_is = λ i. λ k. number_by k (start_is k) i

    before_is : (k : ℕ) → groups_along plan.naming (start' k) vars (edges_before b k block) plan.moves ≡ before g b block k (start g b block k)
    before_is k =
        ap (λ n. groups_along plan.naming n vars (edges_before b k block) plan.moves) (start_is k) ∙ along_is (edges_before b k block) (start g b block k)

    copies_are : (k : ℕ) (instr : Instr) → (copied vars number' (Place b k) instr plan.moves ∷ stores vars (number' k) b k plan.moves) ≡ copies g b block k instr
    copies_are k instr =
        ap (λ i. i ∷ stores vars (number' k) b k plan.moves) ((are.places b k).copies vars number' instr)
        ∙ ap (λ l. acted (action_of c b k) vars number' instr ∷ l) ((are.places b k).adds vars (number' k))
        ∙ ap (λ (h : ℕ → ℕ). acted (action_of c b k) vars h instr ∷ added (action_of c b k) vars (h k)) number_is

    text_is : (k : ℕ) (instrs : List Instr) → text_from plan.naming plan.moves vars b block k instrs ≡ text g b block k instrs
    text_is k [] = before_is k
    text_is k (instr ∷ instrs) =
        ap (λ l. l ++ ((copied vars number' (Place b k) instr plan.moves ∷ stores vars (number' k) b k plan.moves) ++ text_from plan.naming plan.moves vars b block (suc k) instrs)) (before_is k)
        ∙ ap (λ l. before g b block k (start g b block k) ++ (l ++ text_from plan.naming plan.moves vars b block (suc k) instrs)) (copies_are k instr)
        ∙ ap (λ l. before g b block k (start g b block k) ++ (copies g b block k instr ++ l)) (text_is (suc k) instrs)

    pub new_text_is : (new : NewText) → IsText g b block new → IsNewText plan f b block new
    new_text_is new is = record {
      instrs = is.instrs ∙ sym (text_is 0 block.instrs);
      numbers = is.numbers ∙ ap (λ (h : ℕ → ℕ). map h (range_with_len 0 (length block.instrs))) (sym number_is);
    }
