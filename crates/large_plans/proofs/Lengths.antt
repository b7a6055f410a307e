-- What groups, texts and blocks have at least: two instructions for each insertion.
use Rattle.std.proofs.Common.{◌≡◌, ℕ, suc, ◌+◌, ◌*◌, ◌≤◌, Bool, true, false, if◌then◌else◌, List, [], ◌∷◌, ◌++◌, length, Some, refl, arith, length-append}
use Rattle.std.specs.Prelude.{sum_by}
use Rattle.std.proofs.lemmas.List.Sums.{sum_by-cons, sum_by-append}
use Rattle.ir_types.specs.WellFormed.{targets}
use Rattle.ir_types.specs.declared.name.Made.TheVariants.{Sum}
use Rattle.ir_types.specs.declared.syntax.Kind.TheVariants.{Compute}
use Rattle.ir_types.specs.declared.syntax.Instr.{Instr}
use Rattle.ir_types.specs.declared.syntax.Block.{Block}
use Rattle.point_graph.specs.Graph.{Place, Edge, Slot}
use Rattle.applied.specs.Motion.{Move}
use Rattle.applied.specs.Applied.{Naming, made, arg_loads, arg_operands, copied, group, groups, groups_along, edges_before, store_to, stores, has_groups, Layout, is_single, split_block}
use Rattle.applied.specs.Built.{start_of, number_of, text_from, new_block, split_one, splits_from, split_blocks, new_blocks}
use Rattle.applied_rules.proofs.EdgeLists.{text_edges, split_edges, edges_from}

-- ---- how often something is inserted

-- how many of the expressions are inserted on the edge
abbrev inserted_on : Edge → List Move → ℕ
inserted_on edge [] = 0
inserted_on edge (move ∷ moves) = (if move.inserted edge then 1 else 0) + inserted_on edge moves

-- how many there are on all of these edges
abbrev pub insertions : List Edge → List Move → ℕ
insertions [] moves = 0
insertions (edge ∷ edges) moves = inserted_on edge moves + insertions edges moves

insertions_append : (xs ys : List Edge) (moves : List Move) → insertions (xs ++ ys) moves ≡ insertions xs moves + insertions ys moves
insertions_append [] ys moves = omega arith
insertions_append (x ∷ xs) ys moves = omega (arith, insertions_append xs ys moves)

-- on how many of the edges the expression is inserted
abbrev pub count_of : Move → List Edge → ℕ
count_of move [] = 0
count_of move (edge ∷ edges) = (if move.inserted edge then 1 else 0) + count_of move edges

pub insertions_one : (edges : List Edge) (move : Move) (moves : List Move) → insertions edges (move ∷ moves) ≡ count_of move edges + insertions edges moves
insertions_one [] move moves = refl
insertions_one (edge ∷ edges) move moves = omega (arith, insertions_one edges move moves)

-- where nothing is inserted there are no groups
none_on : (edge : Edge) (moves : List Move) → has_groups edge moves ≡ false → inserted_on edge moves ≡ 0
none_on edge [] none = refl
none_on edge (move ∷ moves) none = by (move.inserted edge) none (λ later. none_on edge moves later)
  where
    by : (q : Bool) → (if q then true else has_groups edge moves) ≡ false → (has_groups edge moves ≡ false → inserted_on edge moves ≡ 0) → (if q then 1 else 0) + inserted_on edge moves ≡ 0
    by true none rest = absurd cc
    by false none rest = omega (arith, rest none)

-- ---- groups

module _ (naming : Naming) where
  -- the operation and the store
  long_group : (edge : Edge) (n temp : ℕ) (move : Move) → 2 ≤ length (group naming edge n temp move)
  long_group edge n temp move =
      let p = naming.edge_number edge in
      let loads = arg_loads naming move.number p 0 move.expr.args in
      let operation : Instr = record { result = Some (made naming (Sum move.number p)); kind = Compute move.expr.op (arg_operands n move.expr.args) } in
      omega (arith, length-append loads (operation ∷ store_to (n + length loads) temp ∷ []))

  -- the groups of an edge, and of edges in a row
  long_groups : (edge : Edge) (n temp : ℕ) (moves : List Move) → 2 * inserted_on edge moves ≤ length (groups naming n temp edge moves)
  long_groups edge n temp [] = omega arith
  long_groups edge n temp (move ∷ moves) = by (move.inserted edge) (λ k. long_groups edge k (suc temp) moves)
    where
      by : (q : Bool) → ((k : ℕ) → 2 * inserted_on edge moves ≤ length (groups naming k (suc temp) edge moves))
          → 2 * ((if q then 1 else 0) + inserted_on edge moves) ≤ length ((if q then group naming edge n temp move else []) ++ groups naming (n + length (if q then group naming edge n temp move else [])) (suc temp) edge moves)
      by true rest =
          let here = group naming edge n temp move in
          omega (arith, length-append here (groups naming (n + length here) (suc temp) edge moves), long_group edge n temp move, rest (n + length here))
      by false rest = omega (arith, rest (n + 0))

  long_along : (edges : List Edge) (n temp : ℕ) (moves : List Move) → 2 * insertions edges moves ≤ length (groups_along naming n temp edges moves)
  long_along [] n temp moves = omega arith
  long_along (edge ∷ edges) n temp moves =
      let here = groups naming n temp edge moves in
      omega (arith, length-append here (groups_along naming (n + length here) temp edges moves), long_groups edge n temp moves, long_along edges (n + length here) temp moves)

-- ---- texts and blocks

-- how many instructions the blocks have
abbrev instr_count : List Block → ℕ
instr_count blocks = sum_by (λ b. length b.instrs) blocks

module _ (naming : Naming) (moves : List Move) (vars : ℕ) where
  -- the text of a block from a place on
  long_text : (b : ℕ) (block : Block) (k : ℕ) (instrs : List Instr) → 2 * insertions (text_edges b block k instrs) moves ≤ length (text_from naming moves vars b block k instrs)
  long_text b block k [] = long_along naming (edges_before b k block) (start_of naming moves vars b block k) vars moves
  long_text b block k (instr ∷ instrs) =
      let start = start_of naming moves vars b block k in
      let here = groups_along naming start vars (edges_before b k block) moves in
      let behind = stores vars (number_of naming moves vars b block k) b k moves in
      let rest = text_from naming moves vars b block (suc k) instrs in
      let copy = copied vars (number_of naming moves vars b block) (Place b k) instr moves in
      omega (
        arith,
        length-append here (copy ∷ (behind ++ rest)),
        length-append behind rest,
        long_along naming (edges_before b k block) start vars moves,
        long_text b block (suc k) instrs,
        insertions_append (edges_before b k block) (text_edges b block (suc k) instrs) moves,
      )

  -- the blocks that split slots
  long_split : (layout : Layout) (b : ℕ) (single : Bool) (slot target : ℕ) → 2 * insertions (if single then [] else Slot b slot ∷ []) moves ≤ instr_count (split_one naming moves vars layout b single slot target)
  long_split layout b true slot target = omega arith
  long_split layout b false slot target = by (has_groups (Slot b slot) moves) refl
    where
      by : (q : Bool) → has_groups (Slot b slot) moves ≡ q → 2 * (inserted_on (Slot b slot) moves + 0) ≤ instr_count (if q then split_block naming vars (Slot b slot) (layout.home target) moves ∷ [] else [])
      by true is = omega (arith, sum_by-cons (λ x. length x.instrs) (split_block naming vars (Slot b slot) (layout.home target) moves) [], long_groups naming (Slot b slot) 0 vars moves)
      by false is = omega (arith, none_on (Slot b slot) moves is)

  long_splits : (layout : Layout) (b : ℕ) (single : Bool) (slot : ℕ) (rest : List ℕ) → 2 * insertions (split_edges b single slot rest) moves ≤ instr_count (splits_from naming moves vars layout b single slot rest)
  long_splits layout b single slot [] = omega arith
  long_splits layout b single slot (target ∷ rest) =
      omega (
        arith,
        sum_by-append (λ x. length x.instrs) (split_one naming moves vars layout b single slot target) (splits_from naming moves vars layout b single (suc slot) rest),
        long_split layout b single slot target,
        long_splits layout b single (suc slot) rest,
        insertions_append (if single then [] else Slot b slot ∷ []) (split_edges b single (suc slot) rest) moves,
      )

  -- the blocks that come of these ones
  pub long_blocks : (layout : Layout) (b : ℕ) (blocks : List Block) → 2 * insertions (edges_from b blocks) moves ≤ instr_count (new_blocks naming moves vars layout b blocks)
  long_blocks layout b [] = omega arith
  long_blocks layout b (block ∷ blocks) =
      let new = new_block naming moves vars layout b block in
      let splits = split_blocks naming moves vars layout b block.term in
      let others = new_blocks naming moves vars layout (suc b) blocks in
      let text = text_edges b block 0 block.instrs in
      let slots = split_edges b (is_single block.term) 0 (targets block.term) in
      omega (
        arith,
        sum_by-cons (λ x. length x.instrs) new (splits ++ others),
        sum_by-append (λ x. length x.instrs) splits others,
        long_text b block 0 block.instrs,
        long_splits layout b (is_single block.term) 0 (targets block.term),
        long_blocks layout (suc b) blocks,
        insertions_append (text ++ slots) (edges_from (suc b) blocks) moves,
        insertions_append text slots moves,
      )
