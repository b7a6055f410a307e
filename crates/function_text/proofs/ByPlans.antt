-- What the changes of a plan say is what the plan says.
use Rattle.std.proofs.Common.{◌≡◌, ℕ, zero, suc, ◌+◌, ◌^◌, ◌<◌, Bool, true, false, if◌then◌else◌, List, [], ◌∷◌, ◌++◌, length, Option, Some, None, refl, sym, ap, ◌∙◌, arith}
use Rattle.std.specs.Prelude.{Contains, slice_get}
use Rattle.std.specs.Option.{option_map_or}
use Rattle.ir_types.specs.WellFormed.{size, item_limit, targets}
use Rattle.ir_types.specs.declared.syntax.Terminator.{Terminator}
use Rattle.ir_types.specs.declared.syntax.Block.{Block}
use Rattle.ir_types.specs.declared.syntax.Function.{Function}
use Rattle.point_graph.specs.Graph.{Edge, Slot}
use Rattle.expressions.specs.declared.syntax.Expr.{Expr}
use Rattle.applied.specs.Motion.{Move}
use Rattle.applied.specs.Applied.{Plan, IsPlan, IsInserted, has_groups, is_single, splits_before}
use Rattle.applied.specs.Built.{applied_function, home_from, layout_of}
use Rattle.applied.proofs.Building.{length_blocks}
use Rattle.changes.specs.Changed.{AreChanges, HasPlan, inserted_on, inserting, listed, number_of_edge}
use Rattle.changes.specs.declared.lists.Changes.{Changes}
use Rattle.changes.specs.declared.lists.BlockChanges.{BlockChanges}
use Rattle.function_text.specs.ByChanges.{is_filled, is_split, split_count, slot_lists, new_count, new_count_from, homes_from}

-- what is inserted on a slot is what the list of its block has for it
pub on_slot : (c : Changes) (b slot : ℕ) → inserted_on c (Slot b slot) ≡ listed (slot_lists c b) slot
on_slot c b slot = by (slice_get c.blocks b)
  where
    by : (o : Option BlockChanges) → option_map_or (λ block. listed block.slots slot) o [] ≡ listed (option_map_or (λ block. block.slots) o []) slot
    by None = refl
    by (Some block) = refl

-- something is inserted on an edge where the list isn't empty
pub filled_inserting : (j : ℕ) (edge : Edge) (moves : List Move) → is_filled (inserting j edge moves) ≡ has_groups edge moves
filled_inserting j edge [] = refl
filled_inserting j edge (move ∷ moves) = by (move.inserted edge) (filled_inserting (suc j) edge moves)
  where
    by : (q : Bool) → is_filled (inserting (suc j) edge moves) ≡ has_groups edge moves
        → is_filled ((if q then j ∷ [] else []) ++ inserting (suc j) edge moves) ≡ (if q then true else has_groups edge moves)
    by true e = refl
    by false e = e

contains_more : (x y : Move) (xs : List Move) → Contains xs x → Contains (y ∷ xs) x
contains_more x y xs c = (suc c.0, omega (arith, c.1), c.2)

-- an edge with groups is one where a move inserts
pub groups_inserted : (edge : Edge) (moves : List Move) → has_groups edge moves ≡ true → IsInserted moves edge
groups_inserted edge [] e = absurd cc
groups_inserted edge (move ∷ moves) e = by (move.inserted edge) refl e (λ e'. groups_inserted edge moves e')
  where
    by : (q : Bool) → move.inserted edge ≡ q → (if q then true else has_groups edge moves) ≡ true → (has_groups edge moves ≡ true → IsInserted moves edge) → IsInserted (move ∷ moves) edge
    by true is e rest = record { move = move; among = (0, omega arith, refl); inserted = is }
    by false is e rest = let r = rest e in record { move = r.move; among = contains_more r.move move moves r.among; inserted = r.inserted }

abbrev one_if : Bool → ℕ
one_if q = if q then 1 else 0

module _ {plan : Plan} {exprs : List Expr} {c : Changes} (changes : AreChanges plan exprs c) where
  pub filled_groups : (edge : Edge) → is_filled (inserted_on c edge) ≡ has_groups edge plan.moves
  filled_groups edge = ap is_filled (changes.edges edge) ∙ filled_inserting 0 edge plan.moves

  pub split_groups : (b slot : ℕ) (term : Terminator) → is_split (slot_lists c b) term slot ≡ (if is_single term then false else has_groups (Slot b slot) plan.moves)
  split_groups b slot term =
      ap (λ q. if is_single term then false else q) (ap is_filled (sym (on_slot c b slot)) ∙ filled_groups (Slot b slot))

  one_split : (b slot : ℕ) (term : Terminator)
      → one_if (is_split (slot_lists c b) term slot) ≡ (if is_single term then 0 else one_if (has_groups (Slot b slot) plan.moves))
  one_split b slot term = ap one_if (split_groups b slot term) ∙ by (is_single term)
    where
      by : (single : Bool) → one_if (if single then false else has_groups (Slot b slot) plan.moves) ≡ (if single then 0 else one_if (has_groups (Slot b slot) plan.moves))
      by true = refl
      by false = refl

  pub count_splits : (b : ℕ) (term : Terminator) (slot : ℕ) → split_count (slot_lists c b) term slot ≡ splits_before b slot term plan.moves
  count_splits b term zero = refl
  count_splits b term (suc slot) = omega (arith, count_splits b term slot, one_split b slot term)

  pub count_homes : (b : ℕ) (blocks : List Block) → new_count_from c b blocks ≡ home_from plan.moves b blocks (length blocks)
  count_homes b [] = refl
  count_homes b (block ∷ blocks) = omega (arith, count_splits b block.term (length (targets block.term)), count_homes (suc b) blocks)

  -- where the blocks stand
  pub home_there : (n b : ℕ) (blocks : List Block) (j : ℕ) → j < length blocks → slice_get (homes_from c n b blocks) j ≡ Some (n + home_from plan.moves b blocks j)
  home_there n b [] j lt = absurd (omega (arith, lt))
  home_there n b (block ∷ blocks) zero lt = let e : n ≡ n + 0 = omega arith in ap (λ k. Some k) e
  home_there n b (block ∷ blocks) (suc j) lt =
      let e : n + new_count c b block + home_from plan.moves (suc b) blocks j ≡ n + home_from plan.moves b (block ∷ blocks) (suc j) = omega (arith, count_splits b block.term (length (targets block.term))) in
      home_there (n + new_count c b block) (suc b) blocks j (omega (arith, lt)) ∙ ap (λ k. Some k) e

  -- the number of an edge where something is inserted
  pub edge_named : (edge : Edge) → is_filled (inserted_on c edge) ≡ true → plan.naming.edge_number edge ≡ number_of_edge c edge
  edge_named edge e = changes.numbers edge (groups_inserted edge plan.moves (sym (filled_groups edge) ∙ e))

  pub edge_fits : {f : Function} → IsPlan f plan → (edge : Edge) → is_filled (inserted_on c edge) ≡ true → number_of_edge c edge < 2 ^ 32
  edge_fits is edge e =
      let inserted = groups_inserted edge plan.moves (sym (filled_groups edge) ∙ e) in
      omega (arith, is.edge_numbers edge inserted, changes.numbers edge inserted)

  -- the blocks of a function that does not become too large
  pub few_new : (f : Function) → size (applied_function plan f) < item_limit → new_count_from c 0 f.blocks < 2 ^ 32
  few_new f few =
      omega (arith, few, count_homes 0 f.blocks, length_blocks plan.naming plan.moves (length f.vars) (layout_of plan.moves f.blocks) f.blocks 0)

-- by any plan of the changes
module _ {f : Function} {exprs : List Expr} {c : Changes} (has : HasPlan f exprs c) where
  pub numbered : (edge : Edge) → is_filled (inserted_on c edge) ≡ true → number_of_edge c edge < 2 ^ 32
  numbered edge e = edge_fits has.are_changes has.is_plan edge e

  pub few_blocks : new_count_from c 0 f.blocks < 2 ^ 32
  few_blocks = few_new has.are_changes f has.few
