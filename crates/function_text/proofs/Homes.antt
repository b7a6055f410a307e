-- The list of the blocks' homes.
use Rattle.std.proofs.Common.{◌≡◌, ℕ, zero, suc, ◌+◌, ◌<◌, ◌≤◌, List, [], ◌∷◌, length, Some, refl, ap, ◌∙◌, arith}
use Rattle.std.specs.Prelude.{slice_get, slice_index}
use Rattle.std.proofs.lemmas.Option.{get_or_from_slice_get}
use Rattle.ir_types.specs.declared.syntax.Block.{Block}
use Rattle.ir_types.specs.declared.syntax.Function.{Function}
use Rattle.expressions.specs.declared.syntax.Expr.{Expr}
use Rattle.applied.specs.Applied.{Plan}
use Rattle.applied.specs.Built.{home_from, layout_of}
use Rattle.changes.specs.Changed.{AreChanges}
use Rattle.changes.specs.declared.lists.Changes.{Changes}
use Rattle.function_text.specs.ByChanges.{new_count, new_count_from, homes_from}
use Rattle.function_text.proofs.ByPlans.{home_there}

pub length-homes : (c : Changes) (n b : ℕ) (blocks : List Block) → length (homes_from c n b blocks) ≡ length blocks
length-homes c n b [] = refl
length-homes c n b (block ∷ blocks) = ap suc (length-homes c (n + new_count c b block) (suc b) blocks)

-- a block and its split blocks stand before the end
home_room : (c : Changes) (n b : ℕ) (blocks : List Block) (j : ℕ) (block : Block) → slice_get blocks j ≡ Some block
    → slice_index (homes_from c n b blocks) j + new_count c (b + j) block ≤ n + new_count_from c b blocks
home_room c n b [] j block there = absurd cc
home_room c n b (x ∷ blocks) zero block there =
    let same : x ≡ block = cc in
    let e : b + 0 ≡ b = omega arith in
    omega (arith, ap (λ k. new_count c k block) e, ap (new_count c b) same)
home_room c n b (x ∷ blocks) (suc j) block there =
    let e : suc b + j ≡ b + suc j = omega arith in
    omega (arith, home_room c (n + new_count c b x) (suc b) blocks j block there, ap (λ k. new_count c k block) e)

module _ (f : Function) (c : Changes) {homes : List ℕ} (are : homes ≡ homes_from c 0 0 f.blocks) where
  pub room_at : (b : ℕ) {block : Block} → slice_get f.blocks b ≡ Some block → slice_index homes b + new_count c b block ≤ new_count_from c 0 f.blocks
  room_at b {block} there =
      let e : 0 + b ≡ b = omega arith in
      omega (arith, home_room c 0 0 f.blocks b block there, ap (λ l. slice_index l b) are, ap (λ k. new_count c k block) e)

  pub count_homes_list : length homes ≡ length f.blocks
  count_homes_list = ap length are ∙ length-homes c 0 0 f.blocks

  pub home_is : {plan : Plan} {exprs : List Expr} → AreChanges plan exprs c → (j : ℕ) → j < length f.blocks → slice_index homes j ≡ (layout_of plan.moves f.blocks).home j
  home_is {plan} changes j lt =
      ap (λ l. slice_index l j) are
      ∙ get_or_from_slice_get (homes_from c 0 0 f.blocks) j (0 + home_from plan.moves 0 f.blocks j) 0 (home_there changes 0 0 f.blocks j lt)
      ∙ (let e : 0 + home_from plan.moves 0 f.blocks j ≡ home_from plan.moves 0 f.blocks j = omega arith in e)
