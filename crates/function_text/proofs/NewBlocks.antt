-- The new text of one block, and of the blocks one after another.
use Rattle.std.proofs.Common.{◌≡◌, ℕ, suc, ◌+◌, ◌^◌, ◌<◌, List, [], ◌∷◌, ◌++◌, length, drop, Some, sym, ap, ◌∙◌, subst, arith, add-one, append_assoc}
use Rattle.std.specs.Prelude.{All, slice_get, slice_index}
use Rattle.std.proofs.lemmas.List.FromFn.{get_or-map-range_with_len, length-map-range_with_len}
use Rattle.std.proofs.lemmas.Option.{slice_get_within}
use Rattle.ir_types.specs.Program.{Program}
use Rattle.ir_types.specs.WellFormed.{IsBlockIn, IsFunctionIn, scope}
use Rattle.ir_types.specs.declared.name.Name.{Name}
use Rattle.ir_types.specs.declared.syntax.Instr.{Instr}
use Rattle.ir_types.specs.declared.syntax.Terminator.{Terminator}
use Rattle.ir_types.specs.declared.syntax.Block.{Block}
use Rattle.ir_types.specs.declared.syntax.Function.{Function}
use Rattle.flow_graph.specs.Slots.{slots_of}
use Rattle.expressions.specs.declared.syntax.Expr.{Expr}
use Rattle.applied.specs.Applied.{Plan, Layout, new_term}
use Rattle.applied.specs.Built.{layout_of, new_block, new_blocks, number_of, split_blocks}
use Rattle.changes.specs.Changed.{AreChanges, HasPlan}
use Rattle.changes.specs.declared.lists.Changes.{Changes}
use Rattle.block_text.specs.Texts.{IsNewText}
use Rattle.block_text.specs.declared.text.NewText.{NewText}
use Rattle.function_text.specs.ByChanges.{AreBelow, homes_from, leads_from, led, slot_lists, split_count}
use Rattle.function_text.proofs.Layouts.{left_at}
use Rattle.function_text.proofs.ByPlans.{few_blocks}
use Rattle.function_text.proofs.Rules.{block_in, few_slots, slots_within, term_below}
use Rattle.function_text.proofs.Homes.{count_homes_list, home_is, room_at}
use Rattle.function_text.proofs.Terms.{led_same, splits_are, term_led}

-- ---- one block

abbrev pub block_of : Name → List Instr → Terminator → Block
block_of name instrs term = record { name = name; instrs = instrs; term = term }

pub same_block : {name name' : Name} {instrs instrs' : List Instr} {term term' : Terminator} → name ≡ name' → instrs ≡ instrs' → term ≡ term' → block_of name instrs term ≡ block_of name' instrs' term'
same_block {name} {name'} {instrs} {instrs'} {term} {term'} e f g =
    ap (λ n. block_of n instrs term) e ∙ ap (λ l. block_of name' l term) f ∙ ap (λ t. block_of name' instrs' t) g

module _ {m : Program} {f : Function} {exprs : List Expr} {c : Changes} {homes : List ℕ} (rules : IsFunctionIn m f) (has : HasPlan f exprs c) (are : homes ≡ homes_from c 0 0 f.blocks) (b : ℕ) {block : Block} (there : slice_get f.blocks b ≡ Some block) where
  block_is : IsBlockIn (scope m f) block
  block_is = block_in b rules there

  pub home_there : b < length homes
  home_there = omega (arith, slice_get_within f.blocks b block there, count_homes_list f c are)

  pub ends_fit : slice_index homes b + 1 + split_count (slot_lists c b) block.term (length (slots_of block.term)) < 2 ^ 32
  ends_fit = omega (arith, room_at f c are b there, few_blocks has)

  pub targets_within : All (λ t. t < length homes) (slots_of block.term)
  targets_within =
      let count : length f.blocks ≡ length homes = sym (count_homes_list f c are) in
      subst (λ n. All (λ t. t < n) (slots_of block.term)) count (slots_within m f block_is)

  pub few_targets : length (slots_of block.term) < 2 ^ 32
  few_targets = few_slots block_is

  -- with the text of its instructions
  module _ {plan : Plan} {new : NewText} (changes : AreChanges plan exprs c) (text : IsNewText plan f b block new) where
    abbrev number : ℕ → ℕ
    number = number_of plan.naming plan.moves (length f.vars) b block

    numbers_count : length new.numbers ≡ length block.instrs
    numbers_count = ap length text.numbers ∙ length-map-range_with_len number 0 (length block.instrs)

    pub operands_below : AreBelow (length new.numbers) block.term
    operands_below = subst (λ n. AreBelow n block.term) (sym numbers_count) (term_below block_is)

    number_is : (r : ℕ) → r < length block.instrs → slice_index new.numbers r ≡ number r
    number_is r lt =
        let zero_more : 0 + r ≡ r = omega arith in
        ap (λ l. slice_index l r) text.numbers ∙ get_or-map-range_with_len number 0 (length block.instrs) r r 0 lt zero_more

    pub block_made : {leads : List ℕ} {term : Terminator} → leads ≡ leads_from (slot_lists c b) block.term homes (slice_index homes b + 1) 0 (slots_of block.term)
        → term ≡ led (slice_index new.numbers) leads block.term
        → term ≡ new_term number (layout_of plan.moves f.blocks) b block.term plan.moves
    block_made {leads} led_to is =
        let layout = layout_of plan.moves f.blocks in
        let home = home_is f c are changes in
        let first : slice_index homes b + 1 ≡ layout.home b + 1 = ap (λ n. n + 1) (home b (slice_get_within f.blocks b block there)) in
        is
        ∙ led_same new.numbers number (length block.instrs) number_is leads block.term (term_below block_is)
        ∙ ap (λ l. led number l block.term) led_to
        ∙ term_led changes layout b (slice_index homes b + 1) (length f.blocks) homes home number block.term
        (splits_are changes f b there (slice_index homes b + 1) first)
        (slots_within m f block_is)

-- ---- all blocks

module _ (plan : Plan) (vars : ℕ) (layout : Layout) (blocks : List Block) where
  abbrev pub blocks_at : ℕ → List Block
  blocks_at b = new_blocks plan.naming plan.moves vars layout b (drop b blocks)

  -- one block more, with those that split its slots
  pub more_blocks : (b : ℕ) (block new : Block) (built with_block next whole : List Block) → slice_get blocks b ≡ Some block
      → new ≡ new_block plan.naming plan.moves vars layout b block → with_block ≡ built ++ new ∷ []
      → next ≡ with_block ++ split_blocks plan.naming plan.moves vars layout b block.term
      → built ++ blocks_at b ≡ whole → next ++ blocks_at (b + 1) ≡ whole
  more_blocks b block new built with_block next whole there is e e' f =
      let splits = split_blocks plan.naming plan.moves vars layout b block.term in
      let rest = blocks_at (b + 1) in
      let left : blocks_at b ≡ new ∷ (splits ++ rest) =
      ap (new_blocks plan.naming plan.moves vars layout b) (left_at blocks b block there)
      ∙ ap (λ x. x ∷ (splits ++ new_blocks plan.naming plan.moves vars layout (suc b) (drop (suc b) blocks))) (sym is)
      ∙ ap (λ j. new ∷ (splits ++ blocks_at j)) (sym (add-one b))
      in
      ap (λ l. l ++ rest) (e' ∙ ap (λ l. l ++ splits) e)
      ∙ append_assoc (built ++ new ∷ []) splits rest
      ∙ append_assoc built (new ∷ []) (splits ++ rest)
      ∙ ap (λ l. built ++ l) (sym left) ∙ f
