use Rattle.std.proofs.Common.{◌≡◌, ◌<◌, ◌≤◌, ◌∷◌, ◌++◌, ◌∙◌, Some, true, false, [], length, ap, sym, arith}
use Rattle.std.proofs.lemmas.List.{append-nil}
use Rattle.flow_graph.specs.Slots.{slots_of}
use Rattle.applied.specs.Applied.{split_block}
use Rattle.applied.specs.Built.{layout_of, split_blocks}
use Rattle.point_graph.specs.Graph.{Slot}
use Rattle.function_text.specs.ByChanges.{is_split, slot_lists}
use Rattle.function_text.proofs.Layouts.{holds_at}
use Rattle.function_text.proofs.Rules.{block_in, few_slots, slots_within}
use Rattle.function_text.proofs.Homes.{count_homes_list, home_is}
use Rattle.function_text.proofs.SplitBlocks.{all_split, more_split, none_split, one_split}
use Rattle.function_text.proofs.splits.push_splits.Goals as goal
use Rattle.function_text.proofs.splits.push_splits.Goals.{then-is_split+in_ok-split_block+in_ok-push, else-is_split}

pub bounds-homes-target : goal.bounds-homes-target
bounds-homes-target c =
    let f = c.args.function.now in
    let is = block_in c.args.number c.requires.rules c.block_at.ensures in
    let within = holds_at (λ t. t < length f.blocks) (slots_of c.block_at.result.now.term) c.loop-slot.slot c.target.result (slots_within c.args.table.now.module_of f is) c.target.ensures in
    omega (arith, within, count_homes_list f c.args.changes.now c.requires.homes)

pub loop-slot-preserved : goal.loop-slot-preserved
loop-slot-preserved c = λ plan changes.
    let f = c.args.function.now in
    let vars = length f.vars in
    let layout = layout_of plan.moves f.blocks in
    let b = c.args.number in
    let term = c.block_at.result.now.term in
    let slots = slots_of term in
    let slot = c.loop-slot.slot in
    let lt : slot < length slots = omega arith in
    let lists = slot_lists c.args.changes.now b in
    let test : is_split lists term slot ≡ c.is_split.result = ap (λ l. is_split l term slot) (sym c.slot_lists-lists.ensures) ∙ sym c.is_split.ensures in
    elim c.if-is_split.branch [
      | then-is_split+in_ok-split_block+in_ok-push w ↦
          let split : is_split lists term slot ≡ true = test ∙ w.if-is_split.true in
          let is = block_in b c.requires.rules c.block_at.ensures in
          let within = holds_at (λ t. t < length f.blocks) slots slot w.target.result (slots_within c.args.table.now.module_of f is) w.target.ensures in
          let home = home_is f c.args.changes.now c.requires.homes changes w.target.result within in
          more_split plan vars layout b term slots slot (w.in_ok-split_block.field-0 ∷ []) c.loop-slot.blocks.items c.if-is_split.blocks.items _ lt
          (λ t there.
          let same : t ≡ w.target.result = let both : Some t ≡ Some w.target.result = sym there ∙ w.target.ensures in cc in
          one_split plan vars layout b term changes slot t split
          ∙ ap (λ t. split_block plan.naming vars (Slot b slot) t plan.moves ∷ []) (ap layout.home same ∙ sym home)
          ∙ ap (λ block. block ∷ []) (sym (w.in_ok-split_block.ensures plan changes)))
          (ap (λ v. v.items) w.blocks-is ∙ w.in_ok-push.ensures.items)
          (c.loop-slot.invariant plan changes)
      | else-is_split w ↦
          let kept : is_split lists term slot ≡ false = test ∙ w.if-is_split.false in
          more_split plan vars layout b term slots slot [] c.loop-slot.blocks.items c.if-is_split.blocks.items _ lt
          (λ t there. none_split plan vars layout b term changes slot t kept)
          (ap (λ v. v.items) w.blocks-is ∙ sym (append-nil c.loop-slot.blocks.items))
          (c.loop-slot.invariant plan changes)
    ]

pub returns : goal.returns
returns c = λ plan changes block there.
    let f = c.args.function.now in
    let term = c.block_at.result.now.term in
    let is = block_in c.args.number c.requires.rules c.block_at.ensures in
    let few = few_slots is in
    let le : length (slots_of term) ≤ c.loop-slot.slot = omega (arith, few) in
    let same : c.block_at.result.now ≡ block = let both : Some c.block_at.result.now ≡ Some block = sym c.block_at.ensures ∙ there in cc in
    all_split plan (length f.vars) (layout_of plan.moves f.blocks) c.args.number term (slots_of term) c.loop-slot.slot c.loop-slot.blocks.items _ le (c.loop-slot.invariant plan changes)
    ∙ ap (λ x. c.args.blocks.now.items ++ split_blocks plan.naming plan.moves (length f.vars) (layout_of plan.moves f.blocks) c.args.number x.term) same
