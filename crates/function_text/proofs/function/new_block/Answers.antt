use Rattle.std.proofs.Common.{◌+◌, ◌∙◌, ap, sym, subst, length, arith}
use Rattle.std.specs.Prelude.{slice_index}
use Rattle.flow_graph.specs.Slots.{slots_of}
use Rattle.function_text.specs.ByChanges.{AreBelow, leads_from, led}
use Rattle.function_text.proofs.Terms.{length-leads}
use Rattle.function_text.proofs.NewBlocks.{block_made, ends_fit, few_targets, home_there, operands_below, same_block, targets_within}
use Rattle.function_text.proofs.function.new_block.Goals as goal

pub bounds-homes-number : goal.bounds-homes-number
bounds-homes-number c =
    home_there c.requires.rules c.requires.plan c.requires.homes c.args.number c.requires.there

pub overflow_add-first : goal.overflow_add-first
overflow_add-first c =
    omega (arith, ends_fit c.requires.rules c.requires.plan c.requires.homes c.args.number c.requires.there)

pub leads-requires-clause-targets : goal.leads-requires-clause-targets
leads-requires-clause-targets c =
    targets_within c.requires.rules c.requires.plan c.requires.homes c.args.number c.requires.there

pub leads-requires-clause-few : goal.leads-requires-clause-few
leads-requires-clause-few c =
    few_targets c.requires.rules c.requires.plan c.requires.homes c.args.number c.requires.there

pub leads-requires-clause-fits : goal.leads-requires-clause-fits
leads-requires-clause-fits c =
    rw c.slot_lists-lists.ensures
    (ends_fit c.requires.rules c.requires.plan c.requires.homes c.args.number c.requires.there)

pub new_term-requires-clause-operands : goal.new_term-requires-clause-operands
new_term-requires-clause-operands c =
    let has = c.requires.plan in
    subst (λ l. AreBelow (length l) c.args.block.now.term) (sym c.as_slice.ensures)
    (operands_below c.requires.rules has c.requires.homes c.args.number c.requires.there
    has.are_changes (c.in_ok-text.ensures has.plan has.are_changes c.args.block.now c.requires.there))

pub new_term-requires-clause-leads : goal.new_term-requires-clause-leads
new_term-requires-clause-leads c =
    ap length (c.as_slice-2.ensures.value ∙ c.in_ok-leads.ensures)
    ∙ length-leads c.slot_lists-lists.result.now c.args.block.now.term c.args.homes.now (slice_index c.args.homes.now c.args.number + 1) 0 (slots_of c.args.block.now.term)

pub returns : goal.returns
returns c = λ plan changes.
    let text = c.in_ok-text.ensures plan changes c.args.block.now c.requires.there in
    let instrs = text.instrs in
    let name = c.copied.ensures in
    let leads = c.in_ok-leads.ensures ∙ ap (λ l. leads_from l c.args.block.now.term c.args.homes.now (slice_index c.args.homes.now c.args.number + 1) 0 (slots_of c.args.block.now.term)) c.slot_lists-lists.ensures in
    let term = block_made c.requires.rules c.requires.plan c.requires.homes c.args.number c.requires.there
    changes text leads
    (c.in_ok-term.ensures ∙ ap (λ l. led (slice_index l) c.as_slice-2.result.now c.args.block.now.term) c.as_slice.ensures ∙ ap (λ l. led (slice_index c.in_ok-text.text.numbers) l c.args.block.now.term) c.as_slice-2.ensures.value) in
    same_block name instrs term
