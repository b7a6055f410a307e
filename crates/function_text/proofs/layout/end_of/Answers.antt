use Rattle.std.proofs.Common.{◌≡◌, length, ◌∙◌, sym, true, arith}
use Rattle.flow_graph.specs.Slots.{slots_of}
use Rattle.function_text.specs.ByChanges.{is_split}
use Rattle.function_text.proofs.Layouts.{count_room}
use Rattle.function_text.proofs.layout.end_of.Goals as goal

pub overflow_add-next : goal.overflow_add-next
overflow_add-next c =
    let split : is_split c.args.lists.now c.args.term.now c.loop-slot.slot ≡ true = sym c.is_split.ensures ∙ c.if-is_split.true in
    omega (arith, count_room c.args.lists.now c.args.term.now c.args.first c.loop-slot.slot (length (slots_of c.args.term.now)) split (omega arith))
