use Rattle.std.proofs.Common.{false, length, map, get_or, subst, arith}
use Rattle.std.proofs.lemmas.List.{length-map}
use Rattle.flow_graph.specs.Slots.{slots_of}
use Rattle.best_placement.specs.BlockNetwork.{terminator_node, head_node}
use Rattle.function_graphs.specs.Graphs.{place_in}
use Rattle.read_off.specs.Bits.{shape_with}
use Rattle.places_check.specs.Walked.{GoesSlots, GoesSteps}
use Rattle.places_check.proofs.Passing.{goes_block, length_none, slots_next}
use Rattle.places_check.proofs.walking.pass_block.Goals as goal

pub pass-requires-3 : goal.pass-requires-3
pass-requires-3 c =
    let k = (c.skip.ensures 0 0).next in
    let r = c.requires.edges in
    let n = c.len-instructions.ensures in
    omega (arith, k, r, n, length_none 0 0 c.len-instructions.result)

pub pass_slots-requires-clause-edges : goal.pass_slots-requires-clause-edges
pass_slots-requires-clause-edges c =
    let k = (c.skip.ensures 0 0).next in
    let x = c.pass-3.ensures.next in
    let r = c.requires.edges in
    let n = c.len-instructions.ensures in
    omega (arith, k, x, r, n, length_none 0 0 c.len-instructions.result)

pub returns-clause-edges : goal.returns-clause-edges
returns-clause-edges c =
    let k = (c.skip.ensures 0 0).next in
    let x = c.pass-3.ensures.next in
    let n = c.len-instructions.ensures in
    let slots = slots_of c.args.block.now.term in
    let s = slots_next c.args.sink_side.now (get_or c.args.sink_side.now (terminator_node c.args.place) false) (map (place_in c.as_slice-blocks.result.now) slots) c.pass-3.new.self c.pass_slots.new.inserted c.pass_slots.ensures in
    omega (arith, k, x, n, s, length_none 0 0 c.len-instructions.result, length-map slots (place_in c.as_slice-blocks.result.now))

pub returns-clause-block : goal.returns-clause-block
returns-clause-block c event weight its =
    let head = get_or c.args.sink_side.now (head_node c.args.place) false in
    let terminator = get_or c.args.sink_side.now (terminator_node c.args.place) false in
    goes_block event c.args.sink_side.now c.args.place (shape_with (length c.args.block.now.instrs) (map (place_in c.args.expression.now.points.now.blocks) (slots_of c.args.block.now.term)) weight)
    c.args.inserted.now c.skip.new.self c.pass-3.new.self c.pass_slots.new.inserted c.args.kept.now c.pass.new.self c.pass_steps-last.new.kept c.pass-2.new.self
    c.pass_steps-last.result c.is_exit_inserted.result
    c.pass.ensures
    (subst (λ n. GoesSteps event head c.args.inserted.now.next n c.pass.new.self c.pass_steps-last.new.kept c.pass_steps-last.result) c.len-instructions.ensures (c.pass_steps-last.ensures.steps event c.args.inserted.now.next its))
    c.pass-2.ensures
    (rw c.len-instructions.ensures at c.skip.ensures)
    c.is_exit_inserted.ensures c.pass-3.ensures
    (subst (λ l. GoesSlots c.args.sink_side.now terminator (map (place_in l) (slots_of c.args.block.now.term)) c.pass-3.new.self c.pass_slots.new.inserted) c.as_slice-blocks.ensures c.pass_slots.ensures)
