use Rattle.std.proofs.Common.{length}
use Rattle.flow_graph.specs.Slots.{slots_of}
use Rattle.read_off.specs.Bits.{event_at, shape_with, targets_by}
use Rattle.read_off.proofs.Adding.{reads_block}
use Rattle.read_off.proofs.reading.read_block.Goals as goal

pub returns : goal.returns
returns c weight = reads_block (event_at c.args.events.now) c.args.sink_side.now c.args.place (shape_with (length c.args.block.now.instrs) (targets_by c.args.places.now (slots_of c.args.block.now.term)) weight)
    c.args.inserted.now c.read_steps.new.inserted c.add-3.new.self c.read_slots.new.inserted c.args.kept.now c.add.new.self c.read_steps.new.kept c.add-2.new.self
    c.in_ok-last.last c.is_exit_inserted.result
    c.in_ok-add.ensures (rw c.len-instructions.ensures at c.in_ok-last.ensures) c.in_ok-add-2.ensures c.is_exit_inserted.ensures c.in_ok-add-3.ensures c.in_ok-read_slots.ensures
