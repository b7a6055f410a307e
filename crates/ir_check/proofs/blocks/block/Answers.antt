use Rattle.ir_check.proofs.Room.{room_left}
use Rattle.ir_check.proofs.blocks.block.Goals as goal

pub leave-requires : goal.leave-requires
leave-requires c = record { few = room_left c.args.block.now c.args.reached.now c.enter.new.self c.instrs.new.reached c.as_slice.result.now c.in_ok-enter.ensures c.as_slice.ensures c.in_ok-instrs.ensures.after c.requires.few }
