use Rattle.std.proofs.Common.{sym, ap, ◌∙◌}
use Rattle.std.specs.Prelude.{slice_get}
use Rattle.ir_machine.proofs.Fitting.{can_run_here, can_end_here}
use Rattle.ir_machine.proofs.step.run_step.Goals as goal

pub run_instr-requires : goal.run_instr-requires
run_instr-requires c =
    let at = sym (c.in-Some-get.ensures ∙ ap (slice_get c.in-Some.block.now.instrs) c.len.ensures) in
    can_run_here c.args.program.now c.args.top.now c.in-Some.block.now c.in-Some-get.instr.now c.requires.rules c.requires.numbers.top (sym c.in-Some.ensures) at

pub end_block-requires : goal.end_block-requires
end_block-requires c = can_end_here c.args.program.now c.args.top.now c.in-Some.block.now c.requires.rules c.requires.numbers.top (sym c.in-Some.ensures)
