use Rattle.std.proofs.Common.{sym, ◌∙◌, arith}
use Rattle.ir_check.proofs.Steps.{counted, after_instrs-step, after_instrs-end}
use Rattle.ir_check.proofs.blocks.pass_instrs.Goals as goal

pub loop-instr-preserved : goal.loop-instr-preserved
loop-instr-preserved c =
    let one_more = counted c.loop-instr.reached c.instr-item.result in
    record {
      after = rw c.in_ok-pass.ensures (sym (after_instrs-step c.loop-instr.reached c.args.instrs.now c.loop-instr.instr-index c.instr-item.result c.loop-instr-test.true c.instr-item.is) ∙ c.loop-instr.invariant.after);
      count = rw c.in_ok-pass.ensures (omega (arith, one_more));
    }

pub returns : goal.returns
returns c = sym (after_instrs-end c.loop-instr.reached c.args.instrs.now c.loop-instr.instr-index c.loop-instr-test.false) ∙ c.loop-instr.invariant.after
