use Rattle.std.proofs.Common.{◌∙◌, arith}
use Rattle.ir_machine.proofs.Waiting.{swapped}
use Rattle.ir_machine.proofs.calls.enter.Goals as goal

pub returns-clause-ok : goal.returns-clause-ok
returns-clause-ok c =
    let s = swapped c.args.below.now.items c.push.new.self.items c.args.first c.args.top.now c.index_mut.result.now c.swap.new.y c.len-last.result c.in_ok-push.ensures.items (omega (arith, c.len-last.ensures, c.in_ok-push.ensures.len, c.args.below.now.ok.0)) c.index_mut.ensures.value c.swap.ensures.y_after in
    (c.swap.ensures.x_after ∙ s.0, s.1)
