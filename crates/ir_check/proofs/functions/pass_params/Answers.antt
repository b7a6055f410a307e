use Rattle.std.proofs.Common.{◌≤◌, length, sym, ◌∙◌, arith}
use Rattle.ir_check.proofs.Steps.{after_params-step, after_params-end}
use Rattle.ir_check.proofs.functions.pass_params.Goals as goal

pub loop-index-preserved : goal.loop-index-preserved
loop-index-preserved c = rw c.in_ok-define.ensures (sym (after_params-step c.loop-index.index c.loop-index.before c.args.params.now c.index-params-index.result c.loop-index-test.true c.index-params-index.is) ∙ c.loop-index.invariant)

pub returns : goal.returns
returns c =
    let h : length c.args.params.now ≤ c.loop-index.index = omega arith in
    sym (after_params-end c.loop-index.index c.loop-index.before c.args.params.now h) ∙ c.loop-index.invariant
