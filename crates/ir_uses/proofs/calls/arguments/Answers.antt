use Rattle.std.proofs.Common.{◌<◌, ◌≤◌, length, sym, ◌∙◌, [], ◌∷◌, arith}
use Rattle.std.proofs.lemmas.Result.{err_from_is_err_and}
use Rattle.ir_types.specs.ModuleOf.{argument_of}
use Rattle.ir_uses.proofs.Steps.{passed, stopped, more, map-step, arguments_problem-step, arguments_problem-end}
use Rattle.ir_uses.proofs.calls.arguments.Goals as goal

pub returns-in_err-argument-clause-problem : goal.returns-in_err-argument-clause-problem
returns-in_err-argument-clause-problem c =
    let p = err_from_is_err_and c.from_residual.result c.from_residual.ensures.1 in
    let in_params : c.loop-index.index < length c.args.params.now = omega arith in
    let step = arguments_problem-step c.args.context.now c.args.here c.loop-index.index c.args.params.now c.args.arguments.now c.index-params-index.result c.index-arguments-index.result in_params c.index-params-index.is c.loop-index-test.true c.index-arguments-index.is in
    rw (p.1, p.2) (stopped _ _ _ _ c.in_err-argument.ensures.problem (sym c.loop-index.invariant.problem ∙ step))

pub loop-index-preserved : goal.loop-index-preserved
loop-index-preserved c =
    let in_params : c.loop-index.index < length c.args.params.now = omega arith in
    let step = arguments_problem-step c.args.context.now c.args.here c.loop-index.index c.args.params.now c.args.arguments.now c.index-params-index.result c.index-arguments-index.result in_params c.index-params-index.is c.loop-index-test.true c.index-arguments-index.is in
    let made = map-step (argument_of c.args.context.now) c.args.arguments.now c.loop-index.index c.index-arguments-index.result c.loop-index-test.true c.index-arguments-index.is in
    record {
      problem = sym (passed _ _ _ c.in_ok-argument.ensures.problem (sym c.loop-index.invariant.problem ∙ step));
      operands = more c.loop-index.operands.items (argument_of c.args.context.now c.index-arguments-index.result ∷ []) _ _ _ _ (rw (← c.in_ok-argument.ensures.operand) c.in_ok-push.ensures.items) made c.loop-index.invariant.operands;
    }

pub returns-clause-problem : goal.returns-clause-problem
returns-clause-problem c =
    let past : length c.args.params.now ≤ c.loop-index.index = omega arith in
    sym c.loop-index.invariant.problem ∙ arguments_problem-end c.args.context.now c.args.here c.loop-index.index c.args.params.now c.args.arguments.now past
