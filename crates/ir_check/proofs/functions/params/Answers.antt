use Rattle.std.proofs.Common.{◌≤◌, length, sym, ap, ◌∙◌, arith}
use Rattle.std.proofs.lemmas.Result.{err_from_is_err_and}
use Rattle.ir_types.specs.declared.name.Name.{Name}
use Rattle.ir_types.specs.Definitions.{name_of}
use Rattle.ir_uses.proofs.Steps.{passed, stopped, more_one, ended}
use Rattle.ir_check.proofs.Steps.{after_params-step, after_params-end, params_problem-step, params_problem-end, params_from-step, params_from-end}
use Rattle.ir_check.proofs.functions.params.Goals as goal

pub returns-in_err-check_name-clause-problem : goal.returns-in_err-check_name-clause-problem
returns-in_err-check_name-clause-problem c =
    let p = err_from_is_err_and c.from_residual.result c.from_residual.ensures.1 in
    rw (p.1, p.2) (stopped _ _ _ _ c.in_err-check_name.ensures (sym c.loop-index.invariant.problem ∙ params_problem-step c.loop-index.index c.loop-index.before c.args.params.now c.index-params-index.result c.loop-index-test.true c.index-params-index.is))

pub loop-index-preserved : goal.loop-index-preserved
loop-index-preserved c =
    let i = c.loop-index.index in
    let before = c.loop-index.before in
    let ps = c.args.params.now in
    let p = c.index-params-index.result in
    let problem_step = params_problem-step i before ps p c.loop-index-test.true c.index-params-index.is in
    let after_step = after_params-step i before ps p c.loop-index-test.true c.index-params-index.is in
    let params_step = params_from-step i before ps p c.loop-index-test.true c.index-params-index.is in
    record {
      problem = rw c.in_ok-define.ensures (sym (passed _ _ _ c.in_ok-check_name.ensures (sym c.loop-index.invariant.problem ∙ problem_step)));
      after = rw c.in_ok-define.ensures (sym after_step ∙ c.loop-index.invariant.after);
      params = rw c.in_ok-define.ensures (more_one c.loop-index.made.items (p.width, c.name_of.result) (p.width, name_of before p.name) _ _ _ _ c.in_ok-push.ensures.items (ap (λ (n : Name). (p.width, n)) c.name_of.ensures) params_step c.loop-index.invariant.params);
    }

pub returns-clause-problem : goal.returns-clause-problem
returns-clause-problem c =
    let h : length c.args.params.now ≤ c.loop-index.index = omega arith in
    sym c.loop-index.invariant.problem ∙ params_problem-end c.loop-index.index c.loop-index.before c.args.params.now h

pub returns-clause-after : goal.returns-clause-after
returns-clause-after c =
    let h : length c.args.params.now ≤ c.loop-index.index = omega arith in
    sym (after_params-end c.loop-index.index c.loop-index.before c.args.params.now h) ∙ c.loop-index.invariant.after

pub returns-clause-params : goal.returns-clause-params
returns-clause-params c =
    let h : length c.args.params.now ≤ c.loop-index.index = omega arith in
    c.from.ensures ∙ ended c.loop-index.made.items _ _ (params_from-end c.loop-index.index c.loop-index.before c.args.params.now h) c.loop-index.invariant.params
