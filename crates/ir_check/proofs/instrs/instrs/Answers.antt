use Rattle.std.proofs.Common.{sym, ◌∙◌, arith}
use Rattle.std.proofs.lemmas.Result.{err_from_is_err_and}
use Rattle.ir_types.specs.ModuleOf.{var_of, instr_of}
use Rattle.ir_uses.proofs.Steps.{passed, stopped, more_some, ended}
use Rattle.ir_check.proofs.Steps.{counted, after_instrs-step, after_instrs-end, instrs_problem-step, instrs_problem-end, vars_from-step, vars_from-end, instrs_from-step, instrs_from-end}
use Rattle.ir_check.proofs.instrs.instrs.Goals as goal

pub returns-in_err-instr-clause-problem : goal.returns-in_err-instr-clause-problem
returns-in_err-instr-clause-problem c =
    let p = err_from_is_err_and c.from_residual.result c.from_residual.ensures.1 in
    let step = instrs_problem-step c.loop-each.reached c.args.instrs.now c.loop-each.each-index c.args.context.now c.each-item.result c.loop-each-test.true c.each-item.is in
    rw (p.1, p.2) (stopped _ _ _ _ c.in_err-instr.ensures.problem (sym c.loop-each.invariant.problem ∙ step))

pub loop-each-preserved : goal.loop-each-preserved
loop-each-preserved c =
    let r = c.loop-each.reached in
    let xs = c.args.instrs.now in
    let i = c.loop-each.each-index in
    let x = c.each-item.result in
    let one_more = counted r x in
    let problem_step = instrs_problem-step r xs i c.args.context.now x c.loop-each-test.true c.each-item.is in
    let after_step = after_instrs-step r xs i x c.loop-each-test.true c.each-item.is in
    let vars_step = vars_from-step r xs i x c.loop-each-test.true c.each-item.is in
    let instrs_step = instrs_from-step r xs i c.args.context.now x c.loop-each-test.true c.each-item.is in
    record {
      problem = rw c.in_ok-pass.ensures (sym (passed _ _ _ c.in_ok-instr.ensures.problem (sym c.loop-each.invariant.problem ∙ problem_step)));
      after = rw c.in_ok-pass.ensures (sym after_step ∙ c.loop-each.invariant.after);
      variables = rw c.in_ok-pass.ensures (more_some c.loop-each.variables.items c.var.result (var_of r x x.kind) _ _ _ _ c.in_ok-push_some-2.ensures c.var.ensures vars_step c.loop-each.invariant.variables);
      instrs = rw c.in_ok-pass.ensures (more_some c.loop-each.made.items c.in_ok-instr.field-0 (instr_of c.args.context.now r x) _ _ _ _ c.in_ok-push_some.ensures c.in_ok-instr.ensures.instr instrs_step c.loop-each.invariant.instrs);
      count = rw c.in_ok-pass.ensures (omega (arith, one_more));
    }

pub returns-clause-problem : goal.returns-clause-problem
returns-clause-problem c = sym c.loop-each.invariant.problem ∙ instrs_problem-end c.loop-each.reached c.args.instrs.now c.loop-each.each-index c.args.context.now c.loop-each-test.false

pub returns-clause-after : goal.returns-clause-after
returns-clause-after c = sym (after_instrs-end c.loop-each.reached c.args.instrs.now c.loop-each.each-index c.loop-each-test.false) ∙ c.loop-each.invariant.after

pub returns-clause-variables : goal.returns-clause-variables
returns-clause-variables c = ended _ _ _ (vars_from-end c.loop-each.reached c.args.instrs.now c.loop-each.each-index c.loop-each-test.false) c.loop-each.invariant.variables

pub returns-clause-instrs : goal.returns-clause-instrs
returns-clause-instrs c = c.from.ensures ∙ ended c.loop-each.made.items _ _ (instrs_from-end c.loop-each.reached c.args.instrs.now c.loop-each.each-index c.args.context.now c.loop-each-test.false) c.loop-each.invariant.instrs
