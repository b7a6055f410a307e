use Rattle.std.proofs.Common.{sym, ◌∙◌, [], ◌∷◌}
use Rattle.std.proofs.lemmas.Result.{err_from_is_err_and}
use Rattle.ir_types.specs.ModuleOf.{case_of}
use Rattle.ir_uses.proofs.Steps.{passed, stopped, more, map-step}
use Rattle.ir_check.proofs.Steps.{cases_problem-step, cases_problem-end}
use Rattle.ir_check.proofs.terms.cases.Goals as goal

pub returns-in_err-case-clause-problem : goal.returns-in_err-case-clause-problem
returns-in_err-case-clause-problem c =
    let p = err_from_is_err_and c.from_residual.result c.from_residual.ensures.1 in
    let step = cases_problem-step c.args.context.now c.args.here c.args.width c.loop-each.seen.keys c.loop-each.each-index c.args.cases.now c.each-item.result c.loop-each-test.true c.each-item.is in
    rw (p.1, p.2) (stopped _ _ _ _ c.in_err-case.ensures.problem (sym c.loop-each.invariant.problem ∙ step))

pub loop-each-preserved : goal.loop-each-preserved
loop-each-preserved c =
    let step = cases_problem-step c.args.context.now c.args.here c.args.width c.loop-each.seen.keys c.loop-each.each-index c.args.cases.now c.each-item.result c.loop-each-test.true c.each-item.is in
    let made = map-step (case_of c.args.context.now c.args.width) c.args.cases.now c.loop-each.each-index c.each-item.result c.loop-each-test.true c.each-item.is in
    record {
      problem = rw c.in_ok-case.ensures.seen (sym (passed _ _ _ c.in_ok-case.ensures.problem (sym c.loop-each.invariant.problem ∙ step)));
      cases = more c.loop-each.made.items (case_of c.args.context.now c.args.width c.each-item.result ∷ []) _ _ _ _ (rw (← c.in_ok-case.ensures.case) c.in_ok-push.ensures.items) made c.loop-each.invariant.cases;
    }

pub returns-clause-problem : goal.returns-clause-problem
returns-clause-problem c =
    sym c.loop-each.invariant.problem ∙ cases_problem-end c.args.context.now c.args.here c.args.width c.loop-each.seen.keys c.loop-each.each-index c.args.cases.now c.loop-each-test.false
