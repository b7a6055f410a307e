use Rattle.std.proofs.Common.{sym, ◌∙◌, arith}
use Rattle.std.proofs.lemmas.Result.{err_from_is_err_and}
use Rattle.ir_types.specs.Rules.{at_block}
use Rattle.ir_types.specs.ModuleOf.{block_of, vars_from}
use Rattle.ir_check.proofs.Room.{room_for, room_after}
use Rattle.ir_uses.proofs.Steps.{passed, stopped, more, more_one, ended}
use Rattle.ir_check.proofs.Steps.{blocks_problem-step, blocks_problem-end, blocks_from-step, blocks_from-end, variables_from-step, variables_from-end}
use Rattle.ir_check.proofs.blocks.blocks.Goals as goal

pub block-requires : goal.block-requires
block-requires c =
    let next = room_for c.args.blocks.now c.loop-each.each-index c.each-item.result c.loop-each-test.true c.each-item.is in
    record { few_instrs = omega (arith, next); few = omega (arith, next) }

pub returns-in_err-block-clause-problem : goal.returns-in_err-block-clause-problem
returns-in_err-block-clause-problem c =
    let p = err_from_is_err_and c.from_residual.result c.from_residual.ensures.1 in
    let step = blocks_problem-step c.loop-each.reached c.args.blocks.now c.loop-each.each-index c.args.context.now c.each-item.result c.loop-each-test.true c.each-item.is in
    rw (p.1, p.2) (stopped _ _ _ _ c.in_err-block.ensures.problem (sym c.loop-each.invariant.problem ∙ step))

pub loop-each-preserved : goal.loop-each-preserved
loop-each-preserved c =
    let r = c.loop-each.reached in
    let xs = c.args.blocks.now in
    let i = c.loop-each.each-index in
    let x = c.each-item.result in
    let problem_step = blocks_problem-step r xs i c.args.context.now x c.loop-each-test.true c.each-item.is in
    let variables_step = variables_from-step r xs i x c.loop-each-test.true c.each-item.is in
    let blocks_step = blocks_from-step r xs i c.args.context.now x c.loop-each-test.true c.each-item.is in
    let left = room_after r xs i x c.loop-each-test.true c.each-item.is in
    record {
      problem = rw c.in_ok-block.ensures.after (sym (passed _ _ _ c.in_ok-block.ensures.problem (sym c.loop-each.invariant.problem ∙ problem_step)));
      variables = rw c.in_ok-block.ensures.after (more c.loop-each.variables.items (vars_from (at_block r x) x.instrs) _ _ _ _ c.in_ok-block.ensures.variables variables_step c.loop-each.invariant.variables);
      blocks = rw c.in_ok-block.ensures.after (more_one c.loop-each.made.items c.in_ok-block.field-0 (block_of c.args.context.now r x) _ _ _ _ c.in_ok-push.ensures.items c.in_ok-block.ensures.block blocks_step c.loop-each.invariant.blocks);
      room = rw c.in_ok-block.ensures.after (omega (arith, left));
    }

pub returns-clause-problem : goal.returns-clause-problem
returns-clause-problem c = sym c.loop-each.invariant.problem ∙ blocks_problem-end c.loop-each.reached c.args.blocks.now c.loop-each.each-index c.args.context.now c.loop-each-test.false

pub returns-clause-variables : goal.returns-clause-variables
returns-clause-variables c = ended _ _ _ (variables_from-end c.loop-each.reached c.args.blocks.now c.loop-each.each-index c.loop-each-test.false) c.loop-each.invariant.variables

pub returns-clause-blocks : goal.returns-clause-blocks
returns-clause-blocks c = c.from.ensures ∙ ended c.loop-each.made.items _ _ (blocks_from-end c.loop-each.reached c.args.blocks.now c.loop-each.each-index c.args.context.now c.loop-each-test.false) c.loop-each.invariant.blocks
