use Rattle.std.proofs.Common.{◌≡◌, ◌++◌, length, get_or, ap, ◌∙◌}
use Rattle.ir_types.specs.declared.name.Made.TheVariants.{Operand as MadeOperand}
use Rattle.ir_types.specs.declared.name.Name.TheVariants.{Made}
use Rattle.expressions.specs.declared.syntax.Arg.TheVariants.{Const}
use Rattle.applied.specs.Applied.{arg_load}
use Rattle.block_text.proofs.Steps.{loads_more, loads_end, operands_more, operands_end}
use Rattle.block_text.proofs.grouping.push_operands.Goals as goal

pub loop-index-preserved : goal.loop-index-preserved
loop-index-preserved c =
    let args = c.args.args.now in
    let i = c.loop-index.index in
    let here = c.in_ok-operand.ensures in
    let grown : c.push_operand.new.instrs.items ≡ c.loop-index.instrs.items ++ arg_load (Made c.args.prefix (MadeOperand c.args.x c.args.p i)) (get_or args i (Const 0)) =
    here.loads ∙ ap (λ n. c.loop-index.instrs.items ++ arg_load (Made c.args.prefix (MadeOperand c.args.x c.args.p n)) (get_or args i (Const 0))) c.in_ok-i.ensures.number in
    record {
      loads = loads_more c.args.prefix c.args.x c.args.p i args (Const 0) c.loop-index.instrs.items c.push_operand.new.instrs.items _ c.loop-index-test.true c.loop-index.invariant.loads grown;
      operands = operands_more i args (Const 0) _ c.loop-index.instrs.items c.push_operand.new.instrs.items c.loop-index.operands c.push.new.self _ c.in_ok-operand.operand c.loop-index-test.true grown here.operand c.in_ok-push.ensures.ok c.loop-index.invariant.operands;
    }

pub returns-clause-loads : goal.returns-clause-loads
returns-clause-loads c =
    loads_end c.args.prefix c.args.x c.args.p c.loop-index.index c.args.args.now c.loop-index.instrs.items _ c.loop-index-test.false c.loop-index.invariant.loads

pub returns-clause-operands : goal.returns-clause-operands
returns-clause-operands c =
    operands_end (length c.loop-index.instrs.items) c.loop-index.index c.args.args.now c.loop-index.operands _ c.loop-index-test.false c.loop-index.invariant.operands
