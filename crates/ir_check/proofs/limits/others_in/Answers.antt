use Rattle.std.proofs.Common.{arith}
use Rattle.ir_types.specs.Limits.{is_alloca}
use Rattle.ir_check.proofs.Sizes.{others_counted}
use Rattle.ir_check.proofs.limits.others_in.Goals as goal

pub overflow_sub-result : goal.overflow_sub-result
overflow_sub-result c =
    let counted = others_counted (λ x. is_alloca x.kind) c.args.instrs.now in
    omega arith

pub returns : goal.returns
returns c =
    let counted = others_counted (λ x. is_alloca x.kind) c.args.instrs.now in
    omega arith
