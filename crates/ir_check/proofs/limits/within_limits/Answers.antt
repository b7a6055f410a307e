use Rattle.std.proofs.Common.{◌≤◌, All, length, rules, refl, subst, arith}
use Rattle.std.proofs.lemmas.List.Elements.{All-more}
use Rattle.std.proofs.lemmas.List.{take_all}
use Rattle.ir_types.specs.Limits.{IsWithinLimits}
use Rattle.ir_check.proofs.limits.within_limits.Goals as goal

pub loop-function-preserved : goal.loop-function-preserved
loop-function-preserved c =
    let fits : IsWithinLimits c.function-item.result = search rules in
    All-more IsWithinLimits c.functions-function-items.result.now c.loop-function.function-index c.function-item.result c.loop-function-test.true c.loop-function.invariant (subst IsWithinLimits c.function-item.is fits)

pub returns : goal.returns
returns c =
    let past : length c.functions-function-items.result.now ≤ c.loop-function.function-index = omega arith in
    let all : All IsWithinLimits c.args.module.now.functions = rw (← c.functions-function-items.ensures.list, ← take_all c.loop-function.function-index c.functions-function-items.result.now past) c.loop-function.invariant in
    (λ _. all, λ _. refl)
