use Rattle.std.proofs.Common.{◌≡◌, ◌==◌, ◌<◌, ◌≤◌, refl, List, true, false, length, get_or, ap, subst, ◌∙◌}
use Rattle.std.proofs.lemmas.Result.{err_from_is_err_and}
use Rattle.ir_types.specs.declared.syntax.Function.{Function}
use Rattle.profile.specs.Counts.{IsBalanced}
use Rattle.profile.proofs.Printed.{next_is}
use Rattle.profile.proofs.Walks.{Walking, walking_more, walking_skip, walking_end, walking_unbalanced}
use Rattle.profile.proofs.checking.check_balances.Goals as goal
use Rattle.profile.proofs.checking.check_balances.Goals.{then-not-is_empty+in_ok-check_balance, else-not-is_empty}

pub check_balance-requires-clause-slots : goal.check_balance-requires-clause-slots
check_balance-requires-clause-slots c =
    let some : length c.function-item.result.blocks == 0 ≡ false = cc in
    (next_is c.functions-function-items.result.now c.loop-function.function-index c.function-item.result c.args.counts.now c.loop-function.number c.index-counts-number.result c.loop-function-test.true c.function-item.is some c.loop-function.invariant.walking.shape c.index-counts-number.is).slots

pub returns-in_err-check_balance-clause-err : goal.returns-in_err-check_balance-clause-err
returns-in_err-check_balance-clause-err c =
    let p = err_from_is_err_and c.from_residual.result c.from_residual.ensures.1 in
    let some : length c.function-item.result.blocks == 0 ≡ false = cc in
    let same = c.loop-function.invariant.functions in
    rw (p.1, p.2)
    (walking_unbalanced c.args.program.now c.args.counts.now c.loop-function.function-index c.loop-function.number c.loop-function.number c.function-item.result c.index-counts-number.result c.in_err-check_balance.field-0.0 refl
    (subst (λ (l : List Function). c.loop-function.function-index < length l) same c.loop-function-test.true) (c.function-item.is ∙ ap (λ (l : List Function). get_or l c.loop-function.function-index c.function-item.result) same) some c.index-counts-number.is c.in_err-check_balance.ensures.err
    (subst (λ (l : List Function). Walking IsBalanced l c.args.counts.now c.loop-function.function-index c.loop-function.number) same c.loop-function.invariant.walking))

pub loop-function-preserved : goal.loop-function-preserved
loop-function-preserved c = record {
  functions = c.loop-function.invariant.functions;
  walking = elim c.if-not-is_empty.branch [
    | then-not-is_empty+in_ok-check_balance w ↦
        (let some : length c.function-item.result.blocks == 0 ≡ false = cc (w.if-not-is_empty.true) in
        rw w.number-is
        (walking_more IsBalanced c.functions-function-items.result.now c.args.counts.now c.loop-function.function-index c.loop-function.number c.function-item.result w.index-counts-number.result c.loop-function-test.true c.function-item.is some w.index-counts-number.is w.in_ok-check_balance.ensures.ok c.loop-function.invariant.walking))
    | else-not-is_empty w ↦
        (let none : length c.function-item.result.blocks == 0 ≡ true = cc (w.if-not-is_empty.false) in
        rw w.number-is
        (walking_skip IsBalanced c.functions-function-items.result.now c.args.counts.now c.loop-function.function-index c.loop-function.number c.function-item.result c.loop-function-test.true c.function-item.is none c.loop-function.invariant.walking))
  ];
}

pub returns-clause-ok : goal.returns-clause-ok
returns-clause-ok c =
    walking_end IsBalanced c.args.program.now.functions c.args.counts.now c.loop-function.function-index c.loop-function.number
    (subst (λ (l : List Function). length l ≤ c.loop-function.function-index) c.loop-function.invariant.functions c.loop-function-test.false) c.requires
    (subst (λ (l : List Function). Walking IsBalanced l c.args.counts.now c.loop-function.function-index c.loop-function.number) c.loop-function.invariant.functions c.loop-function.invariant.walking)
