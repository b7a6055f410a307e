use Rattle.std.proofs.Common.{◌≡◌, ◌==◌, ◌<◌, ◌≤◌, refl, List, true, false, length, get_or, ap, subst, ◌∙◌}
use Rattle.std.proofs.lemmas.Result.{err_from_is_err_and}
use Rattle.ir_types.specs.declared.syntax.Function.{Function}
use Rattle.profile.specs.Counts.{IsUnreachedZero}
use Rattle.profile.proofs.Printed.{next_is}
use Rattle.profile.proofs.Walks.{Walking, walking_more, walking_skip, walking_end, walking_unreached}
use Rattle.profile.proofs.checking.check_all_reached.Goals as goal
use Rattle.profile.proofs.checking.check_all_reached.Goals.{then-not-is_empty+in_ok-check_reached, else-not-is_empty}

pub check_reached-requires-clause-slots : goal.check_reached-requires-clause-slots
check_reached-requires-clause-slots c =
    let some : length c.function-item.result.blocks == 0 ≡ false = cc in
    (next_is c.functions-function-items.result.now c.loop-function.function-index c.function-item.result c.args.counts.now c.loop-function.number c.index-counts-number.result c.loop-function-test.true c.function-item.is some c.loop-function.invariant.walking.shape c.index-counts-number.is).slots

pub returns-in_err-check_reached-clause-err : goal.returns-in_err-check_reached-clause-err
returns-in_err-check_reached-clause-err c =
    let p = err_from_is_err_and c.from_residual.result c.from_residual.ensures.1 in
    let some : length c.function-item.result.blocks == 0 ≡ false = cc in
    let same = c.loop-function.invariant.functions in
    rw (p.1, p.2)
    (walking_unreached c.args.program.now c.args.counts.now c.loop-function.function-index c.loop-function.number c.loop-function.number c.function-item.result c.index-counts-number.result c.in_err-check_reached.field-0.0 c.requires.balanced refl
    (subst (λ (l : List Function). c.loop-function.function-index < length l) same c.loop-function-test.true) (c.function-item.is ∙ ap (λ (l : List Function). get_or l c.loop-function.function-index c.function-item.result) same) some c.index-counts-number.is c.in_err-check_reached.ensures.err
    (subst (λ (l : List Function). Walking IsUnreachedZero l c.args.counts.now c.loop-function.function-index c.loop-function.number) same c.loop-function.invariant.walking))

pub loop-function-preserved : goal.loop-function-preserved
loop-function-preserved c = record {
  functions = c.loop-function.invariant.functions;
  walking = elim c.if-not-is_empty.branch [
    | then-not-is_empty+in_ok-check_reached w ↦
        (let some : length c.function-item.result.blocks == 0 ≡ false = cc (w.if-not-is_empty.true) in
        rw w.number-is
        (walking_more IsUnreachedZero c.functions-function-items.result.now c.args.counts.now c.loop-function.function-index c.loop-function.number c.function-item.result w.index-counts-number.result c.loop-function-test.true c.function-item.is some w.index-counts-number.is w.in_ok-check_reached.ensures.ok c.loop-function.invariant.walking))
    | else-not-is_empty w ↦
        (let none : length c.function-item.result.blocks == 0 ≡ true = cc (w.if-not-is_empty.false) in
        rw w.number-is
        (walking_skip IsUnreachedZero c.functions-function-items.result.now c.args.counts.now c.loop-function.function-index c.loop-function.number c.function-item.result c.loop-function-test.true c.function-item.is none c.loop-function.invariant.walking))
  ];
}

pub returns-clause-ok : goal.returns-clause-ok
returns-clause-ok c =
    walking_end IsUnreachedZero c.args.program.now.functions c.args.counts.now c.loop-function.function-index c.loop-function.number
    (subst (λ (l : List Function). length l ≤ c.loop-function.function-index) c.loop-function.invariant.functions c.loop-function-test.false) c.requires.shape
    (subst (λ (l : List Function). Walking IsUnreachedZero l c.args.counts.now c.loop-function.function-index c.loop-function.number) c.loop-function.invariant.functions c.loop-function.invariant.walking)
