use Rattle.std.proofs.Common.{◌≡◌, ◌==◌, ◌+◌, true, false, length, sym, ap, ◌∙◌, refl}
use Rattle.std.proofs.lemmas.Result.{err_from_is_err_and}
use Rattle.profile.proofs.Functions.{functions_step_in, functions_skip, functions_fail_in, functions_all, lines_follow}
use Rattle.profile.proofs.shapes.read_counts.Goals as goal
use Rattle.profile.proofs.shapes.read_counts.Goals.{then-not-is_empty+in_ok-own+in_ok-push, else-not-is_empty}

pub returns-in_err-own-clause-err : goal.returns-in_err-own-clause-err
returns-in_err-own-clause-err c =
    let p = err_from_is_err_and c.from_residual.result c.from_residual.ensures.1 in
    let some : length c.function-item.result.blocks == 0 ≡ false = cc in
    rw (p.1, p.2)
    (functions_fail_in c.args.program.now c.functions-function-items.result.now c.loop-function.function-index c.function-item.result c.args.read.now c.loop-function.at c.len.result c.loop-function.counts c.in_err-own.field-0.0
    c.loop-function.invariant.functions c.len.ensures c.loop-function-test.true c.function-item.is some c.loop-function.invariant.so_far c.in_err-own.ensures.err)

pub loop-function-preserved : goal.loop-function-preserved
loop-function-preserved c = record {
  functions = c.loop-function.invariant.functions;
  so_far = elim c.if-not-is_empty.branch [
    | then-not-is_empty+in_ok-own+in_ok-push w ↦
        (let some : length c.function-item.result.blocks == 0 ≡ false = cc (w.if-not-is_empty.true) in
        functions_step_in c.functions-function-items.result.now c.loop-function.function-index c.function-item.result c.args.read.now c.loop-function.at w.len.result c.if-not-is_empty.at c.loop-function.counts c.if-not-is_empty.counts w.in_ok-own.own
        w.len.ensures (w.at-is ∙ ap (λ n. c.loop-function.at + (1 + n)) w.len-then-not-is_empty.ensures) (w.counts-is ∙ w.in_ok-push.ensures.ok) c.loop-function-test.true c.function-item.is some w.in_ok-own.ensures.ok c.loop-function.invariant.so_far)
    | else-not-is_empty w ↦
        (let none : length c.function-item.result.blocks == 0 ≡ true = cc (w.if-not-is_empty.false) in
        rw (w.at-is, w.counts-is)
        (functions_skip c.functions-function-items.result.now c.loop-function.function-index c.function-item.result c.args.read.now c.loop-function.at c.loop-function.counts c.loop-function-test.true c.function-item.is none c.loop-function.invariant.so_far))
  ];
}

pub returns-then-at-read-clause-err : goal.returns-then-at-read-clause-err
returns-then-at-read-clause-err c =
    lines_follow c.args.program.now c.args.read.now c.loop-function.at (c.loop-function.at + 2) c.loop-function.counts c.if-at-read.true
    (functions_all c.functions-function-items.result.now c.args.program.now.functions c.args.read.now c.loop-function.at c.loop-function.function-index c.loop-function.counts c.loop-function-test.false (sym c.loop-function.invariant.functions) c.loop-function.invariant.so_far)
    refl
