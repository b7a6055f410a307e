use Rattle.std.proofs.Common.{◌≡◌, ◌∙◌, ℕ, List, Some, length, refl, sym, ap, subst, arith}
use Rattle.std.specs.Prelude.{slice_get}
use Rattle.std.proofs.lemmas.Option.{slice_get_read}
use Rattle.ir_types.specs.declared.syntax.Function.{Function}
use Rattle.checker.specs.Numbering.{AreNumberedSoFar}
use Rattle.checker.proofs.Numbering.{few_functions, none_more, one_more}
use Rattle.checker.proofs.numbered.all_numbered.Goals as goal
use Rattle.checker.proofs.numbered.all_numbered.Goals.{then-is_defined+in_ok-numbers_of+in_ok-push, else-is_defined}

pub loop-function-preserved : goal.loop-function-preserved
loop-function-preserved c =
    let m = c.args.program.now in
    let f = c.function-item.result in
    let n = c.loop-function.function-index in
    let numbered = c.loop-function.numbered.items in
    let there : slice_get m.functions n ≡ Some f = rw (sym c.functions-function-items.ensures.list) (slice_get_read c.functions-function-items.result.now _ n f refl c.loop-function-test.true c.function-item.is) in
    elim c.if-is_defined.branch [
      | then-is_defined+in_ok-numbers_of+in_ok-push w ↦ rw (w.numbered-is, w.in_ok-push.ensures.items)
          (one_more m n f numbered there c.loop-function.invariant (sym c.is_defined.ensures ∙ w.if-is_defined.true) w.in_ok-numbers_of.field-0 w.in_ok-numbers_of.ensures)
      | else-is_defined w ↦ rw w.numbered-is (none_more m n f numbered there c.loop-function.invariant (sym c.is_defined.ensures ∙ w.if-is_defined.false))
    ]

pub returns-clause-few : goal.returns-clause-few
returns-clause-few c =
    let m = c.args.program.now in
    let numbered = c.loop-function.numbered.items in
    let n = c.loop-function.function-index in
    let all : n ≡ length m.functions = omega (arith, c.loop-function-test.false, c.loop-function.auto.function-index-end, ap (λ (l : List Function). length l) c.functions-function-items.ensures.list) in
    few_functions m numbered (subst (λ (k : ℕ). AreNumberedSoFar m k numbered) all c.loop-function.invariant) c.functions-function-items.ensures.rules
