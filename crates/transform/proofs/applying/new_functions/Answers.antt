use Rattle.std.proofs.Common.{◌≡◌, ◌∙◌, ◌+◌, sym, ap, get_or}
use Rattle.std.proofs.lemmas.List.Sums.{count_by_more_yes, count_by_more_no}
use Rattle.ir_machine.specs.Same.{is_defined}
use Rattle.ir_types.specs.declared.syntax.Function.{Function}
use Rattle.transform.proofs.Wholes.{one_more_new}
use Rattle.transform.proofs.applying.new_functions.Goals as goal
use Rattle.transform.proofs.applying.new_functions.Goals.{then-is_defined, else-is_defined}

pub loop-index-preserved : goal.loop-index-preserved
loop-index-preserved c =
    let fs = c.args.program.now.functions in
    let i = c.loop-index.index in
    let f = c.index-functions-index.result in
    let test : Function → _ = λ f. is_defined f.blocks in
    let f_is : f ≡ get_or fs i f = rw c.functions.ensures.list at c.index-functions-index.is in
    record {
      before_is = elim c.if-is_defined.branch [
        | then-is_defined w ↦ w.before-is ∙ ap (λ n. n + 1) c.loop-index.invariant.before_is
            ∙ sym (count_by_more_yes test fs i f (rw c.functions-index-end.ensures.list at c.loop-index-test.true) (ap test (sym f_is) ∙ sym c.is_defined.ensures ∙ w.if-is_defined.true))
        | else-is_defined w ↦ w.before-is ∙ c.loop-index.invariant.before_is
            ∙ sym (count_by_more_no test fs i f (rw c.functions-index-end.ensures.list at c.loop-index-test.true) (ap test (sym f_is) ∙ sym c.is_defined.ensures ∙ w.if-is_defined.false))
      ];
      news = rw c.in_ok-push.ensures.items (one_more_new fs c.args.placed.now i c.loop-index.functions.items c.in_ok-function_at.field-0 c.loop-index.invariant.news c.in_ok-function_at.ensures);
    }
