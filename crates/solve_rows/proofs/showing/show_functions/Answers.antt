use Rattle.std.proofs.Common.{◌≡◌, ◌<◌, length, get_or, sym, subst, ◌∙◌}
use Rattle.solve_rows.proofs.Counted.{AreLeft, next_counted, next_undefined}
use Rattle.solve_rows.proofs.showing.show_functions.Goals as goal
use Rattle.solve_rows.proofs.showing.show_functions.Goals.{then-len-ne0+in-Some+in_ok-show_function, else-len-ne0}

pub show_function-requires-clause-counts : goal.show_function-requires-clause-counts
show_function-requires-clause-counts c =
    let fs = c.args.module.now.functions in
    let n = c.loop-function.function-index in
    let f = c.function-item.result in
    let there : n < length fs = rw (sym c.functions-function-items.ensures.list) c.loop-function-test.true in
    let is : f ≡ get_or fs n f = rw (sym c.functions-function-items.ensures.list) c.function-item.is in
    (next_counted fs n f c.in-Some.own.now c.in-Some.later.now there is (λ none. c.if-len-ne0.true (c.len.ensures ∙ none))
    (subst (AreLeft fs n) c.in-Some.ensures.cases.0 c.loop-function.invariant)).0

pub show_function-requires-clause-total : goal.show_function-requires-clause-total
show_function-requires-clause-total c =
    let fs = c.args.module.now.functions in
    let n = c.loop-function.function-index in
    let f = c.function-item.result in
    let there : n < length fs = rw (sym c.functions-function-items.ensures.list) c.loop-function-test.true in
    let is : f ≡ get_or fs n f = rw (sym c.functions-function-items.ensures.list) c.function-item.is in
    (next_counted fs n f c.in-Some.own.now c.in-Some.later.now there is (λ none. c.if-len-ne0.true (c.len.ensures ∙ none))
    (subst (AreLeft fs n) c.in-Some.ensures.cases.0 c.loop-function.invariant)).1

pub loop-function-preserved : goal.loop-function-preserved
loop-function-preserved c =
    let fs = c.args.module.now.functions in
    let n = c.loop-function.function-index in
    let f = c.function-item.result in
    let there : n < length fs = rw (sym c.functions-function-items.ensures.list) c.loop-function-test.true in
    let is : f ≡ get_or fs n f = rw (sym c.functions-function-items.ensures.list) c.function-item.is in
    elim c.if-len-ne0.branch [
      | then-len-ne0+in-Some+in_ok-show_function w ↦ rw w.rest-is
          (next_counted fs n f w.in-Some.own.now w.in-Some.later.now there is (λ none. w.if-len-ne0.true (c.len.ensures ∙ none))
          (subst (AreLeft fs n) w.in-Some.ensures.cases.0 c.loop-function.invariant)).2
      | else-len-ne0 w ↦ rw w.rest-is (next_undefined fs n f c.loop-function.rest.now there is (sym c.len.ensures ∙ w.if-len-ne0.false) c.loop-function.invariant)
    ]
