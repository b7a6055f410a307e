use Rattle.std.proofs.Common.{◌≡◌, ◌++◌, ◌==◌, drop, true, false, length, sym, ap, ◌∙◌, arith, subst}
use Rattle.std.specs.List.{AllZip, flat_map}
use Rattle.profile.specs.Counts.{HasSlots}
use Rattle.profile.specs.Text.{line_text, function_lines}
use Rattle.profile.proofs.Printed.{next_inside, next_is, next_put, skipped}
use Rattle.profile.proofs.printing.put_functions.Goals as goal
use Rattle.profile.proofs.printing.put_functions.Goals.{then-not-is_empty+in_ok-put_function, else-not-is_empty}

pub put_function-requires : goal.put_function-requires
put_function-requires c =
    let some : length c.function-item.result.blocks == 0 ≡ false = cc in
    (next_is c.args.functions.now c.loop-function.function-index c.function-item.result c.args.counts.now c.loop-function.number c.index-counts-number.result c.loop-function-test.true c.function-item.is some c.loop-function.invariant.shape c.index-counts-number.is).slots

pub overflow_add-number : goal.overflow_add-number
overflow_add-number c =
    let some : length c.function-item.result.blocks == 0 ≡ false = cc in
    omega (arith, next_inside c.args.functions.now c.loop-function.function-index c.function-item.result c.args.counts.now c.loop-function.number c.loop-function-test.true c.function-item.is some c.loop-function.invariant.shape)

pub loop-function-preserved : goal.loop-function-preserved
loop-function-preserved c = elim c.if-not-is_empty.branch [
  | then-not-is_empty+in_ok-put_function w ↦
      (let some : length c.function-item.result.blocks == 0 ≡ false = cc (w.if-not-is_empty.true) in
      let next = next_is c.args.functions.now c.loop-function.function-index c.function-item.result c.args.counts.now c.loop-function.number w.index-counts-number.result c.loop-function-test.true c.function-item.is some c.loop-function.invariant.shape w.index-counts-number.is in
      rw (w.number-is, w.out-is)
      (record {
        shape = next.shape;
        whole = next_put c.args.functions.now c.loop-function.function-index c.function-item.result c.args.counts.now c.loop-function.number w.index-counts-number.result c.loop-function.out.items w.put_function.new.out.items next w.in_ok-put_function.ensures ∙ c.loop-function.invariant.whole;
      }))
  | else-not-is_empty w ↦
      (let none : length c.function-item.result.blocks == 0 ≡ true = cc (w.if-not-is_empty.false) in
      let same = skipped c.args.functions.now c.loop-function.function-index c.function-item.result c.loop-function-test.true c.function-item.is none in
      rw (w.number-is, w.out-is)
      (record {
        shape = subst (λ l. AllZip HasSlots l (drop c.loop-function.number c.args.counts.now)) same c.loop-function.invariant.shape;
        whole = ap (λ l. c.loop-function.out.items ++ flat_map line_text (function_lines c.loop-function.number l (drop c.loop-function.number c.args.counts.now))) (sym same) ∙ c.loop-function.invariant.whole;
      }))
]
