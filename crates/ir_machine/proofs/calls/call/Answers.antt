use Rattle.std.proofs.Common.{◌<◌, length, get_or, ap, ◌∙◌, arith}
use Rattle.std.proofs.lemmas.Bool.Decides.{nat_tests}
use Rattle.ir_machine.proofs.Acting.{comes_in}
use Rattle.ir_machine.proofs.calls.call.Goals as goal

pub returns-in_ok-enter-clause-ok : goal.returns-in_ok-enter-clause-ok
returns-in_ok-enter-clause-ok c globals =
    let found = c.in-Some.ensures.lookup.3 in
    let lt : c.args.index < length c.args.program.now.functions = omega (arith, found.0, ap length c.functions.ensures.list) in
    let at = found.1 c.in-Some.function.now ∙ ap (λ l. get_or l c.args.index c.in-Some.function.now) c.functions.ensures.list in
    let nonempty : 0 < length c.as_slice.result.now = grind (arith, nat_tests, c.if-is_empty.ensures) in
    comes_in c.args.program.now c.args.index c.in-Some.function.now c.args.arguments c.args.top.now c.enter.new.top c.args.below.now.items c.enter.new.below.items globals lt at
    (omega (arith, nonempty, ap length c.as_slice.ensures))
    (c.in_ok-enter.ensures.ok.0 ∙ c.in_ok-first.ensures)
    c.in_ok-enter.ensures.ok.1
