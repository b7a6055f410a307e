use Rattle.std.proofs.Common.{◌≡◌, ◌<◌, ℕ, true, length, get_or, ◌∙◌, sym, ap, arith}
use Rattle.std.specs.Prelude.{option_map}
use Rattle.ir_types.specs.declared.syntax.Function.{Function}
use Rattle.interp.specs.Main.{is_main}
use Rattle.interp.proofs.Mains.{main_here}
use Rattle.interp.proofs.starts.main_of.Goals as goal

pub returns-then-is_main-clause-number : goal.returns-then-is_main-clause-number
returns-then-is_main-clause-number c =
    let fs = c.args.program.now.functions in
    let n = c.loop-number.number in
    let f = c.function-item.result in
    let same = c.functions-function-items.ensures.list in
    let there : f ≡ get_or fs n f = c.function-item.is ∙ ap (λ l. get_or l n f) same in
    let lt : n < length fs = omega (arith, ap length same) in
    let holds : is_main (get_or fs n f) ≡ true = ap is_main (sym there) ∙ sym c.is_main.ensures ∙ c.if-is_main.true in
    let picked : ℕ × Function → ℕ = λ main. main.0 in
    sym (ap (option_map picked) (c.loop-number.invariant.left ∙ main_here fs n f lt holds))
