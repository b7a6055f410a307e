use Rattle.std.proofs.Common.{◌≡◌, ◌≤◌, ◌∙◌, ◌++◌, ◌∷◌, [], Some, length, get_or, ap, sym, arith}
use Rattle.std.specs.Prelude.{slice_get}
use Rattle.std.proofs.lemmas.Option.{slice_get-get_or}
use Rattle.ir_types.specs.declared.name.Made.TheVariants.{Temp}
use Rattle.ir_types.specs.declared.name.Name.TheVariants.{Made as MadeName}
use Rattle.function_text.proofs.Temporaries.{all_temps, more_temps, temp_within}
use Rattle.function_text.proofs.function.new_vars.Goals as goal

pub expr-requires : goal.expr-requires
expr-requires c =
    let temps = c.as_slice-x-items.result.now in
    let x = get_or temps c.loop-x.x-index 0 in
    let there : slice_get c.args.changes.now.temps c.loop-x.x-index ≡ Some x = ap (λ l. slice_get l c.loop-x.x-index) (sym c.as_slice-x-items.ensures) ∙ slice_get-get_or temps c.loop-x.x-index 0 c.loop-x-test.true in
    let has = c.requires in
    temp_within has.are_changes c.loop-x.x-index x there

pub loop-x-preserved : goal.loop-x-preserved
loop-x-preserved c = λ plan changes.
    let temps = c.as_slice-x-items.result.now in
    let x = get_or temps c.loop-x.x-index 0 in
    let there : slice_get c.args.changes.now.temps c.loop-x.x-index ≡ Some x = ap (λ l. slice_get l c.loop-x.x-index) (sym c.as_slice-x-items.ensures) ∙ slice_get-get_or temps c.loop-x.x-index 0 c.loop-x-test.true in
    more_temps changes c.loop-x.x-index x c.expr.result.now c.loop-x.vars c.push.new.self _ there c.expr.ensures.there
    (c.in_ok-push.ensures.ok ∙ ap (λ w. c.loop-x.vars ++ (w, MadeName c.args.changes.now.prefix (Temp x)) ∷ []) c.result_width-width.ensures)
    (c.loop-x.invariant plan changes)

pub returns : goal.returns
returns c = λ plan changes.
    let le : length c.args.changes.now.temps ≤ c.loop-x.x-index = omega (arith, ap length c.as_slice-x-items.ensures) in
    all_temps changes c.loop-x.x-index c.loop-x.vars _ le (c.loop-x.invariant plan changes)
