use Rattle.std.proofs.Common.{◌≡◌, List, Option, Some, sym, ap, ◌∙◌}
use Rattle.std.specs.Prelude.{slice_get}
use Rattle.std.specs.Option.{option_and_then}
use Rattle.std.proofs.lemmas.Option.{slice_get-get_or}
use Rattle.ir_types.specs.declared.syntax.Function.{Function}
use Rattle.top_call.proofs.Mains.{width_is}
use Rattle.top_call.proofs.run.main_width.Goals as goal

pub returns : goal.returns
returns c =
    let i = c.in_ok-main.main in
    let f = c.in_ok-get.field-0.now in
    let lookup = c.in_ok-get.ensures.lookup in
    let found : Some f ≡ slice_get c.functions.result.now i = ap (λ (f : Function). Some f) lookup.1 ∙ sym (slice_get-get_or c.functions.result.now i f lookup.3.0) in
    ap (λ (o : Option Function). option_and_then (λ f. f.ret) o) (found ∙ ap (λ (fs : List Function). slice_get fs i) c.functions.ensures.list) ∙ width_is c.args.program.now (Some i) c.in_ok-main.ensures.number
