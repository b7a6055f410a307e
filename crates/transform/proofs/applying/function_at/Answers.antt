use Rattle.std.proofs.Common.{◌≡◌, ◌∙◌, sym, refl, Some}
use Rattle.std.specs.Prelude.{slice_get}
use Rattle.std.proofs.lemmas.Option.{slice_get_read}
use Rattle.std.proofs.lemmas.Result.{IfOk-weaker}
use Rattle.transform.specs.Building.{IsNewAt, IsNewFunction}
use Rattle.transform.proofs.Wholes.{new_declared, new_defined, ready}
use Rattle.transform.proofs.applying.function_at.Goals as goal

pub changed_function-requires : goal.changed_function-requires
changed_function-requires c =
    let m = c.args.program.now in
    let f = c.index-functions-index.result in
    let there : slice_get m.functions c.args.index ≡ Some f = slice_get_read m.functions _ c.args.index f refl c.requires.function (rw c.functions.ensures.list at c.index-functions-index.is) in
    ready m f c.placed_at.result.now c.args.placed.now c.args.index c.functions.ensures.rules c.requires.limits c.requires.placed there (sym c.is_defined.ensures ∙ c.if-is_defined.true) (rw c.requires.before at c.placed_at.ensures)

pub returns-then-is_defined : goal.returns-then-is_defined
returns-then-is_defined c =
    let m = c.args.program.now in
    let f = c.index-functions-index.result in
    let q = c.placed_at.result.now in
    let there : slice_get m.functions c.args.index ≡ Some f = slice_get_read m.functions _ c.args.index f refl c.requires.function (rw c.functions.ensures.list at c.index-functions-index.is) in
    IfOk-weaker c.changed_function.result (IsNewFunction f q) (IsNewAt m.functions c.args.placed.now c.args.index)
    (λ new is. new_defined m.functions c.args.placed.now c.args.index f new q there (sym c.is_defined.ensures ∙ c.if-is_defined.true) (rw c.requires.before at c.placed_at.ensures) is)
    c.changed_function.ensures

pub returns-in_ok-duplicate : goal.returns-in_ok-duplicate
returns-in_ok-duplicate c =
    let m = c.args.program.now in
    let f = c.index-functions-index.result in
    let there : slice_get m.functions c.args.index ≡ Some f = slice_get_read m.functions _ c.args.index f refl c.requires.function (rw c.functions.ensures.list at c.index-functions-index.is) in
    rw c.in_ok-duplicate.ensures (new_declared m.functions c.args.placed.now c.args.index f there (sym c.is_defined.ensures ∙ c.if-is_defined.false))
