use Rattle.std.proofs.Common.{sym, ◌∙◌}
use Rattle.std.proofs.lemmas.Result.{IfOk-weaker}
use Rattle.optimise.specs.Choice.{IsChosenEntry}
use Rattle.optimise.proofs.Showing.{chosen_best, chosen_lazy}
use Rattle.optimise.proofs.choosing.choice.Goals as goal

pub returns-then-traps : goal.returns-then-traps
returns-then-traps c =
    let f = c.args.function.now in
    let p = c.args.points.now in
    let t = c.args.table.now in
    let told = c.traps.ensures in
    IfOk-weaker c.lazy_entry.result _ (IsChosenEntry f p t c.args.counts.now c.args.e)
    (λ entry is. chosen_lazy f p t c.args.e c.requires.points c.args.counts.now told.expr told.there entry (sym told.test ∙ c.if-traps.true) is) c.lazy_entry.ensures

pub returns-else-traps : goal.returns-else-traps
returns-else-traps c =
    let f = c.args.function.now in
    let p = c.args.points.now in
    let t = c.args.table.now in
    let told = c.traps.ensures in
    IfOk-weaker c.best.result _ (IsChosenEntry f p t c.args.counts.now c.args.e)
    (λ entry is. chosen_best f p t c.args.e c.requires.points c.args.counts.now told.expr told.there entry (sym told.test ∙ c.if-traps.false) is) c.best.ensures
