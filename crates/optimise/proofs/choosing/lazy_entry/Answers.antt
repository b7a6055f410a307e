use Rattle.optimise.proofs.Showing.{lazy_entry}
use Rattle.optimise.proofs.choosing.lazy_entry.Goals as goal

pub returns : goal.returns
returns c =
    let is = c.in_ok-lazy.ensures in
    lazy_entry c.args.function.now c.args.points.now c.args.table.now c.args.e c.requires.points c.in_ok-lazy.field-0
    (record { lazy = record { placement = is.placement; lazy = is.lazy }; correct = is.correct; safe = is.safe; computes_least = is.best; lives_least = is.lives })
