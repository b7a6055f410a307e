use Rattle.one_optimised.proofs.Choices.{ChoiceLaws}
use Rattle.one_optimised.proofs.Whole.{one_module, not_both}
use Rattle.one_optimised.proofs.one_optimised.Goals as goal

pub returns-clause-one : goal.returns-clause-one
returns-clause-one c m counts one other is also =
    let choices : ChoiceLaws = record { numbering = c.one_numbering.ensures; stays = c.best_stays.ensures; best = c.one_best_in.ensures; lazy = c.one_lazy.ensures } in
    one_module choices m counts c.one_transformed.ensures one other is also

pub returns-clause-not_both : goal.returns-clause-not_both
returns-clause-not_both c m counts one is =
    let choices : ChoiceLaws = record { numbering = c.one_numbering.ensures; stays = c.best_stays.ensures; best = c.one_best_in.ensures; lazy = c.one_lazy.ensures } in
    not_both choices m counts one is
