use Rattle.one_optimised.proofs.Choices.{ChoiceLaws}
use Rattle.one_optimised.proofs.Lists.{one_list}
use Rattle.one_optimised.proofs.one_choice.Goals as goal

pub returns : goal.returns
returns c m counts one other is also =
    let choices : ChoiceLaws = record { numbering = c.one_numbering.ensures; stays = c.best_stays.ensures; best = c.one_best_in.ensures; lazy = c.one_lazy.ensures } in
    one_list choices m counts one other is also
