use Rattle.optimise.proofs.Gathered.{named_choices}
use Rattle.optimise.proofs.choices.optimised_are_choices.Goals as goal

pub returns : goal.returns
returns c m counts certificate m' is = named_choices m counts certificate is.placed is.are_chosen is.each_good
