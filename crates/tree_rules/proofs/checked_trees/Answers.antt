use Rattle.tree_rules.proofs.Whole.{tree_admitted}
use Rattle.tree_rules.proofs.checked_trees.Goals as goal

pub returns : goal.returns
returns c = tree_admitted
