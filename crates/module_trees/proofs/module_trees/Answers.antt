use Rattle.module_trees.proofs.Whole.{module_meant}
use Rattle.module_trees.proofs.module_trees.Goals as goal

pub returns : goal.returns
returns c = module_meant
