use Rattle.printed_trees.proofs.Whole.{spells_tree}
use Rattle.printed_trees.proofs.printed_trees.Goals as goal

pub returns : goal.returns
returns c = spells_tree c.lexes_back.ensures c.tokens_in_order.ensures
