use Rattle.ir_reader.proofs.Back.{back}
use Rattle.ir_reader.proofs.laws.reads_back.Goals as goal

pub returns : goal.returns
returns c = back c.printed_trees.ensures c.module_trees.ensures
