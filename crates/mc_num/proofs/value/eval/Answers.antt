use Rattle.mc_num.proofs.Bounds.{bounded_binary}
use Rattle.mc_num.proofs.value.eval.Goals as goal

pub returns-in-Bin-clause-below : goal.returns-in-Bin-clause-below
returns-in-Bin-clause-below c = bounded_binary c.args.op c.in-Bin.bin c.in-Bin.width c.args.args.now c.binary.result c.in-Bin.is c.requires.fit c.binary.ensures
